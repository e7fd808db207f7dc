-- What a call puts or removes stands first in it, by its key.
use Rattle.std.proofs.Common.{◌≡◌, ℕ, ◌+◌, ◌≤◌, ◌⊎◌, [], length, drop, refl, ap, ◌∙◌, ⊎_elim}
use Rattle.spec.specs.Basics.{Text}
use Rattle.spec.specs.Bytes.{Bytes}
use Rattle.spec.specs.Values.{EntityUID, code_text, code_uid}
use Rattle.spec.specs.Calls.{put_entity}
use Rattle.wire.specs.Read.{got, read_text}
use Rattle.wire.specs.Tags.{put_policy_tag, remove_policy_tag, put_entity_tag, remove_entity_tag}
use Rattle.wire.specs.Grammar.{uid, attrs, entity, fields, scope, action_scope, condition, effect, small, node, list, one, more, three, read_fields, read_node, call_height, decode}
use Rattle.wire.proofs.Exact.{got-long}
use Rattle.reader.specs.declared.grammar.CallKind.{CallKind}
use Rattle.reader.specs.declared.grammar.CallKind.TheVariants.{SetSchema, PutPolicy, RemovePolicy, PutEntity, RemoveEntity, ValidatePolicies, Authorize}
use Rattle.reader.specs.Code.{call_of}
use Rattle.copy.specs.Keys.{key_call}
use Rattle.copy.proofs.There.{pair-there}
use Rattle.copy.proofs.Pieces.{node-there}
use Rattle.copy.proofs.WholeCalls.{There, told_as}

pub record IdAt (bs : Bytes) : Type 0 where
  pub what : Text
  pub long : ℕ
  pub some_bytes : 1 ≤ length bs
  pub reads : read_text (drop 1 bs) ≡ got what long
  pub is : key_call (decode bs) ≡ code_text what

pub id-there : (bs : Bytes) (k : CallKind) → (k ≡ PutPolicy) ⊎ (k ≡ RemovePolicy) → There bs (call_of k) → IdAt bs
id-there bs k e t = ⊎_elim (λ q. put (told_as bs k PutPolicy q t)) (λ q. removed (told_as bs k RemovePolicy q t)) e
  where
    put : There bs put_policy_tag → IdAt bs
    put t =
        let w = pair-there (read_text (drop 1 bs)) (λ rest. read_fields (read_node call_height) (more (small effect) (more (node scope) (three (node action_scope) (node scope) (list (one (node condition)))))) rest) bs 1 t.what t.long t.reads in
        record { what = t.what.0; long = w.first; some_bytes = t.some_bytes; reads = w.one; is = ap key_call t.is }

    removed : There bs remove_policy_tag → IdAt bs
    removed t = record { what = t.what; long = t.long; some_bytes = t.some_bytes; reads = t.reads; is = ap key_call t.is }

pub record UIDAt (bs : Bytes) : Type 0 where
  pub what : EntityUID
  pub long : ℕ
  pub some_bytes : 1 ≤ length bs
  pub reads : read_node 65 uid (drop 1 bs) ≡ got what long
  pub is : key_call (decode bs) ≡ code_uid what

-- a name has nothing in it that a height would count
lower : (bs : Bytes) → read_node 65 uid bs ≡ read_node call_height uid bs
unfolding read_node
lower bs = refl

pub uid-there : (bs : Bytes) (k : CallKind) → (k ≡ PutEntity) ⊎ (k ≡ RemoveEntity) → There bs (call_of k) → UIDAt bs
uid-there bs k e t = ⊎_elim (λ q. put (told_as bs k PutEntity q t)) (λ q. removed (told_as bs k RemoveEntity q t)) e
  where
    put : There bs put_entity_tag → UIDAt bs
    put t =
        let w = node-there entity bs 1 66 t.what t.long t.reads in
        let none : 0 ≡ w.takes = got-long tt w.tag 0 w.takes w.opens in
        let r : read_fields (read_node 65) (fields entity tt) (drop 1 bs) ≡ got w.contents w.rest = ap (λ k. read_fields (read_node 65) (fields entity tt) (drop (1 + k) bs)) none ∙ w.holds in
        let p = pair-there (read_node 65 uid (drop 1 bs)) (λ rest. read_fields (read_node 65) (three (node attrs) (list (one (node uid))) (node attrs)) rest) bs 1 w.contents w.rest r in
        record { what = w.contents.0; long = p.first; some_bytes = t.some_bytes; reads = p.one; is = ap key_call t.is ∙ ap (λ v. key_call (put_entity v)) w.is }

    removed : There bs remove_entity_tag → UIDAt bs
    removed t = record { what = t.what; long = t.long; some_bytes = t.some_bytes; reads = lower (drop 1 bs) ∙ t.reads; is = ap key_call t.is }

pub no_key : (bs : Bytes) (k : CallKind) → (k ≡ SetSchema) ⊎ ((k ≡ ValidatePolicies) ⊎ (k ≡ Authorize)) → There bs (call_of k) → key_call (decode bs) ≡ []
no_key bs k e t =
    ⊎_elim (λ q. ap key_call (told_as bs k SetSchema q t).is) (λ r. ⊎_elim (λ q. ap key_call (told_as bs k ValidatePolicies q t).is) (λ q. ap key_call (told_as bs k Authorize q t).is) r) e
