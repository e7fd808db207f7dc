-- What stands in the bytes of a call.
use Rattle.std.proofs.Common.{◌≡◌, ℕ, ◌+◌, ◌≤◌, Bool, true, false, cond, ◌⊎◌, eqb, List, [], ◌∷◌, length, get_or, drop, IsOk, sym, refl, ap, ◌∙◌, subst, ⊎_elim, arith}
use mathlib.Core.Option.{Option, some, none}
use Rattle.spec.specs.Bytes.{Bytes}
use Rattle.spec.specs.Calls.{Call, set_schema, put_policy, remove_policy, put_entity, remove_entity, validate_policies, authorize, malformed}
use Rattle.laws.proofs.Texts.{none-some, false-true}
use Rattle.wire.specs.Read.{Read, got, stops, turn, nth, got_one, read_one}
use Rattle.wire.specs.Tags.{CallTag, set_schema_tag, put_policy_tag, remove_policy_tag, put_entity_tag, remove_entity_tag, validate_tag, authorize_tag}
use Rattle.wire.specs.Grammar.{Fields, Contents, call_tags, call_fields, make_call, read_fields, read_node, call_height, read_call, whole, decode}
use Rattle.wire.proofs.Exact.{got-stops, got-long, got_same}
use Rattle.reader.specs.declared.grammar.CallKind.{CallKind}
use Rattle.reader.specs.declared.grammar.CallKind.TheVariants.{SetSchema, PutPolicy, RemovePolicy, RemoveEntity, ValidatePolicies}
use Rattle.reader.specs.Code.{call_of}
use Rattle.reader.specs.Found.{scanned}
use Rattle.copy.specs.declared.leaves.Copied.{Copied}
use Rattle.copy.specs.Copied.{row_fields, plain_fields}
use Rattle.copy.specs.Writing.{written, done, after, Room}
use Rattle.copy.specs.Carried.{row_call}
use Rattle.copy.proofs.Writes.{wrote}
use Rattle.copy.proofs.There.{some_same, follow-there, turn-there}

-- ---- the kind of a call
abbrev pub tag_of : Call → Option CallTag
tag_of (set_schema s) = some set_schema_tag
tag_of (put_policy p) = some put_policy_tag
tag_of (remove_policy t) = some remove_policy_tag
tag_of (put_entity e) = some put_entity_tag
tag_of (remove_entity u) = some remove_entity_tag
tag_of validate_policies = some validate_tag
tag_of (authorize q) = some authorize_tag
tag_of (malformed k) = none

made : (g : CallTag) (x : Contents (call_fields g)) → tag_of (make_call g x) ≡ some g
made set_schema_tag x = refl
made put_policy_tag x = refl
made remove_policy_tag x = refl
made put_entity_tag x = refl
made remove_entity_tag x = refl
made validate_tag x = refl
made authorize_tag x = refl

-- ---- a call was read, and what it carries with it
whole-there : (n : ℕ) (R : Read Call) (g : CallTag) → tag_of (whole n R) ≡ some g → (k : ℕ) × (R ≡ got (whole n R) k)
whole-there n (got c k) g e = go (eqb k n) e
  where
    go : (b : Bool) → tag_of (cond b c (malformed k)) ≡ some g → (j : ℕ) × (got c k ≡ got (cond b c (malformed k)) j)
    go true q = (k, refl)
    go false q = none-some q
whole-there n (stops k) g e = none-some e

pub record There (bs : Bytes) (g : CallTag) : Type 0 where
  pub what : Contents (call_fields g)
  pub long : ℕ
  pub some_bytes : 1 ≤ length bs
  pub byte : nth call_tags (get_or bs 0 0) ≡ some g
  pub reads : read_fields (read_node call_height) (call_fields g) (drop 1 bs) ≡ got what long
  pub is : decode bs ≡ make_call g what

one_byte : {X : Type 0} (xs : List X) (bs : Bytes) (x : X) (n : ℕ) → read_one xs bs ≡ got x n → (1 ≤ length bs) × (n ≡ 1) × (nth xs (get_or bs 0 0) ≡ some x)
unfolding read_one
one_byte xs [] x n e = got-stops x n 0 (sym e)
one_byte {X} xs (b ∷ bs) x n e = go (nth xs b) refl e
  where
    go : (o : Option X) → nth xs b ≡ o → got_one o ≡ got x n → (1 ≤ length (b ∷ bs)) × (n ≡ 1) × (nth xs b ≡ some x)
    go (some y) p q = (omega arith, sym (got-long _ _ _ _ q), p ∙ ap (λ z. some z) (got_same _ _ _ _ q))
    go none p q = got-stops x n 0 (sym q)

decoded : (bs : Bytes) (g : CallTag) → tag_of (decode bs) ≡ some g → (n : ℕ) × (read_call bs ≡ got (decode bs) n)
unfolding decode
decoded bs g e = whole-there (length bs) (read_call bs) g e

pub call-there : (bs : Bytes) (g : CallTag) → tag_of (decode bs) ≡ some g → There bs g
unfolding read_call
call-there bs g e =
    let d = decoded bs g e in
    let w = follow-there (read_one call_tags bs) bs (λ g' rest. turn (make_call g') (read_fields (read_node call_height) (call_fields g') rest)) (decode bs) d.0 d.1 in
    let v = turn-there (make_call w.0) _ (decode bs) w.2 w.4 in
    let b = one_byte call_tags bs w.0 w.1 w.3 in
    let same : w.0 ≡ g = some_same _ _ (sym (made w.0 v.0) ∙ ap tag_of (sym v.2) ∙ e) in
    subst (There bs) same (record { what = v.0; long = w.2; some_bytes = b.0; byte = b.2; reads = ap (λ n. read_fields (read_node call_height) (call_fields w.0) (drop n bs)) (sym b.1) ∙ v.1; is = v.2 })

-- ---- what a call is whose bytes were scanned
tagged : (c : Call) → IsOk (scanned c) → (g : CallTag) × (tag_of c ≡ some g)
tagged (set_schema s) h = (set_schema_tag, refl)
tagged (put_policy p) h = (put_policy_tag, refl)
tagged (remove_policy t) h = (remove_policy_tag, refl)
tagged (put_entity e) h = (put_entity_tag, refl)
tagged (remove_entity u) h = (remove_entity_tag, refl)
tagged validate_policies h = (validate_tag, refl)
tagged (authorize q) h = (authorize_tag, refl)
tagged (malformed k) h = false-true h

pub called : (bs : Bytes) → IsOk (scanned (decode bs)) → (g : CallTag) × There bs g
called bs h = let w = tagged (decode bs) h in (w.0, call-there bs w.0 w.1)

-- its first byte tells it
pub told-there : (bs : Bytes) (k : CallKind) → IsOk (scanned (decode bs)) → nth call_tags (get_or bs 0 0) ≡ some (call_of k) → There bs (call_of k)
told-there bs k h e = let w = called bs h in let same : w.0 ≡ call_of k = some_same _ _ (sym w.1.byte ∙ e) in subst (There bs) same w.1

-- one of two or three kinds
pub told_as : (bs : Bytes) (k m : CallKind) → k ≡ m → There bs (call_of k) → There bs (call_of m)
told_as bs k m e t = subst (λ z. There bs (call_of z)) e t

-- ---- a schema and a policy: the row is that of the fields
abbrev IsFlat : CallKind → Type 0
IsFlat k = ((x : Contents (call_fields (call_of k))) → row_call (make_call (call_of k) x) ≡ row_fields (call_fields (call_of k)) x) × (plain_fields (call_fields (call_of k)) ≡ true)

pub flat-call : (k : CallKind) → (k ≡ SetSchema) ⊎ (k ≡ PutPolicy) → IsFlat k
flat-call k e = ⊎_elim (λ q. subst IsFlat (sym q) (λ x. refl, refl)) (λ q. subst IsFlat (sym q) (λ x. refl, refl)) e

-- ---- a call that carries no tree
pub no_row : (bs : Bytes) (k : CallKind) → (k ≡ RemovePolicy) ⊎ ((k ≡ RemoveEntity) ⊎ (k ≡ ValidatePolicies)) → There bs (call_of k) → row_call (decode bs) ≡ []
no_row bs k e t =
    ⊎_elim (λ q. ap row_call (told_as bs k RemovePolicy q t).is) (λ r. ⊎_elim (λ q. ap row_call (told_as bs k RemoveEntity q t).is) (λ q. ap row_call (told_as bs k ValidatePolicies q t).is) r) e

-- ---- a call that is copied field by field
module _ (bs : Bytes) (g : CallTag) (rows : (x : Contents (call_fields g)) → row_call (make_call g x) ≡ row_fields (call_fields g) x) (to len : ℕ) (t : There bs g) (fits : to + length (row_call (decode bs)) ≤ len) (fs : Fields) (shape : fs ≡ call_fields g) where
  row : row_call (decode bs) ≡ row_fields (call_fields g) t.what
  row = ap row_call t.is ∙ rows t.what

  abbrev pub Fits : Fields → Type 0
  Fits s = Room (row_fields s) (read_fields (read_node call_height) s (drop 1 bs)) to len

  pub call-room : Fits fs
  call-room = subst Fits (sym shape) (record { what = t.what; long = t.long; is = t.reads; fits = omega (arith, fits, ap length row) })

  pub call-done : (xs ys : List ℕ) (r : Copied) → done ys r ≡ after (row_fields fs) xs to 1 (read_fields (read_node call_height) fs (drop 1 bs)) → (ys ≡ written xs to (row_call (decode bs))) × (r.to ≡ to + length (row_call (decode bs)))
  call-done xs ys r e =
      let P : Fields → Type 0 = λ s. done ys r ≡ after (row_fields s) xs to 1 (read_fields (read_node call_height) s (drop 1 bs)) in
      let w = wrote (row_fields (call_fields g)) xs ys to 1 r _ t.what t.long (subst P shape e) t.reads in
      (w.rows ∙ ap (λ zs. written xs to zs) (sym row), w.goes ∙ ap (λ zs. to + length zs) (sym row))
