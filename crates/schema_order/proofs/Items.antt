-- Elements of lists, by what they are.
use Rattle.std.proofs.Common.{◌≡◌, ℕ, ◌+◌, ◌≤◌, Bool, [], length, drop, sym, refl, ap, ◌∙◌, subst, arith}
use Rattle.spec.specs.Basics.{Text, same, less}
use Rattle.spec.specs.Bytes.{Bytes}
use Rattle.spec.specs.Values.{code_uid}
use Rattle.wire.specs.Read.{Read, got, stops}
use Rattle.wire.specs.Grammar.{type, read_node}
use Rattle.schema_order.specs.declared.lists.Listed.{Listed}
use Rattle.schema_order.specs.declared.lists.Listed.TheVariants.{Uids, Entries, Actions, Attributes}
use Rattle.reader.specs.Ends.{Got, long, ending}
use Rattle.schema_order.specs.Places.{made, what, Ends, text_at, read_uid, uid_at, read_item, key, key_at, plain}
use Rattle.reader.proofs.Stood.{text-inside}
use Rattle.schema_order.proofs.Parts.{entry-parts, action-parts, attribute-parts, name_end}

pub made-what : {X Y : Type 0} (d : Y) (f : X → Y) (e : X) (R : Read X) → Got R → made d f R ≡ f (what e R)
made-what d f e (got x n) h = refl
made-what d f e (stops k) h = absurd h

-- at the same place
pub got-at : {X : Type 0} (r : Bytes → Read X) (bs : Bytes) (p q : ℕ) → p ≡ q → Got (r (drop q bs)) → Got (r (drop p bs))
got-at r bs p q e h = subst (λ (k : ℕ). Got (r (drop k bs))) (sym e) h

pub end-at : {X : Type 0} (r : Bytes → Read X) (bs : Bytes) (p q e : ℕ) → p ≡ q → e ≡ ending p (r (drop p bs)) → e ≡ ending q (r (drop q bs))
end-at r bs p q e k h = h ∙ ap (λ (m : ℕ). ending m (r (drop m bs))) k

-- ---- of one kind
pub got-as : (bs : Bytes) (l m : Listed) → l ≡ m → Got (read_item l bs) → Got (read_item m bs)
got-as bs l m e h = subst (λ (k : Listed). Got (read_item k bs)) e h

pub plain-as : (bs : Bytes) (l m : Listed) → l ≡ m → Got (read_item (plain l) bs) → Got (read_item (plain m) bs)
plain-as bs l m e h = subst (λ (k : Listed). Got (read_item (plain k) bs)) e h

pub ends_as : (bs : Bytes) (len at r : ℕ) (l m : Listed) → l ≡ m → Ends len at (read_item m bs) r → Ends len at (read_item l bs) r
ends_as bs len at r l m e h = subst (λ (k : Listed). Ends len at (read_item k bs) r) (sym e) h

pub less_as : (bs : Bytes) (a b : ℕ) (l m : Listed) (x : Bool) → l ≡ m → x ≡ less (key_at m bs a) (key_at m bs b) → x ≡ less (key_at l bs a) (key_at l bs b)
less_as bs a b l m x e h = subst (λ (k : Listed). x ≡ less (key_at k bs a) (key_at k bs b)) (sym e) h

pub same-as : (bs : Bytes) (a b : ℕ) (l m : Listed) (x : Bool) → l ≡ m → x ≡ same (key_at (plain m) bs a) (key_at m bs b) → x ≡ same (key_at (plain l) bs a) (key_at l bs b)
same-as bs a b l m x e h = subst (λ (k : Listed). x ≡ same (key_at (plain k) bs a) (key_at k bs b)) (sym e) h

-- ---- keys
pub less_by : (t u t' u' : Text) (x : Bool) → t ≡ t' → u ≡ u' → x ≡ less t' u' → x ≡ less t u
less_by t u t' u' x p q e = rw (p, q) e

pub same_by : (t u t' u' : Text) (x : Bool) → t ≡ t' → u ≡ u' → x ≡ same t' u' → x ≡ same t u
same_by t u t' u' x p q e = rw (p, q) e

module _ (bs : Bytes) (at : ℕ) where
  pub key-uids : Got (read_item Uids (drop at bs)) → key_at Uids bs at ≡ code_uid (uid_at bs at)
  key-uids h = made-what [] code_uid (record { ty = []; eid = [] }) (read_uid (drop at bs)) h

  pub key-entries : Got (read_item Entries (drop at bs)) → key_at Entries bs at ≡ text_at bs at
  key-entries h = ap (made [] (key Entries)) (entry-parts bs at h).is

  pub key-actions : Got (read_item Actions (drop at bs)) → key_at Actions bs at ≡ code_uid (uid_at bs at)
  key-actions h = ap (made [] (key Actions)) (action-parts bs at h).is

  pub key-attributes : (h : ℕ) → Got (read_item (Attributes h) (drop at bs)) → key_at (Attributes h) bs at ≡ text_at bs (at + 1)
  key-attributes h g = ap (made [] (key (Attributes h))) (attribute-parts h bs at g).is

  -- an attribute ends where its type does
  pub attribute-inside : (h : ℕ) → Got (read_item (Attributes h) (drop at bs)) → at + 9 ≤ length bs
  attribute-inside h g = omega (arith, text-inside bs (at + 1) (attribute-parts h bs at g).name)

  pub attribute-end : (h e r : ℕ) → Got (read_item (Attributes h) (drop at bs)) → e ≡ name_end h bs at → r ≡ ending e (read_node h type (drop e bs)) → r ≡ ending at (read_item (Attributes h) (drop at bs))
  attribute-end h e r g p q = omega (arith, p, q ∙ ap (λ k. ending k (read_node h type (drop k bs))) p, ap long (attribute-parts h bs at g).is)
