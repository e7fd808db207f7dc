-- A whole call: the row of what it carries is as long as its fields say, and bytes that are no call carry nothing.
use Rattle.std.proofs.Common.{◌≡◌, ℕ, ◌+◌, Bool, true, false, cond, eqb, ◌⊎◌, ⊎_elim, length, drop, Some, Ok, Err, Result, sym, refl, ap, ◌∙◌, subst, inl, inr}
use mathlib.Core.Option.{some}
use Rattle.std.specs.List.{slice_get}
use Rattle.std.proofs.lemmas.Bool.{ne_eqb, eq-eqb}
use Rattle.spec.specs.Bytes.{Bytes}
use Rattle.spec.specs.Calls.{Call, set_schema, put_policy, remove_policy, put_entity, remove_entity, validate_policies, authorize, malformed}
use Rattle.reader.specs.declared.grammar.CallKind.{CallKind}
use Rattle.reader.specs.declared.grammar.CallKind.TheVariants.{SetSchema, PutPolicy, RemovePolicy, PutEntity, RemoveEntity, ValidatePolicies, Authorize}
use Rattle.reader.specs.declared.scan.Found.{Found}
use Rattle.wire.specs.Read.{Read, got, stops, past, turn, nth}
use Rattle.wire.specs.Grammar.{Fields, Contents, call_tags, call_fields, make_call, read_fields, read_node, call_height, whole, decode}
use Rattle.reader.specs.Code.{call_of}
use Rattle.reader.specs.Found.{found, scanned}
use Rattle.reader.specs.Counts.{count_fields}
use Rattle.reader.proofs.Whole.{is-call}
use Rattle.copy.specs.Carried.{row_call}
use Rattle.measure.specs.Lengths.{row_counts}
use Rattle.measure.specs.Long.{plain-fields}

-- ---- bytes that are no call
pub no_row : (c : Call) (k : ℕ) → Err k ≡ scanned c → 0 ≡ length (row_call c)
no_row (set_schema s) k e = cc
no_row (put_policy p) k e = cc
no_row (remove_policy t) k e = refl
no_row (put_entity x) k e = cc
no_row (remove_entity u) k e = refl
no_row validate_policies k e = refl
no_row (authorize q) k e = cc
no_row (malformed j) k e = refl

-- ---- by its kind: a call that removes carries no tree
abbrev pub Removes : CallKind → Type 0
Removes k = (k ≡ RemovePolicy) ⊎ (k ≡ RemoveEntity)

row-long : (k : CallKind) → (Removes k → ⊥) → (x : Contents (call_fields (call_of k))) → length (row_call (make_call (call_of k) x)) ≡ count_fields row_counts 1 (call_fields (call_of k)) x
row-long SetSchema n x = plain-fields (call_fields (call_of SetSchema)) refl x
row-long PutPolicy n x = plain-fields (call_fields (call_of PutPolicy)) refl x
row-long RemovePolicy n x = absurd (n (inl refl))
row-long PutEntity n x = refl
row-long RemoveEntity n x = absurd (n (inr refl))
row-long ValidatePolicies n x = refl
row-long Authorize n x = refl

bare-row : (k : CallKind) → Removes k → (x : Contents (call_fields (call_of k))) → length (row_call (make_call (call_of k) x)) ≡ 0
bare-row SetSchema h x = ⊎_elim (λ e. cc) (λ e. cc) h
bare-row PutPolicy h x = ⊎_elim (λ e. cc) (λ e. cc) h
bare-row RemovePolicy h x = refl
bare-row PutEntity h x = ⊎_elim (λ e. cc) (λ e. cc) h
bare-row RemoveEntity h x = refl
bare-row ValidatePolicies h x = refl
bare-row Authorize h x = ⊎_elim (λ e. cc) (λ e. cc) h

-- ---- nothing behind it
module _ (c : CallKind) (n : ℕ) where
  abbrev what : Type 0
  what = Contents (call_fields (call_of c))

  abbrev inside : Read what → Result Found ℕ
  inside R = found (count_fields row_counts 1 (call_fields (call_of c))) 1 R

  whole-ok : (R : Read what) (f : Found) → Ok f ≡ inside R → f.end ≡ n → ((x : what) → length (row_call (make_call (call_of c) x)) ≡ count_fields row_counts 1 (call_fields (call_of c)) x) →
      f.size ≡ length (row_call (whole n (past 1 (turn (make_call (call_of c)) R))))
  whole-ok (got x k) f e h same =
      let p : 1 + k ≡ n = cc in
      let q : f.size ≡ count_fields row_counts 1 (call_fields (call_of c)) x = cc in
      rw (eq-eqb (1 + k) n p) (q ∙ sym (same x))
  whole-ok (stops k) f e h same = cc

  whole-behind : (R : Read what) (f : Found) → Ok f ≡ inside R → (f.end ≡ n → ⊥) → 0 ≡ length (row_call (whole n (past 1 (turn (make_call (call_of c)) R))))
  whole-behind (got x k) f e h =
      let p : f.end ≡ 1 + k = cc in
      rw (ne_eqb (1 + k) n (λ q. h (p ∙ q)))
  whole-behind (stops k) f e h = refl

  whole-err : (R : Read what) (k : ℕ) → Err k ≡ inside R → 0 ≡ length (row_call (whole n (past 1 (turn (make_call (call_of c)) R))))
  whole-err (got x i) k e = cc
  whole-err (stops i) k e = refl

  whole-bare : (R : Read what) → ((x : what) → length (row_call (make_call (call_of c) x)) ≡ 0) → 0 ≡ length (row_call (whole n (past 1 (turn (make_call (call_of c)) R))))
  whole-bare (got x k) h = go (eqb (1 + k) n)
    where
      go : (b : Bool) → 0 ≡ length (row_call (cond b (make_call (call_of c) x) (malformed (1 + k))))
      go true = sym (h x)
      go false = refl
  whole-bare (stops k) h = refl

module _ (bs : Bytes) (b : ℕ) (first : Some b ≡ slice_get bs 0) (c : CallKind) (is : nth call_tags b ≡ some (call_of c)) where
  by_call : (n : ℕ) → n ≡ length (row_call (whole (length bs) (past 1 (turn (make_call (call_of c)) (read_fields (read_node call_height) (call_fields (call_of c)) (drop 1 bs)))))) → n ≡ length (row_call (decode bs))
  by_call n e = e ∙ ap (λ d. length (row_call d)) (sym (is-call bs b first c is))

  pub row-bare : Removes c → 0 ≡ length (row_call (decode bs))
  row-bare h = by_call 0 (whole-bare c (length bs) _ (bare-row c h))

  -- what the code reads of its fields, by their table
  module _ (shape : Fields) (same : shape ≡ call_fields (call_of c)) where
    abbrev read_as : Fields → Result Found ℕ
    read_as fs = found (count_fields row_counts 1 fs) 1 (read_fields (read_node call_height) fs (drop 1 bs))

    by_shape : (x : Result Found ℕ) → x ≡ read_as shape → x ≡ read_as (call_fields (call_of c))
    by_shape x e = let P : Fields → Type 0 = λ fs. x ≡ read_as fs in subst P same e

    pub row-whole : (f : Found) → Ok f ≡ read_as shape → f.end ≡ length bs → (Removes c → ⊥) → f.size ≡ length (row_call (decode bs))
    row-whole f e q n = by_call f.size (whole-ok c (length bs) _ f (by_shape _ e) q (row-long c n))

    pub row-behind : (f : Found) → Ok f ≡ read_as shape → (f.end ≡ length bs → ⊥) → 0 ≡ length (row_call (decode bs))
    row-behind f e q = by_call 0 (whole-behind c (length bs) _ f (by_shape _ e) q)

    pub row-err : (k : ℕ) → Err k ≡ read_as shape → 0 ≡ length (row_call (decode bs))
    row-err k e = by_call 0 (whole-err c (length bs) _ k (by_shape _ e))
