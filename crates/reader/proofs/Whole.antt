-- A whole call is its kind, the fields of that kind, and nothing behind them.
use Rattle.std.proofs.Common.{◌≡◌, ℕ, ◌+◌, ◌<◌, [], ◌∷◌, length, get_or, drop, Some, None, Option, Ok, Err, Result, sym, refl, ap, ◌∙◌, subst, arith}
use mathlib.Core.Option.{some, none}
use Rattle.std.proofs.lemmas.Bool.{ne_eqb, eq-eqb}
use Rattle.std.specs.List.{slice_get}
use Rattle.std.proofs.lemmas.List.{drop_more}
use Rattle.std.proofs.lemmas.Option.{slice_get_within, get_or_from_slice_get}
use Rattle.std.specs.Borrow.{Bor}
use Rattle.std.specs.Option.{ok_or, option_copied}
use Rattle.spec.specs.Bytes.{Bytes}
use Rattle.reader.specs.declared.grammar.CallKind.{CallKind}
use Rattle.reader.specs.declared.grammar.CallKind.TheVariants.{SetSchema, PutPolicy, RemovePolicy, PutEntity, RemoveEntity, ValidatePolicies, Authorize}
use Rattle.reader.specs.declared.scan.Found.{Found}
use Rattle.wire.specs.Read.{Read, got, stops, past, turn, nth, read_one}
use Rattle.wire.specs.Grammar.{Fields, Contents, call_tags, call_fields, make_call, read_fields, read_node, call_height, read_call, whole, decode}
use Rattle.wire.specs.Sizes.{size_fields}
use Rattle.reader.specs.Code.{call_of}
use Rattle.reader.specs.Found.{found, scanned}
use Rattle.reader.proofs.Along.{one-there}

scanned-made : (k : CallKind) (x : Contents (call_fields (call_of k))) → scanned (make_call (call_of k) x) ≡ Ok (record { call = k; size = size_fields (call_fields (call_of k)) x })
scanned-made SetSchema x = ap (λ m. Ok (record { call = SetSchema; size = m })) (omega arith)
scanned-made PutPolicy x = ap (λ m. Ok (record { call = PutPolicy; size = m })) (omega arith)
scanned-made RemovePolicy x = refl
scanned-made PutEntity x = refl
scanned-made RemoveEntity x = refl
scanned-made ValidatePolicies x = refl
scanned-made Authorize x = refl

-- ---- nothing behind it
module _ (c : CallKind) (n : ℕ) where
  abbrev inside : Read (Contents (call_fields (call_of c))) → Result Found ℕ
  inside R = found (size_fields (call_fields (call_of c))) 1 R

  whole-ok : (R : Read (Contents (call_fields (call_of c)))) (f : Found) → Ok f ≡ inside R → f.end ≡ n → Ok (record { call = c; size = f.size }) ≡ scanned (whole n (past 1 (turn (make_call (call_of c)) R)))
  whole-ok (got x k) f e h =
      let p : 1 + k ≡ n = cc in
      let q : f.size ≡ size_fields (call_fields (call_of c)) x = cc in
      rw (eq-eqb (1 + k) n p) (ap (λ m. Ok (record { call = c; size = m })) q ∙ sym (scanned-made c x))
  whole-ok (stops k) f e h = cc

  whole-behind : (R : Read (Contents (call_fields (call_of c)))) (f : Found) → Ok f ≡ inside R → (f.end ≡ n → ⊥) → Err f.end ≡ scanned (whole n (past 1 (turn (make_call (call_of c)) R)))
  whole-behind (got x k) f e h =
      let p : f.end ≡ 1 + k = cc in
      rw (ne_eqb (1 + k) n (λ q. h (p ∙ q))) (ap (λ m. Err m) p)
  whole-behind (stops k) f e h = cc

  whole-err : (R : Read (Contents (call_fields (call_of c)))) (k : ℕ) → Err k ≡ inside R → Err k ≡ scanned (whole n (past 1 (turn (make_call (call_of c)) R)))
  whole-err (got x i) k e = cc
  whole-err (stops i) k e = cc

-- ---- a call, by its first byte
pub nothing : (bs : Bytes) → None ≡ slice_get bs 0 → Err 0 ≡ scanned (decode bs)
unfolding decode read_call read_one
nothing [] e = refl
nothing (b ∷ bs) e = cc

pub none_first : (bs : Bytes) (r : Option (Bor ℕ)) (k : ℕ) → option_copied r ≡ slice_get bs 0 → ok_or {E = ℕ} r 0 ≡ Err k → Err k ≡ scanned (decode bs)
none_first bs (Some b) k e h = cc
none_first bs None k e h = let z : k ≡ 0 = cc in rw z (nothing bs e)

pub first_there : (bs : Bytes) (r : Option (Bor ℕ)) (b : Bor ℕ) → option_copied r ≡ slice_get bs 0 → ok_or {E = ℕ} r 0 ≡ Ok b → Some b.now ≡ slice_get bs 0
first_there bs (Some a) b e h = let z : a ≡ b = cc in ap (λ (y : Bor ℕ). Some y.now) (sym z) ∙ e
first_there bs None b e h = cc

module _ (bs : Bytes) (b : ℕ) (first : Some b ≡ slice_get bs 0) where
  pub some_byte : 0 < length bs
  some_byte = slice_get_within bs 0 b (sym first)

  pub first_byte : b ≡ get_or bs 0 0
  first_byte = sym (get_or_from_slice_get bs 0 b 0 (sym first))

  pub no_call : nth call_tags b ≡ none → Err 0 ≡ scanned (decode bs)
  unfolding decode read_call read_one
  no_call e = rw (drop_more bs 0 0 some_byte, sym first_byte, e)

  module _ (c : CallKind) (is : nth call_tags b ≡ some (call_of c)) where
    pub is-call : decode bs ≡ whole (length bs) (past 1 (turn (make_call (call_of c)) (read_fields (read_node call_height) (call_fields (call_of c)) (drop 1 bs))))
    unfolding decode read_call
    is-call = rw (one-there call_tags bs 0 some_byte (call_of c) (ap (λ n. nth call_tags n) (sym first_byte) ∙ is))

    -- what the code reads of its fields, by their table
    module _ (shape : Fields) (same : shape ≡ call_fields (call_of c)) where
      abbrev pub read_as : Fields → Result Found ℕ
      read_as fs = found (size_fields fs) 1 (read_fields (read_node call_height) fs (drop 1 bs))

      by_shape : (x : Result Found ℕ) → x ≡ read_as shape → x ≡ read_as (call_fields (call_of c))
      by_shape x e = let P : Fields → Type 0 = λ fs. x ≡ read_as fs in subst P same e

      pub call_ok : (f : Found) → Ok f ≡ read_as shape → f.end ≡ length bs → Ok (record { call = c; size = f.size }) ≡ scanned (decode bs)
      call_ok f e q = whole-ok c (length bs) _ f (by_shape _ e) q ∙ ap scanned (sym is-call)

      pub call-behind : (f : Found) → Ok f ≡ read_as shape → (f.end ≡ length bs → ⊥) → Err f.end ≡ scanned (decode bs)
      call-behind f e q = whole-behind c (length bs) _ f (by_shape _ e) q ∙ ap scanned (sym is-call)

      pub call-err : (k : ℕ) → Err k ≡ read_as shape → Err k ≡ scanned (decode bs)
      call-err k e = whole-err c (length bs) _ k (by_shape _ e) ∙ ap scanned (sym is-call)
