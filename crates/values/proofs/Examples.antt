-- The values that the tests have in memory are good, and so are those that they lay down.
use Rattle.std.proofs.Common.{◌≡◌, ℕ, ◌<◌, true, List, [], ◌∷◌, ℤ, sym, refl, ap, ◌∙◌, subst, ap₂, inl, inr, arith}
use Rattle.std.proofs.lemmas.Bool.{cases_eq}
use Rattle.spec.specs.Basics.{less, ascending}
use Rattle.spec.specs.Values as s
use Rattle.spec.specs.Values.{bool, int, prim, set, record_of, nil, cons, empty, attr}
use Rattle.spec.specs.Calls.{canonical}
use Rattle.values.specs.Held.{value_of, Good}
use Rattle.values.specs.Making.{waiting, Laid}
use Rattle.values.specs.declared.nodes.Value.TheVariants.{Int, Set, Record}
use Rattle.values.proofs.OneMore.{at_before}
use Rattle.values.proofs.Means.{rows-mean}

abbrev two-numbers : s.Value
two-numbers = set (cons (prim (int 9223372036854775809)) (cons (prim (int 9223372036854775810)) nil))

two-in-order : canonical two-numbers ≡ true
unfolding ascending less
two-in-order = refl

pub the-set : Good 2 (6 ∷ (2 ∷ (1 ∷ (9223372036854775809 ∷ (1 ∷ (9223372036854775810 ∷ [])))))) (Set 0)
the-set = (rows-mean.0 two-numbers 1 _ 0 two-in-order refl refl).good

abbrev two-attrs : s.Value
two-attrs = record_of (attr (97 ∷ []) (prim (bool true)) (attr (98 ∷ []) (prim (int 9223372036854775815)) empty))

attrs-in-order : canonical two-attrs ≡ true
unfolding ascending less
attrs-in-order = refl

pub the-record : Good 2 (1 ∷ (98 ∷ (1 ∷ (99 ∷ (12 ∷ (2 ∷ (8 ∷ (0 ∷ (1 ∷ (10 ∷ (1 ∷ (9223372036854775815 ∷ (1 ∷ (97 ∷ (1 ∷ (98 ∷ [])))))))))))))))) (Record 4)
the-record = (rows-mean.0 two-attrs 1 _ 4 attrs-in-order refl refl).good

pub two-wait : (m w₀ w₁ w₂ : List ℕ) (y z : ℤ) → Laid w₀ w₁ 8 (Int y) → Laid w₁ w₂ 10 (Int z) → (k : ℕ) → k < 2 → Good 1 m (waiting w₂ 8 k)
two-wait m w₀ w₁ w₂ y z L N k l = elim (cases_eq k 0) [
  | inl q ↦
      let e : waiting w₂ 8 0 ≡ waiting w₁ 8 0 = ap₂ (value_of 0) (at_before w₁ w₂ 10 8 N.before (omega arith)) (at_before w₁ w₂ 10 9 N.before (omega arith)) in
      subst (Good 1 m) (sym (ap (waiting w₂ 8) q ∙ e ∙ L.is)) tt
  | inr u ↦ let q : k ≡ 1 = omega arith in subst (Good 1 m) (sym (ap (waiting w₂ 8) q ∙ N.is)) tt
]
