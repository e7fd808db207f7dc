-- What is in a set, and what a record has of a name: by the spot that a search gives, or one by one.
use Rattle.std.specs.Ordering.{is_eq}
use Rattle.std.specs.declared.cmp.Ordering.TheVariants.{Less, Equal, Greater}
use Rattle.std.specs.List.{range_with_len, AllWithin, HoldsAt}
use Rattle.std.specs.Bool.{MatchBool}
use Rattle.std.proofs.lemmas.List.FromFn.{get_or-range_with_len, length-range_with_len}
use Rattle.std.specs.Result.{result_ok}
use Rattle.std.proofs.Common.{is_ok, length, get_or, Ordering, Some, None, subst, Result, Ok, Err, ◌≡◌, ℕ, zero, suc, ◌+◌, ◌<◌, ◌≤◌, Bool, true, false, cond, ◌&&◌, ◌||◌, eqb, sym, refl, ap, ◌∙◌, ap₂, inl, inr, arith}
use mathlib.Core.Option.{some, none}
use Rattle.std.proofs.lemmas.Bool.{cases_eq, or_right, ne_eqb}
use Rattle.spec.specs.Basics.{any, all, is_empty, Text, name, find, content, lookup}
use Rattle.spec.specs.Values as s
use Rattle.spec.specs.Values.{elements, fields, same_value}
use Rattle.spec.specs.Evaluate.{is_in}
use Rattle.values.specs.Order.{order_row, order_value}
use Rattle.values.specs.Held.{run, run_attrs}
use Rattle.values.specs.Making.{Spotted}
use Rattle.values.proofs.Orders.{same-is, same-row-is}
use Rattle.values.proofs.Rising.{values, texts, new_apart}

-- ---- whether a value is in a set
module _ (f : ℕ → s.Value) (v : s.Value) where
  in-at : (i r k : ℕ) → i ≤ k → k < i + r → order_value v (f k) ≡ Equal → is_in v (elements (run f i r)) ≡ true
  in-at i zero k l l' e = absurd (omega arith)
  in-at i (suc r) k l l' e = elim (cases_eq i k) [
    | inl q ↦ ap (λ b. b || is_in v (elements (run f (i + 1) r))) (same-is v (f i) ∙ ap is_eq (ap (λ j. order_value v (f j)) q ∙ e))
    | inr u ↦ or_right (same_value v (f i)) _ (in-at (i + 1) r k (omega arith) (omega arith) e)
  ]

  in-none : (i r : ℕ) → ((j : ℕ) → i ≤ j → j < i + r → is_eq (order_value v (f j)) ≡ false) → is_in v (elements (run f i r)) ≡ false
  in-none i zero h = refl
  in-none i (suc r) h = ap₂ ◌||◌ (same-is v (f i) ∙ h i (omega arith) (omega arith)) (in-none (i + 1) r (λ j a b. h j (omega arith) (omega arith)))

  pub in_spot : (n : ℕ) → ((i j : ℕ) → i < j → j < n → order_value (f i) (f j) ≡ Less) → (s : Result ℕ ℕ) → Spotted (λ j. order_value v (f j)) n s →
      is_in v (elements (run f 0 n)) ≡ is_ok s
  in_spot n R (Ok k) S = in-at 0 n k (omega arith) (omega (arith, S.0)) S.1
  in_spot n R (Err k) S = in-none 0 n (λ j a b. new_apart order_value values f n R v k S j (omega arith))

and_false : (b : Bool) → (b && false) ≡ false
and_false true = refl
and_false false = refl

-- ---- a test of each element of a set, as a chain over their places tells it
module _ (g : s.Value → Bool) (f : ℕ → s.Value) where
  all-pass : (i r : ℕ) → ((j : ℕ) → i ≤ j → j < i + r → g (f j) ≡ true) → all g (elements (run f i r)) ≡ true
  all-pass i zero h = refl
  all-pass i (suc r) h = ap₂ ◌&&◌ (h i (omega arith) (omega arith)) (all-pass (i + 1) r (λ j a b. h j (omega arith) (omega arith)))

  one-fails : (i r k : ℕ) → i ≤ k → k < i + r → g (f k) ≡ false → all g (elements (run f i r)) ≡ false
  one-fails i zero k l l' e = absurd (omega arith)
  one-fails i (suc r) k l l' e = elim (cases_eq i k) [
    | inl q ↦ ap (λ b. b && all g (elements (run f (i + 1) r))) (ap (λ j. g (f j)) q ∙ e)
    | inr u ↦ ap (λ b. g (f i) && b) (one-fails (i + 1) r k (omega arith) (omega arith) e) ∙ and_false (g (f i))
  ]

  none-passes : (i r : ℕ) → ((j : ℕ) → i ≤ j → j < i + r → g (f j) ≡ false) → any g (elements (run f i r)) ≡ false
  none-passes i zero h = refl
  none-passes i (suc r) h = ap₂ ◌||◌ (h i (omega arith) (omega arith)) (none-passes (i + 1) r (λ j a b. h j (omega arith) (omega arith)))

  one-passes : (i r k : ℕ) → i ≤ k → k < i + r → g (f k) ≡ true → any g (elements (run f i r)) ≡ true
  one-passes i zero k l l' e = absurd (omega arith)
  one-passes i (suc r) k l l' e = elim (cases_eq i k) [
    | inl q ↦ ap (λ b. b || any g (elements (run f (i + 1) r))) (ap (λ j. g (f j)) q ∙ e)
    | inr u ↦ or_right (g (f i)) _ (one-passes (i + 1) r k (omega arith) (omega arith) e)
  ]

  place-of : (n k d : ℕ) → k < n → get_or (range_with_len 0 n) k d ≡ k
  place-of n k d l = let e : 0 + k ≡ k = omega arith in get_or-range_with_len 0 n k d l ∙ e

  pub all-told : (n : ℕ) (r : Bool) →
      MatchBool r (AllWithin (λ j. g (f j) ≡ true) (range_with_len 0 n) 0 (length (range_with_len 0 n))) ((k : ℕ) × (k < length (range_with_len 0 n)) × HoldsAt (λ j. g (f j) ≡ false) (range_with_len 0 n) k) →
      r ≡ all g (elements (run f 0 n))
  all-told n true h = let e = length-range_with_len 0 n in sym (all-pass 0 n (λ j a b. ap (λ k. g (f k)) (sym (place-of n j 0 (omega arith))) ∙ h j 0 (omega arith) (omega arith)))
  all-told n false h = let e = length-range_with_len 0 n in let l : h.0 < n = omega (arith, h.1) in sym (one-fails 0 n h.0 (omega arith) (omega arith) (ap (λ k. g (f k)) (sym (place-of n h.0 0 l)) ∙ h.2 0))

  pub any-told : (n : ℕ) (r : Bool) →
      MatchBool r ((k : ℕ) × (k < length (range_with_len 0 n)) × HoldsAt (λ j. g (f j) ≡ true) (range_with_len 0 n) k) (AllWithin (λ j. g (f j) ≡ false) (range_with_len 0 n) 0 (length (range_with_len 0 n))) →
      r ≡ any g (elements (run f 0 n))
  any-told n true h = let e = length-range_with_len 0 n in let l : h.0 < n = omega (arith, h.1) in sym (one-passes 0 n h.0 (omega arith) (omega arith) (ap (λ k. g (f k)) (sym (place-of n h.0 0 l)) ∙ h.2 0))
  any-told n false h = let e = length-range_with_len 0 n in sym (none-passes 0 n (λ j a b. ap (λ k. g (f k)) (sym (place-of n j 0 (omega arith))) ∙ h j 0 (omega arith) (omega arith)))

-- ---- whether a set has none
pub empty-is : (f : ℕ → s.Value) (n : ℕ) → eqb n 0 ≡ is_empty (elements (run f 0 n))
empty-is f zero = refl
empty-is f (suc n) = ne_eqb (suc n) 0 (omega arith)

-- ---- what a record has of a name
module _ (a : ℕ → Text) (f : ℕ → s.Value) (t : Text) where
  find_at : (i r k : ℕ) → i ≤ k → k < i + r → ((j : ℕ) → i ≤ j → j < k → order_row t (a j) ≡ Greater) → order_row t (a k) ≡ Equal → lookup t (fields (run_attrs a f i r)) ≡ some (f k)
  unfolding find
  find_at i zero k l l' p e = absurd (omega arith)
  find_at i (suc r) k l l' p e = elim (cases_eq i k) [
    | inl q ↦ ap (λ b. content (cond b (some (a i, f i)) (find name t (fields (run_attrs a f (i + 1) r))))) (same-row-is t (a i) ∙ ap is_eq (ap (λ j. order_row t (a j)) q ∙ e)) ∙ ap (λ j. some (f j)) q
    | inr u ↦ ap (λ b. content (cond b (some (a i, f i)) (find name t (fields (run_attrs a f (i + 1) r))))) (same-row-is t (a i) ∙ ap is_eq (p i (omega arith) (omega arith)))
        ∙ find_at (i + 1) r k (omega arith) (omega arith) (λ j x y. p j (omega arith) y) e
  ]

  find_none : (i r : ℕ) → ((j : ℕ) → i ≤ j → j < i + r → is_eq (order_row t (a j)) ≡ false) → lookup t (fields (run_attrs a f i r)) ≡ none
  unfolding find
  find_none i zero h = refl
  find_none i (suc r) h =
      ap (λ b. content (cond b (some (a i, f i)) (find name t (fields (run_attrs a f (i + 1) r))))) (same-row-is t (a i) ∙ h i (omega arith) (omega arith))
      ∙ find_none (i + 1) r (λ j x y. h j (omega arith) (omega arith))

  pub find-there : (n k : ℕ) → Spotted (λ j. order_row t (a j)) n (Ok k) → lookup t (fields (run_attrs a f 0 n)) ≡ some (f k)
  find-there n k S = find_at 0 n k (omega arith) (omega (arith, S.0)) (λ j x y. S.2 j y) S.1

  pub find-new : (n k : ℕ) → ((i j : ℕ) → i < j → j < n → order_row (a i) (a j) ≡ Less) → Spotted (λ j. order_row t (a j)) n (Err k) → lookup t (fields (run_attrs a f 0 n)) ≡ none
  find-new n k R S = find_none 0 n (λ j x y. new_apart order_row texts a n R t k S j (omega arith))

-- ---- the spot of a search, as an Option
pub spot-told : (o : ℕ → Ordering) (n : ℕ) (r : Result ℕ ℕ) (k : ℕ) → Some k ≡ result_ok r → Spotted o n r → Spotted o n (Ok k)
spot-told o n (Ok j) k e S = subst (λ x. Spotted o n (Ok x)) (cc) S
spot-told o n (Err j) k e S = absurd (cc)

pub no-spot-told : (o : ℕ → Ordering) (n : ℕ) (r : Result ℕ ℕ) → None ≡ result_ok r → Spotted o n r → (j : ℕ) × Spotted o n (Err j)
no-spot-told o n (Ok j) e S = absurd (cc)
no-spot-told o n (Err j) e S = (j, S)
