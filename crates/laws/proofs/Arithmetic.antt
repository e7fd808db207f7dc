-- Integers of 64 bits: the definitions come to the right ones, and fail only where there is none.
use Rattle.std.proofs.Common.{◌≡◌, ℕ, ◌+◌, ◌-◌, ◌*◌, ◌<◌, ◌≤◌, Bool, true, false, cond, ◌&&◌, eqb, ltb, leb, ◌⊎◌, sym, refl, inl, inr, arith}
use Rattle.std.proofs.lemmas.Bool.{leb-true, leb-false, ltb-true, ltb-false, eqb-true, eqb-false}
use Rattle.spec.specs.Basics.{Except, ok, error}
use Rattle.spec.specs.Values.{Value}
use Rattle.spec.specs.Evaluate.{Error, arith_bounds_error, of_int, half, whole, bounded, difference, is_negative, magnitude, signed, negation}
use Rattle.spec.specs.Promises.{ArithmeticIsExact, FailsOutOfBounds}

int_is : {m n : ℕ} → ◌≡◌ {A = Except Error Value} (ok (of_int m)) (ok (of_int n)) → m ≡ n
int_is {m} {n} h = cc

no-int : {A : Type 0} {n : ℕ} {e : Error} → ◌≡◌ {A = Except Error Value} (error e) (ok (of_int n)) → A
no-int {A} {n} {e} h = let z : ◌≡◌ {A = ℕ} 0 1 = cc in absurd (omega arith)

no-error : {A : Type 0} {n : ℕ} {e : Error} → ◌≡◌ {A = Except Error Value} (ok (of_int n)) (error e) → A
no-error h = no-int (sym h)

-- a number that is within bounds, behind its test
bounded-is : (m n : ℕ) → bounded m ≡ ok (of_int n) → (n < whole) × (n + half ≡ m)
bounded-is m n h = go (leb half m) (ltb m (half + whole)) refl refl h
  where
    go : (a b : Bool) → leb half m ≡ a → ltb m (half + whole) ≡ b → cond (a && b) (ok (of_int (m - half))) (error arith_bounds_error) ≡ ok (of_int n) → (n < whole) × (n + half ≡ m)
    go true true p q k = let e = int_is k in let lo = leb-true half m p in let hi = ltb-true m (half + whole) q in (omega arith, omega arith)
    go true false p q k = no-int k
    go false b p q k = no-int k

unbounded : (m : ℕ) (e : Error) → bounded m ≡ error e → (m < half) ⊎ (half + whole ≤ m)
unbounded m e h = go (leb half m) (ltb m (half + whole)) refl refl h
  where
    go : (a b : Bool) → leb half m ≡ a → ltb m (half + whole) ≡ b → cond (a && b) (ok (of_int (m - half))) (error arith_bounds_error) ≡ error e → (m < half) ⊎ (half + whole ≤ m)
    go true true p q k = no-error k
    go true false p q k = inr (ltb-false m (half + whole) q)
    go false b p q k = inl (leb-false half m p)

difference-is : (i j n : ℕ) → j < whole → difference i j ≡ ok (of_int n) → (n < whole) × (n + j ≡ i + half)
difference-is i j n hj h = let p = bounded-is ((i + whole) - j) n h in (p.0, (let q = p.1 in omega arith))

difference-fails : (i j : ℕ) (e : Error) → j < whole → difference i j ≡ error e → (i + half < j) ⊎ (j + half ≤ i)
difference-fails i j e hj h = elim (unbounded ((i + whole) - j) e h) [ inl p ↦ inl (omega arith) | inr p ↦ inr (omega arith) ]

-- how far above or below zero
above_zero : (m : ℕ) → m < half → (magnitude (half + m) ≡ m) × (is_negative (half + m) ≡ false)
above_zero m h = go (ltb (half + m) half) refl
  where
    go : (b : Bool) → ltb (half + m) half ≡ b → (cond b (half - (half + m)) ((half + m) - half) ≡ m) × (b ≡ false)
    go true p = let q = ltb-true (half + m) half p in absurd (omega arith)
    go false p = (omega arith, refl)

below-zero : (m : ℕ) → m ≤ half → (magnitude (half - m) ≡ m) × (0 < m → is_negative (half - m) ≡ true)
below-zero m h = go (ltb (half - m) half) refl
  where
    go : (b : Bool) → ltb (half - m) half ≡ b → (cond b (half - (half - m)) ((half - m) - half) ≡ m) × (0 < m → b ≡ true)
    go true p = (omega arith, λ _. refl)
    go false p = let q = ltb-false (half - m) half p in (omega arith, λ z. absurd (omega arith))

signed_is : (b : Bool) (m n : ℕ) → signed b m ≡ ok (of_int n) → (n < whole) × (magnitude n ≡ m) × (0 < magnitude n → is_negative n ≡ b)
signed_is true m n h = go (leb m half) refl h
  where
    go : (b : Bool) → leb m half ≡ b → cond b (ok (of_int (half - m))) (error arith_bounds_error) ≡ ok (of_int n) → (n < whole) × (magnitude n ≡ m) × (0 < magnitude n → is_negative n ≡ true)
    go true p k =
        let e : half - m ≡ n = int_is k in
        let q = below-zero m (leb-true m half p) in
        (omega arith, rw (← e) q.0, λ z. rw (← e) (q.1 (rw (← e, q.0) at z)))
    go false p k = no-int k
signed_is false m n h = go (ltb m half) refl h
  where
    go : (b : Bool) → ltb m half ≡ b → cond b (ok (of_int (half + m))) (error arith_bounds_error) ≡ ok (of_int n) → (n < whole) × (magnitude n ≡ m) × (0 < magnitude n → is_negative n ≡ false)
    go true p k =
        let e : half + m ≡ n = int_is k in
        let l = ltb-true m half p in
        let q = above_zero m l in
        (omega arith, rw (← e) q.0, λ z. rw (← e) q.1)
    go false p k = no-int k

signed-fails : (b : Bool) (m : ℕ) (e : Error) → signed b m ≡ error e → half ≤ m
signed-fails true m e h = go (leb m half) refl h
  where
    go : (b : Bool) → leb m half ≡ b → cond b (ok (of_int (half - m))) (error arith_bounds_error) ≡ error e → half ≤ m
    go true p k = no-error k
    go false p k = let q = leb-false m half p in omega arith
signed-fails false m e h = go (ltb m half) refl h
  where
    go : (b : Bool) → ltb m half ≡ b → cond b (ok (of_int (half + m))) (error arith_bounds_error) ≡ error e → half ≤ m
    go true p k = no-error k
    go false p k = ltb-false m half p

negation-is : (i n : ℕ) → i < whole → negation i ≡ ok (of_int n) → (n < whole) × (n + i ≡ whole)
negation-is i n hi h = go (eqb i 0) refl h
  where
    go : (b : Bool) → eqb i 0 ≡ b → cond b (error arith_bounds_error) (ok (of_int (whole - i))) ≡ ok (of_int n) → (n < whole) × (n + i ≡ whole)
    go true p k = no-int k
    go false p k = let e : whole - i ≡ n = int_is k in let z = eqb-false i 0 p in let pos : 0 < i = grind arith in (omega arith, omega arith)

negation-fails : (i : ℕ) (e : Error) → negation i ≡ error e → i ≡ 0
negation-fails i e h = go (eqb i 0) refl h
  where
    go : (b : Bool) → eqb i 0 ≡ b → cond b (error arith_bounds_error) (ok (of_int (whole - i))) ≡ error e → i ≡ 0
    go true p k = eqb-true i 0 p
    go false p k = no-error k

pub arithmetic-is-exact : ArithmeticIsExact
arithmetic-is-exact i j n hi hj = (bounded-is (i + j) n, difference-is i j n hj, signed_is _ (magnitude i * magnitude j) n, negation-is i n hi)

pub fails-out-of-bounds : FailsOutOfBounds
fails-out-of-bounds i j e hi hj = (unbounded (i + j) e, difference-fails i j e hj, signed-fails _ (magnitude i * magnitude j) e, negation-fails i e)
