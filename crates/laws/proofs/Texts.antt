-- Texts: when they are the same, and their order. And the small facts about tests that all other proofs use.
use Rattle.std.proofs.Common.{◌≡◌, ℕ, Bool, true, false, eqb, [], ◌∷◌, sym, refl, arith}
use mathlib.Core.Option.{Option, some, none}
use Rattle.std.proofs.lemmas.Bool.{and_parts, eqb-true, eq-eqb}
use Rattle.std.proofs.lemmas.Bool.Decides.{nat_tests}
use Rattle.spec.specs.Basics.{is_yes, Text, same, less}

-- ---- tests
pub false-true : {A : Type 0} → false ≡ true → A
false-true {A} h = let z : ◌≡◌ {A = ℕ} 0 1 = cc in absurd (omega arith)

pub none-some : {A B : Type 0} {x : A} → ◌≡◌ {A = Option A} none (some x) → B
none-some {A} {B} {x} h = let z : ◌≡◌ {A = ℕ} 0 1 = cc in absurd (omega arith)

pub bool_same : (a b : Bool) → (a ≡ true → b ≡ true) → (b ≡ true → a ≡ true) → a ≡ b
bool_same true b f g = sym (f refl)
bool_same false true f g = g refl
bool_same false false f g = refl

-- a decision that came out yes
pub yes_true : {A : Type 0} (d : Dec A) → is_yes d ≡ true → A
yes_true (yes a) h = a
yes_true (no n) h = false-true h

pub true-yes : {A : Type 0} (d : Dec A) → A → is_yes d ≡ true
true-yes (yes a) b = refl
true-yes (no n) b = absurd (n b)

-- ---- texts
pub same_true : (x y : Text) → same x y ≡ true → x ≡ y
unfolding same
same_true [] [] h = refl
same_true [] (y ∷ ys) h = cc
same_true (x ∷ xs) [] h = cc
same_true (x ∷ xs) (y ∷ ys) h =
    let p = and_parts (eqb x y) (same xs ys) h in
    cc (eqb-true x y p.0, same_true xs ys p.1)

pub same_refl : (x : Text) → same x x ≡ true
unfolding same
same_refl [] = refl
same_refl (x ∷ xs) = rw (eq-eqb x x refl, same_refl xs)

pub less-irrefl : (x : Text) → less x x ≡ false
unfolding less
less-irrefl [] = refl
less-irrefl (x ∷ xs) = let ih = less-irrefl xs in grind (arith, nat_tests)

pub less-tri : (x y : Text) → less x y ≡ false → less y x ≡ false → x ≡ y
unfolding less
less-tri [] [] h k = refl
less-tri [] (y ∷ ys) h k = cc
less-tri (x ∷ xs) [] h k = cc
less-tri (x ∷ xs) (y ∷ ys) h k =
    let e : x ≡ y = grind (arith, nat_tests) in
    let h' : less xs ys ≡ false = grind (arith, nat_tests) in
    let k' : less ys xs ≡ false = grind (arith, nat_tests) in
    cc (e, less-tri xs ys h' k')

pub less-trans : (x y z : Text) → less x y ≡ true → less y z ≡ true → less x z ≡ true
unfolding less
less-trans [] [] z h k = cc
less-trans [] (y ∷ ys) [] h k = cc
less-trans [] (y ∷ ys) (z ∷ zs) h k = refl
less-trans (x ∷ xs) [] z h k = cc
less-trans (x ∷ xs) (y ∷ ys) [] h k = cc
less-trans (x ∷ xs) (y ∷ ys) (z ∷ zs) h k = let ih = less-trans xs ys zs in grind (arith, nat_tests)

-- what is less is not the same
pub less-not : (x y : Text) → less x y ≡ true → same x y ≡ false
less-not x y h = go (same x y) refl
  where
    go : (b : Bool) → same x y ≡ b → b ≡ false
    go true e = let p = same_true x y e in let q = less-irrefl y in let r : less y y ≡ true = rw p at h in cc
    go false e = refl
