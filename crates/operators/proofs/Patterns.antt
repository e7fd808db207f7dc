-- Patterns against texts: what is left of both says what they say as a whole, if of all stars only the last is tried again.
use Rattle.std.proofs.Common.{◌≡◌, ℕ, zero, suc, ◌+◌, ◌-◌, ◌*◌, ◌<◌, ◌≤◌, Bool, true, false, cond, ◌&&◌, ◌||◌, eqb, List, [], ◌∷◌, length, get_or, drop, sym, refl, ap, ◌∙◌, ap₂, add-mul, arith}
use Rattle.std.proofs.lemmas.Bool.Decides.{nat_tests}
use Rattle.std.proofs.lemmas.Bool.{or_right, or_left}
use Rattle.std.proofs.lemmas.Nat.{mul-le}
use Rattle.std.proofs.lemmas.List.{drop_all, drop_more, get_or-take, get_or-drop}
use Rattle.std.specs.List.{list_all, range_with_len}
use Rattle.laws.proofs.Texts.{false-true}
use Rattle.spec.specs.Evaluate.{any_suffix, starts_with, matches}
use Rattle.values.specs.Held.{text_at, TextIn}
use Rattle.values.proofs.Parts.{long}
use Rattle.operators.specs.Patterns.{meets, step_at}
use Rattle.operators.specs.declared.like.Step.{Step}
use Rattle.operators.specs.declared.like.Step.TheVariants.{Star, Same, Differs}

-- ---- small things
pub or_case : {C : Type 0} (a b : Bool) → (a || b) ≡ true → (a ≡ true → C) → (b ≡ true → C) → C
or_case true b e f g = f refl
or_case false b e f g = g e

pub absorb : (a b : Bool) → (b ≡ true → a ≡ true) → (a || b) ≡ a
absorb true b h = refl
absorb false true h = sym (h refl)
absorb false false h = refl

or_self : (a : Bool) → (a || a) ≡ a
or_self true = refl
or_self false = refl

or-false : (a : Bool) → (a || false) ≡ a
or-false true = refl
or-false false = refl

abbrev is_star : Step → Bool
is_star Star = true
is_star Same = false
is_star Differs = false

abbrev is_same_step : Step → Bool
is_same_step Star = false
is_same_step Same = true
is_same_step Differs = false

abbrev differs : Step → Bool
differs Star = false
differs Same = false
differs Differs = true

-- ---- what is left behind the first
abbrev pub tail : List ℕ → List ℕ
tail [] = []
tail (x ∷ xs) = xs

pub drop-tail : (k : ℕ) (ts : List ℕ) → drop (k + 1) ts ≡ tail (drop k ts)
drop-tail k ts = let e : k + 1 ≡ suc k = omega arith in ap (λ n. drop n ts) e ∙ go k ts
  where
    go : (k : ℕ) (ts : List ℕ) → drop (suc k) ts ≡ tail (drop k ts)
    go zero [] = refl
    go zero (t ∷ ts) = refl
    go (suc k) [] = refl
    go (suc k) (t ∷ ts) = go k ts

-- an element that is met lies in the pattern
pub inside : (ps : List ℕ) (i t : ℕ) → (step_at (drop i ps) t ≡ Differs → ⊥) → i < length ps
inside [] zero t n = absurd (n refl)
inside [] (suc i) t n = absurd (n refl)
inside (p ∷ ps) zero t n = omega arith
inside (p ∷ ps) (suc i) t n = let h = inside ps i t n in omega (arith, h)

pub inside-star : (ps : List ℕ) (i t : ℕ) → step_at (drop i ps) t ≡ Star → i < length ps
inside-star ps i t e = inside ps i t (λ d. false-true (ap is_star (sym d ∙ e)))

pub inside-same : (ps : List ℕ) (i t : ℕ) → step_at (drop i ps) t ≡ Same → i < length ps
inside-same ps i t e = inside ps i t (λ d. false-true (ap is_same_step (sym d ∙ e)))

-- ---- any of the suffixes
any-first : (f : List ℕ → Bool) (ts : List ℕ) → f ts ≡ true → any_suffix f ts ≡ true
any-first f [] e = e
any-first f (t ∷ ts) e = or_left (f (t ∷ ts)) (any_suffix f ts) e

any-tail : (f : List ℕ → Bool) (ts : List ℕ) → any_suffix f (tail ts) ≡ true → any_suffix f ts ≡ true
any-tail f [] e = e
any-tail f (t ∷ ts) e = or_right (f (t ∷ ts)) (any_suffix f ts) e

any_here : (f : List ℕ → Bool) (ts : List ℕ) → (f ts || any_suffix f (tail ts)) ≡ any_suffix f ts
any_here f [] = or_self (f [])
any_here f (t ∷ ts) = refl

any-lift : (f g : List ℕ → Bool) (ts : List ℕ) → ((us : List ℕ) → f us ≡ true → any_suffix g us ≡ true) → any_suffix f ts ≡ true → any_suffix g ts ≡ true
any-lift f g [] l e = l [] e
any-lift f g (t ∷ ts) l e = or_case (f (t ∷ ts)) (any_suffix f ts) e (l (t ∷ ts)) (λ h. or_right (g (t ∷ ts)) (any_suffix g ts) (any-lift f g ts l h))

any_next : (f g : List ℕ → Bool) (ts : List ℕ) → ((u : ℕ) (us : List ℕ) → f (u ∷ us) ≡ true → g us ≡ true) → f [] ≡ false → any_suffix f ts ≡ true → any_suffix g (tail ts) ≡ true
any_next f g [] l n e = false-true (sym n ∙ e)
any_next f g (t ∷ ts) l n e = or_case (f (t ∷ ts)) (any_suffix f ts) e (λ h. any-first g ts (l t ts h)) (λ h. any-tail g ts (any_next f g ts l n h))

-- ---- one step
pub star-is : (ps ts : List ℕ) (t : ℕ) → step_at ps t ≡ Star → matches ps ts ≡ any_suffix (matches (tail ps)) ts
unfolding matches
star-is [] ts t e = false-true (ap is_star e)
star-is (p ∷ ps) ts t e = go (eqb p 256) (eqb p t) e
  where
    go : (a b : Bool) → cond a Star (cond b Same Differs) ≡ Star → cond a (any_suffix (matches ps) ts) (starts_with p (matches ps) ts) ≡ any_suffix (matches ps) ts
    go true b e = refl
    go false true e = false-true (ap is_star e)
    go false false e = false-true (ap is_star e)

pub same-is : (ps : List ℕ) (t : ℕ) (ts : List ℕ) → step_at ps t ≡ Same → matches ps (t ∷ ts) ≡ matches (tail ps) ts
unfolding matches
same-is [] t ts e = false-true (ap is_same_step e)
same-is (p ∷ ps) t ts e = go (eqb p 256) (eqb p t) e
  where
    go : (a b : Bool) → cond a Star (cond b Same Differs) ≡ Same → cond a (any_suffix (matches ps) (t ∷ ts)) (b && matches ps ts) ≡ matches ps ts
    go true b e = false-true (ap is_same_step e)
    go false true e = refl
    go false false e = false-true (ap is_same_step e)

pub differs-is : (ps : List ℕ) (t : ℕ) (ts : List ℕ) → step_at ps t ≡ Differs → matches ps (t ∷ ts) ≡ false
unfolding matches
differs-is [] t ts e = refl
differs-is (p ∷ ps) t ts e = go (eqb p 256) (eqb p t) e
  where
    go : (a b : Bool) → cond a Star (cond b Same Differs) ≡ Differs → cond a (any_suffix (matches ps) (t ∷ ts)) (b && matches ps ts) ≡ false
    go true b e = false-true (ap differs e)
    go false true e = false-true (ap differs e)
    go false false e = refl

plain : (p t : ℕ) → meets p t ≡ Same → eqb p 256 ≡ false
plain p t e = go (eqb p 256) (eqb p t) e
  where
    go : (a b : Bool) → cond a Star (cond b Same Differs) ≡ Same → a ≡ false
    go true b e = false-true (ap is_same_step e)
    go false b e = refl

-- what is found further on is found further on behind the element
pub same_next : (ps : List ℕ) (t : ℕ) (ts : List ℕ) → step_at ps t ≡ Same → any_suffix (matches ps) ts ≡ true → any_suffix (matches (tail ps)) (tail ts) ≡ true
unfolding matches
same_next [] t ts e h = false-true (ap is_same_step e)
same_next (p ∷ ps) t ts e h =
    any_next (matches (p ∷ ps)) (matches ps) ts (λ u us k. one (eqb p 256) (any_suffix (matches ps) (u ∷ us)) (eqb p u) (matches ps us) (plain p t e) k) (none (eqb p 256) (matches ps []) (plain p t e)) h
  where
    one : (a x b y : Bool) → a ≡ false → cond a x (b && y) ≡ true → y ≡ true
    one true x b y n k = false-true (sym n)
    one false x true y n k = k
    one false x false y n k = false-true k

    none : (a x : Bool) → a ≡ false → cond a x false ≡ false
    none true x n = false-true (sym n)
    none false x n = refl

-- ---- the loop
-- whether what stands behind the last star fits further on than where it was tried; there is no star at 0
abbrev pub behind : List ℕ → List ℕ → ℕ → ℕ → Bool
behind ps ts star tried = cond (eqb star 0) false (any_suffix (matches (drop star ps)) (drop (tried + 1) ts))

pub record Going (ps ts : List ℕ) (i j star tried : ℕ) : Type 0 where
  pub within : i ≤ length ps
  pub from : star ≤ length ps
  pub low : tried ≤ j
  pub ends : j ≤ length ts
  pub rest : matches ps ts ≡ (matches (drop i ps) (drop j ts) || behind ps ts star tried)
  pub shift : behind ps ts star tried ≡ true → any_suffix (matches (drop i ps)) (drop (j + 1) ts) ≡ true

no_zero : (n : ℕ) → 0 < n → eqb n 0 ≡ false
no_zero n l = grind (arith, nat_tests)

behind-is : (ps ts : List ℕ) (star tried : ℕ) → 0 < star → behind ps ts star tried ≡ any_suffix (matches (drop star ps)) (drop (tried + 1) ts)
behind-is ps ts star tried l = ap (λ b. cond b false (any_suffix (matches (drop star ps)) (drop (tried + 1) ts))) (no_zero star l)

-- all that is tried from a place on: there, or further on
again : (ps ts : List ℕ) (star tried : ℕ) → 0 < star → any_suffix (matches (drop star ps)) (drop tried ts) ≡ (matches (drop star ps) (drop tried ts) || behind ps ts star tried)
again ps ts star tried l =
    sym (any_here (matches (drop star ps)) (drop tried ts)) ∙ ap (λ x. matches (drop star ps) (drop tried ts) || x) (ap (any_suffix (matches (drop star ps))) (sym (drop-tail tried ts)) ∙ sym (behind-is ps ts star tried l))

pub going-starts : (ps ts : List ℕ) → Going ps ts 0 0 0 0
going-starts ps ts = record { within = omega arith; from = omega arith; low = omega arith; ends = omega arith; rest = sym (or-false (matches ps ts)); shift = λ h. false-true h }

pub going-star : (ps ts : List ℕ) (i j star tried t : ℕ) → Going ps ts i j star tried → step_at (drop i ps) t ≡ Star → Going ps ts (i + 1) j (i + 1) j
going-star ps ts i j star tried t g e =
    let l = inside-star ps i t e in
    let is : (us : List ℕ) → matches (drop i ps) us ≡ any_suffix (matches (drop (i + 1) ps)) us = λ us. star-is (drop i ps) us t e ∙ ap (λ qs. any_suffix (matches qs) us) (sym (drop-tail i ps)) in
    let found : behind ps ts star tried ≡ true → matches (drop i ps) (drop j ts) ≡ true =
    λ h. is (drop j ts) ∙ any-tail (matches (drop (i + 1) ps)) (drop j ts) (ap (any_suffix (matches (drop (i + 1) ps))) (sym (drop-tail j ts)) ∙ any-lift (matches (drop i ps)) (matches (drop (i + 1) ps)) (drop (j + 1) ts) (λ us k. sym (is us) ∙ k) (g.shift h)) in
    record {
      within = omega (arith, l);
      from = omega (arith, l);
      low = omega arith;
      ends = g.ends;
      rest = g.rest ∙ absorb (matches (drop i ps) (drop j ts)) (behind ps ts star tried) found ∙ is (drop j ts) ∙ again ps ts (i + 1) j (omega arith);
      shift = λ h. sym (behind-is ps ts (i + 1) j (omega arith)) ∙ h;
    }

pub going-same : (ps ts : List ℕ) (i j star tried : ℕ) → Going ps ts i j star tried → j < length ts → step_at (drop i ps) (get_or ts j 0) ≡ Same → Going ps ts (i + 1) (j + 1) star tried
going-same ps ts i j star tried g u e =
    let l = inside-same ps i (get_or ts j 0) e in
    let is : matches (drop i ps) (drop j ts) ≡ matches (drop (i + 1) ps) (drop (j + 1) ts) =
    ap (matches (drop i ps)) (drop_more ts j 0 u) ∙ same-is (drop i ps) (get_or ts j 0) (drop (j + 1) ts) e ∙ ap (λ qs. matches qs (drop (j + 1) ts)) (sym (drop-tail i ps)) in
    record {
      within = omega (arith, l);
      from = g.from;
      low = omega (arith, g.low);
      ends = omega arith;
      rest = g.rest ∙ ap (λ x. x || behind ps ts star tried) is;
      shift = λ h. ap₂ (λ qs us. any_suffix (matches qs) us) (drop-tail i ps) (drop-tail (j + 1) ts) ∙ same_next (drop i ps) (get_or ts j 0) (drop (j + 1) ts) e (g.shift h);
    }

no_more : (ps ts : List ℕ) (i j star tried : ℕ) → Going ps ts i j star tried → j < length ts → step_at (drop i ps) (get_or ts j 0) ≡ Differs → matches ps ts ≡ behind ps ts star tried
no_more ps ts i j star tried g u e =
    g.rest ∙ ap (λ x. x || behind ps ts star tried) (ap (matches (drop i ps)) (drop_more ts j 0 u) ∙ differs-is (drop i ps) (get_or ts j 0) (drop (j + 1) ts) e)

pub going-back : (ps ts : List ℕ) (i j star tried : ℕ) → Going ps ts i j star tried → j < length ts → 0 < star → step_at (drop i ps) (get_or ts j 0) ≡ Differs → Going ps ts star (tried + 1) star (tried + 1)
going-back ps ts i j star tried g u l e =
    record {
      within = g.from;
      from = g.from;
      low = omega arith;
      ends = omega (arith, g.low);
      rest = no_more ps ts i j star tried g u e ∙ behind-is ps ts star tried l ∙ again ps ts star (tried + 1) l;
      shift = λ h. sym (behind-is ps ts star (tried + 1) l) ∙ h;
    }

pub going-fails : (ps ts : List ℕ) (i j star tried : ℕ) → Going ps ts i j star tried → j < length ts → star ≡ 0 → step_at (drop i ps) (get_or ts j 0) ≡ Differs → matches ps ts ≡ false
going-fails ps ts i j star tried g u z e = no_more ps ts i j star tried g u e ∙ ap (λ n. behind ps ts n tried) z

pub going-ends : (ps ts : List ℕ) (i j star tried : ℕ) → Going ps ts i j star tried → length ts ≤ j → matches ps ts ≡ matches (drop i ps) []
going-ends ps ts i j star tried g l =
    let d : drop j ts ≡ [] = drop_all j ts l in
    let d' : drop (j + 1) ts ≡ [] = drop_all (j + 1) ts (omega arith) in
    g.rest ∙ absorb (matches (drop i ps) (drop j ts)) (behind ps ts star tried) (λ h. ap (matches (drop i ps)) d ∙ ap (any_suffix (matches (drop i ps))) (sym d') ∙ g.shift h) ∙ ap (matches (drop i ps)) d

-- ---- that it ends
pub falls-on : (n k i tried tried' : ℕ) → tried ≤ tried' → i < n → (k - tried') * (n + 1) + (n - (i + 1)) < (k - tried) * (n + 1) + (n - i)
falls-on n k i tried tried' l u = omega (arith, mul-le (k - tried') (n + 1) (k - tried) (n + 1) (omega arith) (omega arith))

pub falls-back : (n k i star tried : ℕ) → tried < k → (k - (tried + 1)) * (n + 1) + (n - star) < (k - tried) * (n + 1) + (n - i)
falls-back n k i star tried l =
    let e : k - tried ≡ (k - (tried + 1)) + 1 = omega arith in
    omega (arith, ap (λ x. x * (n + 1)) e, add-mul (k - (tried + 1)) 1 (n + 1))

-- ---- at the end of the text
star-step : (ps : List ℕ) (i : ℕ) → i < length ps → matches (drop i ps) [] ≡ cond (eqb (get_or ps i 0) 256) (matches (drop (i + 1) ps) []) false
unfolding matches
star-step ps i l = ap (λ qs. matches qs []) (drop_more ps i 0 l)

stars-end : (ps : List ℕ) (i : ℕ) → length ps ≤ i → matches (drop i ps) [] ≡ true
unfolding matches
stars-end ps i l = ap (λ qs. matches qs []) (drop_all i ps l)

-- ---- in memory
pub byte : (m : List ℕ) (p i : ℕ) → i < get_or m p 0 → get_or (text_at m p) i 0 ≡ get_or m (p + 1 + i) 0
byte m p i l = get_or-take (get_or m p 0) (drop (p + 1) m) i 0 l ∙ get_or-drop (p + 1) m i 0

pub step_is : (m : List ℕ) (p q i j x y : ℕ) → TextIn m p → i < get_or m p 0 → j < get_or m q 0 → x ≡ get_or m (p + 1 + i) 0 → y ≡ get_or m (q + 1 + j) 0 → meets x y ≡ step_at (drop i (text_at m p)) (get_or (text_at m q) j 0)
step_is m p q i j x y h l u e f =
    ap₂ meets (e ∙ sym (byte m p i l)) (f ∙ sym (byte m q j u)) ∙ sym (ap (λ qs. step_at qs (get_or (text_at m q) j 0)) (drop_more (text_at m p) i 0 (omega (arith, l, long m p h))))

-- the numbers of the pattern from the i-th on are stars
pub all-stars : (m : List ℕ) (p i k : ℕ) → TextIn m p → i + k ≡ get_or m p 0 → list_all (λ j. eqb (get_or m (p + 1 + j) 0) 256) (range_with_len i k) ≡ matches (drop i (text_at m p)) []
all-stars m p i zero h e = sym (stars-end (text_at m p) i (omega (arith, long m p h)))
all-stars m p i (suc k) h e =
    let b : Bool = eqb (get_or m (p + 1 + i) 0) 256 in
    let x : Bool = matches (drop (i + 1) (text_at m p)) [] in
    ap (λ y. b && y) (all-stars m p (i + 1) k h (omega arith)) ∙ either b x ∙ sym (star-step (text_at m p) i (omega (arith, long m p h)) ∙ ap (λ y. cond (eqb y 256) x false) (byte m p i (omega arith)))
  where
    either : (b x : Bool) → (b && x) ≡ cond b x false
    either true x = refl
    either false x = refl
