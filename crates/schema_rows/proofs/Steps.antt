-- One step along a list.
use Rattle.std.proofs.Common.{◌≡◌, ℕ, zero, suc, ◌-◌, ◌<◌, ◌≤◌, Bool, true, false, cond, ◌||◌, List, [], ◌∷◌, Option, Some, None, is_some, find, sym, refl, ap, ◌∙◌, subst, arith}
use mathlib.Core.Option.{some, none}
use Rattle.spec.specs.Basics.{any}
use Rattle.types.proofs.Walks.{above_zero}
use Rattle.schema_rows.specs.Lists.{list_from, past, AllFrom}
use Rattle.schema_rows.specs.Read.{first_that}

pub past-step : (next : ℕ → ℕ) (n e r j : ℕ) → 0 < n → r ≡ next e → j ≡ n - 1 → past next j r ≡ past next n e
past-step next n e r j l q i = ap (λ k. past next k r) i ∙ ap (past next (n - 1)) q ∙ sym (ap (λ k. past next k e) (above_zero n l))

pub past-none : (next : ℕ → ℕ) (n e : ℕ) → n ≤ 0 → past next n e ≡ e
past-none next n e l = let z : n ≡ 0 = omega arith in ap (λ k. past next k e) z

module _ (G : ℕ → Type 0) (next : ℕ → ℕ) where
  pub all_here : (n e : ℕ) → 0 < n → AllFrom G next n e → G e
  all_here n e l g = (subst (λ k. AllFrom G next k e) (above_zero n l) g).0

  pub all-next : (n e r j : ℕ) → 0 < n → r ≡ next e → j ≡ n - 1 → AllFrom G next n e → AllFrom G next j r
  all-next n e r j l q i g = subst (λ k. AllFrom G next k r) (sym i) (subst (AllFrom G next (n - 1)) (sym q) (subst (λ k. AllFrom G next k e) (above_zero n l) g).1)

  pub all_map : (H : ℕ → Type 0) → ((e : ℕ) → G e → H e) → (n e : ℕ) → AllFrom G next n e → AllFrom H next n e
  all_map H f zero e g = tt
  all_map H f (suc n) e g = (f e g.0, all_map H f n (next e) g.1)

pub list-step : {A : Type 0} (f : ℕ → A) (next : ℕ → ℕ) (n e : ℕ) → 0 < n → list_from f next n e ≡ f e ∷ list_from f next (n - 1) (next e)
list-step f next n e l = ap (λ k. list_from f next k e) (above_zero n l)

-- a test of what is read is a test of the places
pub any-places : {A : Type 0} (f : A → Bool) (g : ℕ → A) (next : ℕ → ℕ) (n e : ℕ) → any (λ k. f (g k)) (list_from (λ k. k) next n e) ≡ any f (list_from g next n e)
any-places f g next zero e = refl
any-places f g next (suc n) e = ap (λ b. f (g e) || b) (any-places f g next n (next e))

pub any-find : (t : ℕ → Bool) (xs : List ℕ) → is_some (find t xs) ≡ any t xs
any-find t [] = refl
any-find t (x ∷ xs) = go (t x) (any-find t xs)
  where
    go : (b : Bool) → is_some (find t xs) ≡ any t xs → is_some (cond b (Some x) (find t xs)) ≡ b || any t xs
    go true h = refl
    go false h = h

-- ---- the first place that passes
module _ (t : ℕ → Bool) (next : ℕ → ℕ) where
  abbrev pub sought : ℕ → ℕ → Option ℕ
  sought n e = find t (list_from (λ k. k) next n e)

  pub sought_here : (n e : ℕ) → 0 < n → true ≡ t e → sought n e ≡ Some e
  sought_here n e l h = ap (find t) (list-step (λ k. k) next n e l) ∙ ap (λ b. cond b (Some e) (sought (n - 1) (next e))) (sym h)

  pub sought-on : (n e r j : ℕ) → 0 < n → r ≡ next e → j ≡ n - 1 → false ≡ t e → sought j r ≡ sought n e
  sought-on n e r j l q i h = ap (λ k. sought k r) i ∙ ap (sought (n - 1)) q ∙ sym (ap (find t) (list-step (λ k. k) next n e l) ∙ ap (λ b. cond b (Some e) (sought (n - 1) (next e))) (sym h))

  pub sought_none : (n e : ℕ) → n ≤ 0 → sought n e ≡ None
  sought_none n e l = let z : n ≡ 0 = omega arith in ap (λ k. sought k e) z

-- what stands at the place that was found is the first that passes
module _ {A : Type 0} (s : A → Bool) (f : ℕ → A) (next : ℕ → ℕ) where
  pub first-found : (n e k : ℕ) → sought (λ e. s (f e)) next n e ≡ Some k → first_that s (list_from f next n e) ≡ some (f k)
  first-found zero e k h = absurd (cc)
  first-found (suc n) e k h = go (s (f e)) h (first-found n (next e) k)
    where
      go : (b : Bool) → cond b (Some e) (sought (λ e. s (f e)) next n (next e)) ≡ Some k
          → (sought (λ e. s (f e)) next n (next e) ≡ Some k → first_that s (list_from f next n (next e)) ≡ some (f k)) → cond b (some (f e)) (first_that s (list_from f next n (next e))) ≡ some (f k)
      go true h i = let q : e ≡ k = cc in ap (λ j. some (f j)) q
      go false h i = i h

  pub none-found : (n e : ℕ) → sought (λ e. s (f e)) next n e ≡ None → first_that s (list_from f next n e) ≡ none
  none-found zero e h = refl
  none-found (suc n) e h = go (s (f e)) h (none-found n (next e))
    where
      go : (b : Bool) → cond b (Some e) (sought (λ e. s (f e)) next n (next e)) ≡ None
          → (sought (λ e. s (f e)) next n (next e) ≡ None → first_that s (list_from f next n (next e)) ≡ none) → cond b (some (f e)) (first_that s (list_from f next n (next e))) ≡ none
      go true h i = absurd (cc)
      go false h i = i h
