-- Rows of ids that are kept in order, each once: what is in them, and that the ids of policies don't depend on the policies' order.
use Rattle.std.proofs.Common.{◌≡◌, Bool, true, false, cond, not, ◌&&◌, ◌||◌, List, [], ◌∷◌, sym, refl, ap, ◌∙◌}
use mathlib.Core.Option.{some, none}
use Rattle.std.proofs.lemmas.Bool.{and_from, or_left, or_right}
use Rattle.spec.specs.Basics.{is_some, any, is_empty, Text, same, less, insert, find, itself}
use Rattle.spec.specs.Policies.{Policy, Policies, ids_where}
use Rattle.spec.specs.Promises.{AllAmong, has_text, all_texts}
use Rattle.laws.proofs.Texts.{same_true, same_refl}
use Rattle.laws.proofs.Keyed.{Sorted, find-insert, sorted_insert, same-finds}
use Rattle.laws.proofs.Found.{any_same}

-- what is found by a text is that text
find-itself : (t : Text) (xs : List Text) → find itself t xs ≡ cond (has_text t xs) (some t) none
unfolding find
find-itself t [] = refl
find-itself t (x ∷ xs) = go (same t x) refl (find-itself t xs)
  where
    go : (b : Bool) → same t x ≡ b → find itself t xs ≡ cond (has_text t xs) (some t) none → cond b (some x) (find itself t xs) ≡ cond (b || has_text t xs) (some t) none
    go true e ih = ap some (sym (same_true t x e))
    go false e ih = ih

found : (b : Bool) (t : Text) → is_some (cond b (some t) none) ≡ b
found true t = refl
found false t = refl

pub has-find : (t : Text) (xs : List Text) → has_text t xs ≡ is_some (find itself t xs)
has-find t xs = rw (find-itself t xs) (sym (found (has_text t xs) t))

pub has-insert : (t u : Text) (xs : List Text) → has_text t (insert itself u xs) ≡ (same t u || has_text t xs)
has-insert t u xs = rw (has-find t (insert itself u xs), find-insert itself t u xs, has-find t xs) (go (same t u))
  where
    go : (b : Bool) → is_some (cond b (some u) (find itself t xs)) ≡ (b || is_some (find itself t xs))
    go true = refl
    go false = refl

pub same-texts : (xs ys : List Text) → Sorted itself xs → Sorted itself ys → ((t : Text) → has_text t xs ≡ has_text t ys) → xs ≡ ys
same-texts xs ys h k e = same-finds itself xs ys h k (λ t. rw (find-itself t xs, find-itself t ys, e t))

pub all-texts : (xs ys : List Text) → ((t : Text) → has_text t xs ≡ true → has_text t ys ≡ true) → all_texts xs ys ≡ true
all-texts [] ys f = refl
all-texts (x ∷ xs) ys f = and_from _ _ (f x (or_left _ _ (same_refl x))) (all-texts xs ys (λ t h. f t (or_right _ _ h)))

some-inserted : (t : Text) (xs : List Text) → is_empty (insert itself t xs) ≡ false
unfolding insert
some-inserted t [] = refl
some-inserted t (x ∷ xs) = go (less t x) (less x t)
  where
    go : (b c : Bool) → is_empty (cond b (t ∷ (x ∷ xs)) (cond c (x ∷ insert itself t xs) (t ∷ xs))) ≡ false
    go true c = refl
    go false true = refl
    go false false = refl

-- ---- the ids of the policies for which a test holds
module _ (f : Policy → Bool) where
  pub has-id : (t : Text) (ps : Policies) → has_text t (ids_where f ps) ≡ any (λ p. f p && same t p.id) ps
  unfolding ids_where
  has-id t [] = refl
  has-id t (p ∷ ps) = go (f p) (has-id t ps)
    where
      go : (b : Bool) → has_text t (ids_where f ps) ≡ any (λ x. f x && same t x.id) ps →
          has_text t (cond b (insert itself p.id (ids_where f ps)) (ids_where f ps)) ≡ ((b && same t p.id) || any (λ x. f x && same t x.id) ps)
      go true ih = has-insert t p.id (ids_where f ps) ∙ ap (λ b. same t p.id || b) ih
      go false ih = ih

  pub no-ids : (ps : Policies) → is_empty (ids_where f ps) ≡ not (any f ps)
  unfolding ids_where
  no-ids [] = refl
  no-ids (p ∷ ps) = go (f p) (no-ids ps)
    where
      go : (b : Bool) → is_empty (ids_where f ps) ≡ not (any f ps) → is_empty (cond b (insert itself p.id (ids_where f ps)) (ids_where f ps)) ≡ not (b || any f ps)
      go true ih = some-inserted p.id (ids_where f ps)
      go false ih = ih

  sorted-ids : (ps : Policies) → Sorted itself (ids_where f ps)
  unfolding ids_where
  sorted-ids [] = tt
  sorted-ids (p ∷ ps) = go (f p) (sorted-ids ps)
    where
      go : (b : Bool) → Sorted itself (ids_where f ps) → Sorted itself (cond b (insert itself p.id (ids_where f ps)) (ids_where f ps))
      go true ih = sorted_insert itself p.id (ids_where f ps) ih
      go false ih = ih

  pub same-ids : (xs ys : Policies) → AllAmong xs ys → AllAmong ys xs → ids_where f xs ≡ ids_where f ys
  same-ids xs ys to back =
      same-texts _ _ (sorted-ids xs) (sorted-ids ys) (λ t. has-id t xs ∙ any_same (λ p. f p && same t p.id) xs ys to back ∙ sym (has-id t ys))

  -- one policy more takes no id away
  pub more-ids : (p : Policy) (ps : Policies) → all_texts (ids_where f ps) (ids_where f (p ∷ ps)) ≡ true
  more-ids p ps = all-texts _ _ (λ t h. has-id t (p ∷ ps) ∙ or_right _ _ (sym (has-id t ps) ∙ h))
