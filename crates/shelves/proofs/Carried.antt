-- A function that keeps keys carries insertion, removal, search and order over.
use Rattle.std.proofs.Common.{◌≡◌, Bool, true, false, cond, ◌&&◌, List, [], ◌∷◌, map, sym, refl, ap, ◌∙◌, ap₂}
use mathlib.Core.Option.{some}
use Rattle.spec.specs.Basics.{Text, same, less, insert, remove, find, ascending}
use Rattle.shelves.specs.Mapped.{on_some, CarriesOver}

module _ {A B : Type 0} (key : A → Text) (key' : B → Text) (f : A → B) (k : (a : A) → key' (f a) ≡ key a) where
  insert-map : (a : A) (xs : List A) → map f (insert key a xs) ≡ insert key' (f a) (map f xs)
  unfolding insert
  insert-map a [] = refl
  insert-map a (x ∷ xs) =
      go (less (key a) (key x)) (less (key x) (key a)) (insert-map a xs)
      ∙ ap₂ (λ c d. cond c (f a ∷ (f x ∷ map f xs)) (cond d (f x ∷ insert key' (f a) (map f xs)) (f a ∷ map f xs))) (ap₂ less (sym (k a)) (sym (k x))) (ap₂ less (sym (k x)) (sym (k a)))
    where
      go : (c d : Bool) → map f (insert key a xs) ≡ insert key' (f a) (map f xs) →
          map f (cond c (a ∷ (x ∷ xs)) (cond d (x ∷ insert key a xs) (a ∷ xs))) ≡ cond c (f a ∷ (f x ∷ map f xs)) (cond d (f x ∷ insert key' (f a) (map f xs)) (f a ∷ map f xs))
      go true d e = refl
      go false true e = ap (λ l. f x ∷ l) e
      go false false e = refl

  remove-map : (t : Text) (xs : List A) → map f (remove key t xs) ≡ remove key' t (map f xs)
  unfolding remove
  remove-map t [] = refl
  remove-map t (x ∷ xs) = go (same t (key x)) (remove-map t xs) ∙ ap (λ c. cond c (map f xs) (f x ∷ remove key' t (map f xs))) (ap (same t) (sym (k x)))
    where
      go : (c : Bool) → map f (remove key t xs) ≡ remove key' t (map f xs) → map f (cond c xs (x ∷ remove key t xs)) ≡ cond c (map f xs) (f x ∷ remove key' t (map f xs))
      go true e = refl
      go false e = ap (λ l. f x ∷ l) e

  find-map : (t : Text) (xs : List A) → find key' t (map f xs) ≡ on_some f (find key t xs)
  unfolding find
  find-map t [] = refl
  find-map t (x ∷ xs) = ap (λ c. cond c (some (f x)) (find key' t (map f xs))) (ap (same t) (k x)) ∙ go (same t (key x)) (find-map t xs)
    where
      go : (c : Bool) → find key' t (map f xs) ≡ on_some f (find key t xs) → cond c (some (f x)) (find key' t (map f xs)) ≡ on_some f (cond c (some x) (find key t xs))
      go true e = refl
      go false e = e

  ascending-map : (xs : List A) → ascending key' (map f xs) ≡ ascending key xs
  unfolding ascending
  ascending-map [] = refl
  ascending-map (x ∷ []) = refl
  ascending-map (x ∷ (y ∷ ys)) = ap₂ ◌&&◌ (ap₂ less (k x) (k y)) (ascending-map (y ∷ ys))

pub carried : {A B : Type 0} (key : A → Text) (key' : B → Text) → CarriesOver key key'
carried key key' f k = (insert-map key key' f k, remove-map key key' f k, find-map key key' f k, ascending-map key key' f k)
