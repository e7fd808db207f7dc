-- What is among a list: tests that hold of all of it or of some, what is found in it by a key, and what is among it after insertions.
use Rattle.std.proofs.Common.{◌≡◌, Bool, true, false, cond, ◌⊎◌, List, [], ◌∷◌, ◌++◌, sym, refl, ◌∙◌, subst, inl, inr}
use mathlib.Core.Option.{Option, some, none}
use Rattle.std.proofs.lemmas.Bool.{and_parts, and_from, or_cases, or_left, or_right}
use Rattle.spec.specs.Basics.{is_some, any, all, Text, same, less, insert, insert_all, find, name, content, lookup}
use Rattle.spec.specs.Promises.{Among}
use Rattle.laws.proofs.Texts.{false-true, none-some, bool_same, same_true, same_refl}
use Rattle.laws.proofs.Keyed.{Sorted, sorted_insert, not_found, find-insert}

module _ {A : Type 0} where
  pub all-at : (f : A → Bool) (x : A) (xs : List A) → all f xs ≡ true → Among x xs → f x ≡ true
  all-at f x [] h m = absurd m
  all-at f x (y ∷ ys) h (inl e) = rw e (and_parts (f y) (all f ys) h).0
  all-at f x (y ∷ ys) h (inr m) = all-at f x ys (and_parts (f y) (all f ys) h).1 m

  pub all_from : (f : A → Bool) (xs : List A) → ((x : A) → Among x xs → f x ≡ true) → all f xs ≡ true
  all_from f [] k = refl
  all_from f (x ∷ xs) k = and_from _ _ (k x (inl refl)) (all_from f xs (λ y m. k y (inr m)))

  pub any_at : (f : A → Bool) (xs : List A) → any f xs ≡ true → (x : A) × Among x xs × (f x ≡ true)
  any_at f [] h = false-true h
  any_at f (y ∷ ys) h = elim (or_cases (f y) (any f ys) h) [ inl e ↦ (y, inl refl, e) | inr k ↦ later (any_at f ys k) ]
    where
      later : (x : A) × Among x ys × (f x ≡ true) → (x : A) × Among x (y ∷ ys) × (f x ≡ true)
      later (x, m, e) = (x, inr m, e)

  pub any-from : (f : A → Bool) (x : A) (xs : List A) → Among x xs → f x ≡ true → any f xs ≡ true
  any-from f x [] m h = absurd m
  any-from f x (y ∷ ys) (inl e) h = or_left (f y) (any f ys) (rw (← e) h)
  any-from f x (y ∷ ys) (inr m) h = or_right _ _ (any-from f x ys m h)

  -- a test that is wider
  pub all_map : (f g : A → Bool) (xs : List A) → ((x : A) → f x ≡ true → g x ≡ true) → all f xs ≡ true → all g xs ≡ true
  all_map f g xs k h = all_from g xs (λ x m. k x (all-at f x xs h m))

  pub any-map : (f g : A → Bool) (xs : List A) → ((x : A) → f x ≡ true → g x ≡ true) → any f xs ≡ true → any g xs ≡ true
  any-map f g xs k h = let (x, m, e) = any_at f xs h in any-from g x xs m (k x e)

  -- the same of two lists in which the same is
  pub any_same : (f : A → Bool) (xs ys : List A) → ((x : A) → Among x xs → Among x ys) → ((x : A) → Among x ys → Among x xs) → any f xs ≡ any f ys
  any_same f xs ys to back = bool_same _ _ (move xs ys to) (move ys xs back)
    where
      move : (vs ws : List A) → ((x : A) → Among x vs → Among x ws) → any f vs ≡ true → any f ws ≡ true
      move vs ws g h = let (x, a, e) = any_at f vs h in any-from f x ws (g x a) e

  pub among-append : (x : A) (xs ys : List A) → Among x (xs ++ ys) → Among x xs ⊎ Among x ys
  among-append x [] ys m = inr m
  among-append x (z ∷ zs) ys (inl e) = inl (inl e)
  among-append x (z ∷ zs) ys (inr m) = elim (among-append x zs ys m) [ inl a ↦ inl (inr a) | inr b ↦ inr b ]

module _ {A : Type 0} (key : A → Text) where
  -- what is found has the key, and is among the list
  pub found : (t : Text) (x : A) (xs : List A) → find key t xs ≡ some x → (t ≡ key x) × Among x xs
  unfolding find
  found t x [] e = none-some e
  found t x (y ∷ ys) e = go (same t (key y)) refl e (found t x ys)
    where
      go : (b : Bool) → same t (key y) ≡ b → cond b (some y) (find key t ys) ≡ some x → (find key t ys ≡ some x → (t ≡ key x) × Among x ys) → (t ≡ key x) × Among x (y ∷ ys)
      go true h e ih = let xy : x ≡ y = cc in (rw xy (same_true t (key y) h), inl xy)
      go false h e ih = let p = ih e in (p.0, inr p.1)

  -- what is among the list has a key that is found
  pub finds : (x : A) (xs : List A) → Among x xs → is_some (find key (key x) xs) ≡ true
  unfolding find
  finds x [] m = absurd m
  finds x (y ∷ ys) (inl e) = rw (e, same_refl (key y))
  finds x (y ∷ ys) (inr m) = go (same (key x) (key y)) (finds x ys m)
    where
      go : (b : Bool) → is_some (find key (key x) ys) ≡ true → is_some (cond b (some y) (find key (key x) ys)) ≡ true
      go true h = refl
      go false h = h

  -- and is itself found, if keys are in order
  pub finds-it : (x : A) (xs : List A) → Sorted key xs → Among x xs → find key (key x) xs ≡ some x
  unfolding find
  finds-it x [] s m = absurd m
  finds-it x (y ∷ ys) s (inl e) = rw (e, same_refl (key y))
  finds-it x (y ∷ ys) s (inr m) = go (same (key x) (key y)) refl (finds-it x ys s.1 m)
    where
      go : (b : Bool) → same (key x) (key y) ≡ b → find key (key x) ys ≡ some x → cond b (some y) (find key (key x) ys) ≡ some x
      go true h e = none-some (sym (not_found key (key y) ys s.0) ∙ (rw (same_true (key x) (key y) h) at e))
      go false h e = e

  -- ---- after insertions
  pub among-insert : (x a : A) (bs : List A) → Among x (insert key a bs) → (x ≡ a) ⊎ Among x bs
  unfolding insert
  among-insert x a [] m = m
  among-insert x a (b ∷ bs) m = go (less (key a) (key b)) (less (key b) (key a)) (among-insert x a bs) m
    where
      go : (c d : Bool) → (Among x (insert key a bs) → (x ≡ a) ⊎ Among x bs) → Among x (cond c (a ∷ (b ∷ bs)) (cond d (b ∷ insert key a bs) (a ∷ bs))) → (x ≡ a) ⊎ Among x (b ∷ bs)
      go true d ih m = m
      go false true ih (inl e) = inr (inl e)
      go false true ih (inr n) = elim (ih n) [ inl e ↦ inl e | inr o ↦ inr (inr o) ]
      go false false ih (inl e) = inl e
      go false false ih (inr n) = inr (inr n)

  pub among-all : (x : A) (bs : List A) → Among x (insert_all key bs) → Among x bs
  unfolding insert_all
  among-all x [] m = m
  among-all x (b ∷ bs) m = elim (among-insert x b (insert_all key bs) m) [ inl e ↦ inl e | inr n ↦ inr (among-all x bs n) ]

  -- each key stays
  pub finds-all : (x : A) (bs : List A) → Among x bs → is_some (find key (key x) (insert_all key bs)) ≡ true
  unfolding insert_all
  finds-all x [] m = absurd m
  finds-all x (b ∷ bs) m = rw (find-insert key (key x) b (insert_all key bs)) (go (same (key x) (key b)) refl (finds-all x bs) m)
    where
      go : (c : Bool) → same (key x) (key b) ≡ c → (Among x bs → is_some (find key (key x) (insert_all key bs)) ≡ true) → Among x (b ∷ bs) → is_some (cond c (some b) (find key (key x) (insert_all key bs))) ≡ true
      go true h ih m = refl
      go false h ih (inl e) = let r : same (key x) (key b) ≡ true = rw e (same_refl (key b)) in false-true (sym h ∙ r)
      go false h ih (inr n) = ih n

  pub sorted_all : (bs : List A) → Sorted key (insert_all key bs)
  unfolding insert_all
  sorted_all [] = tt
  sorted_all (b ∷ bs) = sorted_insert key b (insert_all key bs) (sorted_all bs)

-- ---- what has a name
pub looked-up : {B : Type 0} (a : Text) (b : B) (fs : List (Text × B)) → lookup a fs ≡ some b → Among (a, b) fs
looked-up {B} a b fs h = go (find name a fs) refl h
  where
    go : (o : Option (Text × B)) → find name a fs ≡ o → content o ≡ some b → Among (a, b) fs
    go none e k = none-some k
    go (some f) e k =
        let p = found name a f fs e in
        let q : f.1 ≡ b = cc in
        let n = p.0 in
        let r : f ≡ (a, b) = λ i. (sym n i, q i) in
        subst (λ x. Among x fs) r p.1
