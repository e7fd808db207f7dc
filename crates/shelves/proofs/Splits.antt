-- Lists in the order of a key, split at a key: what is before it has lesser keys, what is behind it greater ones.
use Rattle.std.proofs.Common.{◌≡◌, ℕ, zero, suc, ◌+◌, ◌<◌, true, false, List, [], ◌∷◌, ◌++◌, length, take, drop, sym, refl, ap, ◌∙◌, inl, inr, arith}
use mathlib.Core.Option.{some}
use Rattle.std.proofs.lemmas.List.{take-append-drop}
use Rattle.std.proofs.lemmas.Bool.{cases_Bool, both_ways}
use Rattle.spec.specs.Basics.{Text, same, less, insert, remove, find}
use Rattle.laws.proofs.Texts.{same_true, same_refl, less-irrefl, less-trans, less-not}
use Rattle.laws.proofs.Keyed.{Before, Sorted}

pub not-both : (x y : Text) → less x y ≡ true → less y x ≡ false
not-both x y h = elim (cases_Bool (less y x)) [
  | inl k ↦ absurd (both_ways (less x x) (less-irrefl x) (less-trans x y x h k))
  | inr k ↦ k
]

not_same : (x y : Text) → less y x ≡ true → same x y ≡ false
not_same x y h = elim (cases_Bool (same x y)) [
  | inl e ↦ absurd (both_ways (less y y) (less-irrefl y) (rw (same_true x y e) at h))
  | inr e ↦ e
]

module _ {A : Type 0} (key : A → Text) (t : Text) where
  -- all keys of a list are less than t
  abbrev pub Under : List A → Type 0
  Under [] = Unit {0}
  Under (b ∷ bs) = (less (key b) t ≡ true) × Under bs

  pub under-append : (bs : List A) (b : A) → Under bs → less (key b) t ≡ true → Under (bs ++ (b ∷ []))
  under-append [] b u h = (h, tt)
  under-append (x ∷ bs) b u h = (u.0, under-append bs b u.1 h)

  -- ---- what is passed over
  pub insert-past : (a : A) (bs cs : List A) → key a ≡ t → Under bs → insert key a (bs ++ cs) ≡ bs ++ insert key a cs
  unfolding insert
  insert-past a [] cs e u = refl
  insert-past a (b ∷ bs) cs e u =
      let h : less (key b) (key a) ≡ true = rw e u.0 in
      let k : less (key a) (key b) ≡ false = not-both (key b) (key a) h in
      rw (k, h) (ap (λ l. b ∷ l) (insert-past a bs cs e u.1))

  pub remove-past : (bs cs : List A) → Under bs → remove key t (bs ++ cs) ≡ bs ++ remove key t cs
  unfolding remove
  remove-past [] cs u = refl
  remove-past (b ∷ bs) cs u = let h : same t (key b) ≡ false = not_same t (key b) u.0 in rw h (ap (λ l. b ∷ l) (remove-past bs cs u.1))

  pub find_past : (bs cs : List A) → Under bs → find key t (bs ++ cs) ≡ find key t cs
  unfolding find
  find_past [] cs u = refl
  find_past (b ∷ bs) cs u = let h : same t (key b) ≡ false = not_same t (key b) u.0 in rw h (find_past bs cs u.1)

  -- ---- the key is here
  pub insert-here : (a b : A) (cs : List A) → key a ≡ t → key b ≡ t → insert key a (b ∷ cs) ≡ a ∷ cs
  unfolding insert
  insert-here a b cs e f =
      let h : less (key a) (key b) ≡ false = rw (e, f) (less-irrefl t) in
      let k : less (key b) (key a) ≡ false = rw (e, f) (less-irrefl t) in
      rw (h, k)

  pub remove-here : (b : A) (cs : List A) → key b ≡ t → remove key t (b ∷ cs) ≡ cs
  unfolding remove
  remove-here b cs f = let h : same t (key b) ≡ true = rw f (same_refl t) in rw h

  pub find-here : (b : A) (cs : List A) → key b ≡ t → find key t (b ∷ cs) ≡ some b
  unfolding find
  find-here b cs f = let h : same t (key b) ≡ true = rw f (same_refl t) in rw h

  -- ---- or all that is left has greater keys
  pub insert-before : (a : A) (cs : List A) → key a ≡ t → Before key t cs → insert key a cs ≡ a ∷ cs
  unfolding insert
  insert-before a [] e h = refl
  insert-before a (b ∷ cs) e h = let k : less (key a) (key b) ≡ true = rw e h.0 in rw k

  pub remove-none : (cs : List A) → Before key t cs → remove key t cs ≡ cs
  unfolding remove
  remove-none [] h = refl
  remove-none (b ∷ cs) h = let k : same t (key b) ≡ false = less-not t (key b) h.0 in rw k (ap (λ l. b ∷ l) (remove-none cs h.1))

  pub before_more : (s : Text) (cs : List A) → less t s ≡ true → Before key s cs → Before key t cs
  before_more s [] h b = tt
  before_more s (x ∷ cs) h b = (less-trans t s (key x) h b.0, before_more s cs h b.1)

-- one of a list in order, and what is before it and behind it
module _ {A : Type 0} (key : A → Text) where
  pub sorted-behind : (bs : List A) (b : A) (cs : List A) → Sorted key (bs ++ (b ∷ cs)) → Before key (key b) cs
  sorted-behind [] b cs h = h.0
  sorted-behind (x ∷ bs) b cs h = sorted-behind bs b cs h.1

  before-one : (t : Text) (bs : List A) (b : A) (cs : List A) → Before key t (bs ++ (b ∷ cs)) → less t (key b) ≡ true
  before-one t [] b cs h = h.0
  before-one t (x ∷ bs) b cs h = before-one t bs b cs h.1

  pub sorted-under : (t : Text) (bs : List A) (b : A) (cs : List A) → Sorted key (bs ++ (b ∷ cs)) → less (key b) t ≡ true → Under key t bs
  sorted-under t [] b cs h l = tt
  sorted-under t (x ∷ bs) b cs h l = (less-trans (key x) (key b) t (before-one (key x) bs b cs h.0) l, sorted-under t bs b cs h.1 l)

  pub under_same : (t : Text) (bs : List A) (b : A) (cs : List A) → Sorted key (bs ++ (b ∷ cs)) → key b ≡ t → Under key t bs
  under_same t [] b cs h e = tt
  under_same t (x ∷ bs) b cs h e = (rw (← e) (before-one (key x) bs b cs h.0), under_same t bs b cs h.1 e)

-- the k-th of a list
pub record Nth {A : Type 0} (xs : List A) (k : ℕ) : Type 0 where
  pub one : A
  pub split : xs ≡ take k xs ++ (one ∷ drop (k + 1) xs)
  pub rest : drop k xs ≡ one ∷ drop (k + 1) xs

pub nth : {A : Type 0} (xs : List A) (k : ℕ) → k < length xs → Nth xs k
nth {A} xs k h = go (drop k xs) refl (drop-one xs k h)
  where
    drop-one : (xs : List A) (k : ℕ) → k < length xs → (x : A) × (drop k xs ≡ x ∷ drop (k + 1) xs)
    drop-one [] k h = absurd (omega arith)
    drop-one (x ∷ xs) zero h = (x, refl)
    drop-one (x ∷ xs) (suc k) h =
        let w = drop-one xs k (omega arith) in
        let e : suc k + 1 ≡ suc (k + 1) = omega arith in
        (w.0, w.1 ∙ ap (λ n. w.0 ∷ drop n (x ∷ xs)) (sym e))

    go : (l : List A) → drop k xs ≡ l → (x : A) × (drop k xs ≡ x ∷ drop (k + 1) xs) → Nth xs k
    go l e w = record { one = w.0; split = sym (take-append-drop k xs) ∙ ap (λ l. take k xs ++ l) w.1; rest = w.1 }
