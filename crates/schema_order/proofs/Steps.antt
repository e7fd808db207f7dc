-- A list at a place, element by element.
use Rattle.std.proofs.Common.{◌≡◌, ℕ, ◌+◌, ◌<◌, ◌≤◌, Bool, true, false, cond, ◌&&◌, ◌||◌, eqb, List, [], ◌∷◌, length, get_or, drop, sym, not, Some, None, refl, ap, ◌∙◌, subst, ⊎_elim, arith}
use Rattle.std.proofs.lemmas.Bool.{true≢false, cases_lt, ne_eqb}
use Rattle.std.proofs.lemmas.List.{drop_more, drop-drop, drop_all, length-drop}
use Rattle.std.specs.Option.{is_some}
use Rattle.spec.specs.Basics.{Text, any, all, less, ascending}
use Rattle.spec.specs.Bytes.{Bytes}
use Rattle.wire.specs.Read.{Read, got, stops, past, turn, next, read_list}
use Rattle.reader.proofs.Along.{list-skip, list-one}
use Rattle.reader.specs.Ends.{Got, long, ending}
use Rattle.schema_order.specs.Places.{each, made, what, holds, Ends, before}

-- what comes first, and what is behind it
tail-parts : {X : Type 0} (x : X) (n : ℕ) (S : Read (List X)) → Got (past 1 (turn (λ xs. x ∷ xs) (past n S))) →
    Got S × (what [] (past 1 (turn (λ xs. x ∷ xs) (past n S))) ≡ x ∷ what [] S) × (long (past 1 (turn (λ xs. x ∷ xs) (past n S))) ≡ 1 + (n + long S))
tail-parts x n (got xs k) h = (tt, refl, refl)
tail-parts x n (stops k) h = absurd h

next-got : {X : Type 0} (R : Read X) (go : ℕ → Read (List X)) → Got (past 1 (next R go)) → Got R
next-got (got x n) go h = tt
next-got (stops k) go h = absurd h

got-pair : {X : Type 0} (R : Read X) → Got R → (x : X) × (n : ℕ) × (R ≡ got x n)
got-pair (got x n) h = (x, n, refl)
got-pair (stops k) h = absurd h

next-tail : {X : Type 0} (x : X) (n : ℕ) (S : Read (List X)) → Got (past 1 (turn (λ xs. x ∷ xs) S)) → (y : X) × (m : ℕ) × (xs : List X) × (got x n ≡ got y m) × (what [] (past 1 (turn (λ xs. x ∷ xs) S)) ≡ y ∷ xs)
next-tail x n (got xs k) h = (x, n, xs, refl, refl)
next-tail x n (stops k) h = absurd h

next-head : {X : Type 0} (R : Read X) (go : ℕ → Read (List X)) → Got (past 1 (next R go)) → (x : X) × (n : ℕ) × (xs : List X) × (R ≡ got x n) × (what [] (past 1 (next R go)) ≡ x ∷ xs)
next-head (got x n) go h = next-tail x n (go n) h
next-head (stops k) go h = absurd h

pub what-holds : {X : Type 0} (T : X → Bool) (d : X) (R : Read X) → Got R → T (what d R) ≡ holds T R
what-holds T d (got x n) h = refl
what-holds T d (stops k) h = absurd h

-- what begins with another byte than 1 is empty
nothing : {X : Type 0} (r : Bytes → Read X) (b : ℕ) (rest : Bytes) → (b ≡ 1 → ⊥) → Got (read_list r 0 (b ∷ rest)) → read_list r 0 (b ∷ rest) ≡ got [] 1
unfolding read_list
nothing r b rest n h = go (eqb b 0) (eqb b 1) (ne_eqb b 1 n) h
  where
    go : (c d : Bool) → d ≡ false → Got (cond c (got [] 1) (cond d (past 1 (next (r rest) (λ m. read_list r m rest))) (stops 0))) → cond c (got [] 1) (cond d (past 1 (next (r rest) (λ m. read_list r m rest))) (stops 0)) ≡ got [] 1
    go true d e h = refl
    go false true e h = absurd (true≢false e)
    go false false e h = absurd h

module _ {X : Type 0} (r : Bytes → Read X) (bs : Bytes) where
  abbrev pub from : ℕ → List X
  from p = what [] (read_list r 0 (drop p bs))

  pub inside : (p : ℕ) → Got (read_list r 0 (drop p bs)) → p < length bs
  unfolding read_list
  inside p h = ⊎_elim (λ l. l) (λ l. absurd (rw (drop_all p bs l) at h)) (cases_lt p (length bs))

  pub record Step (p e : ℕ) : Type 0 where
    pub item : X
    pub taken : ℕ
    pub first : r (drop (p + 1) bs) ≡ got item taken
    pub more : e < length bs
    pub rest : Got (read_list r 0 (drop e bs))
    pub is : from p ≡ item ∷ from e
    pub ends : ending p (read_list r 0 (drop p bs)) ≡ ending e (read_list r 0 (drop e bs))

  module _ (p : ℕ) (h : Got (read_list r 0 (drop p bs))) where
    pub first-got : get_or bs p 0 ≡ 1 → Got (r (drop (p + 1) bs))
    first-got e = next-got _ _ (subst Got (list-one r bs p (inside p h) e) h)

    -- one more
    pub step : get_or bs p 0 ≡ 1 → (e : ℕ) → Ends (length bs) (p + 1) (r (drop (p + 1) bs)) e → Step p e
    step o e w =
        let f = got-pair (r (drop (p + 1) bs)) (first-got o) in
        let x = f.0 in
        let n = f.1 in
        let q : e ≡ p + 1 + n = w.0 ∙ ap (ending (p + 1)) f.2 in
        let k : n ≤ length (drop (p + 1) bs) = omega (arith, length-drop (p + 1) bs, q, w.2) in
        let s : read_list r 0 (drop p bs) ≡ past 1 (turn (λ xs. x ∷ xs) (past n (read_list r 0 (drop e bs)))) =
        list-one r bs p (inside p h) o ∙ ap (λ R. past 1 (next R (λ m. read_list r m (drop (p + 1) bs)))) f.2
        ∙ ap (λ R. past 1 (turn (λ xs. x ∷ xs) R)) (list-skip r n (drop (p + 1) bs) k ∙ ap (λ ys. past n (read_list r 0 ys)) (drop-drop n (p + 1) bs) ∙ ap (λ m. past n (read_list r 0 (drop m bs))) (sym q))
        in
        let t = tail-parts x n (read_list r 0 (drop e bs)) (subst Got s h) in
        record { item = x; taken = n; first = f.2; more = inside e t.0; rest = t.0; is = ap (what []) s ∙ t.1; ends = omega (arith, q, ap long s, t.2) }

    -- no more
    pub none : (get_or bs p 0 ≡ 1 → ⊥) → read_list r 0 (drop p bs) ≡ got [] 1
    none n =
        let q = drop_more bs p 0 (inside p h) in
        ap (λ ys. read_list r 0 ys) q ∙ nothing r (get_or bs p 0) (drop (p + 1) bs) n (subst (λ (ys : Bytes). Got (read_list r 0 ys)) q h)

    -- what stands first
    pub head : get_or bs p 0 ≡ 1 → (x : X) × (n : ℕ) × (xs : List X) × (r (drop (p + 1) bs) ≡ got x n) × (from p ≡ x ∷ xs)
    head o =
        let w = next-head (r (drop (p + 1) bs)) (λ n. read_list r n (drop (p + 1) bs)) (subst Got (list-one r bs p (inside p h) o) h) in
        (w.0, w.1, w.2, w.3, ap (what []) (list-one r bs p (inside p h) o) ∙ w.4)

    -- what follows it, by its key
    pub head-before : (f : X → Text) (t : Text) → get_or bs p 0 ≡ 1 → less t (made [] f (r (drop (p + 1) bs))) ≡ before f t (from p)
    head-before f t o = let w = head o in ap (λ S. less t (made [] f S)) w.3 ∙ sym (ap (before f t) w.4)

    pub none_before : (f : X → Text) (t : Text) → (get_or bs p 0 ≡ 1 → ⊥) → true ≡ before f t (from p)
    none_before f t n = rw (none n)

    -- what a test says of each element and of those behind it
    module _ (T : X → List X → Bool) where
      pub each-on : get_or bs p 0 ≡ 1 → (e : ℕ) → Ends (length bs) (p + 1) (r (drop (p + 1) bs)) e → (b : Bool) → b ≡ holds (λ x. T x (from e)) (r (drop (p + 1) bs)) → each T (from p) ≡ (b && each T (from e))
      each-on o e w b q = let s = step o e w in ap (each T) s.is ∙ ap (λ z. z && each T (from e)) (sym (q ∙ ap (holds (λ x. T x (from e))) s.first))

      pub each-none : (get_or bs p 0 ≡ 1 → ⊥) → each T (from p) ≡ true
      each-none n = ap (λ R. each T (what [] R)) (none n)

    -- whether a test holds of all of them
    module _ (T : X → Bool) where
      pub all-on : get_or bs p 0 ≡ 1 → (e : ℕ) → Ends (length bs) (p + 1) (r (drop (p + 1) bs)) e → (b : Bool) → b ≡ holds T (r (drop (p + 1) bs)) → b ≡ true → all T (from e) ≡ all T (from p)
      all-on o e w b q t = let s = step o e w in rw (s.is, sym (ap (holds T) s.first) ∙ sym q ∙ t)

      pub all-no : get_or bs p 0 ≡ 1 → (b : Bool) → b ≡ holds T (r (drop (p + 1) bs)) → b ≡ false → false ≡ all T (from p)
      all-no o b q t = let w = head o in ap (λ z. z && all T w.2) (sym t ∙ q ∙ ap (holds T) w.3) ∙ sym (ap (all T) w.4)

      pub all_end : (get_or bs p 0 ≡ 1 → ⊥) → true ≡ all T (from p)
      all_end n = rw (none n)

-- ---- what tests of each element say
pub all-any : {X : Type 0} (T : X → Bool) (xs : List X) → not (all (λ x. not (T x)) xs) ≡ any T xs
all-any T [] = refl
all-any T (x ∷ xs) = go (T x) (all-any T xs)
  where
    go : (b : Bool) → not (all (λ x. not (T x)) xs) ≡ any T xs → not (not b && all (λ x. not (T x)) xs) ≡ (b || any T xs)
    go true e = refl
    go false e = e

pub each-rises : {X : Type 0} (f : X → Text) (xs : List X) → each (λ x rest. before f (f x) rest) xs ≡ ascending f xs
unfolding ascending
each-rises f [] = refl
each-rises f (x ∷ []) = refl
each-rises f (x ∷ (y ∷ ys)) = ap (λ b. less (f x) (f y) && b) (each-rises f (y ∷ ys))

pub holds-true : {X : Type 0} (R : Read X) → true ≡ holds (λ x. true) R
holds-true (got x n) = refl
holds-true (stops k) = refl

pub before-holds : {X : Type 0} (f : X → Text) (xs : List X) (R : Read X) → Got R → before f (made [] f R) xs ≡ holds (λ x. before f (f x) xs) R
before-holds f xs (got x n) g = refl
before-holds f xs (stops k) g = absurd g

-- the answer of a walk
pub walked : (b : Bool) (n : ℕ) → is_some (cond b (Some n) None) ≡ b
walked true n = refl
walked false n = refl

pub not-holds : {X : Type 0} (b : Bool) (T : X → Bool) (R : Read X) → Got R → not b ≡ holds T R → b ≡ holds (λ x. not (T x)) R
not-holds b T (got x n) g e = sym (twice b) ∙ ap not e
  where
    twice : (b : Bool) → not (not b) ≡ b
    twice true = refl
    twice false = refl
not-holds b T (stops k) g e = absurd g

each-true : {X : Type 0} (xs : List X) → each (λ x rest. true) xs ≡ true
each-true [] = refl
each-true (x ∷ xs) = each-true xs

pub never-none : {X : Type 0} (xs : List X) (n : ℕ) → None ≡ cond (each (λ x rest. true) xs) (Some n) None → ⊥
never-none xs n e = let q : None ≡ Some n = e ∙ ap (λ b. cond b (Some n) None) (each-true xs) in cc

pub always-some : {X : Type 0} (xs : List X) (n m : ℕ) → Some m ≡ cond (each (λ x rest. true) xs) (Some n) None → m ≡ n
always-some xs n m e = let q : Some m ≡ Some n = e ∙ ap (λ b. cond b (Some n) None) (each-true xs) in cc
