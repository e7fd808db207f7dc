-- Things in a row, each behind a 1 and a 0 behind them all: what is left of them says what all of them say.
use Rattle.std.proofs.Common.{◌≡◌, ℕ, zero, suc, ◌+◌, ◌<◌, ◌≤◌, Bool, true, false, cond, ◌&&◌, eqb, List, [], ◌∷◌, length, get_or, drop, Some, None, Option, Bor, sym, refl, ap, ◌∙◌, ◌⊎◌, inl, inr, ⊎_elim, arith}
use Rattle.std.proofs.lemmas.Bool.{cases_Bool, true≢false, cases_lt, eqb-true, eq-eqb}
use Rattle.std.proofs.lemmas.List.{drop_more, drop-drop, drop_all}
use Rattle.spec.specs.Basics.{Text, less, ascending, all}
use Rattle.spec.specs.Bytes.{Bytes}
use Rattle.wire.specs.Read.{Read, got, stops, past, turn, follow, next, read_list}
use Rattle.reader.specs.Ends.{Got}
use Rattle.wire.proofs.Exact.{got-stops}
use Rattle.reader.proofs.Along.{list-skip, list-one}
use Rattle.reader.proofs.Stood.{got-is, is-got}
use Rattle.canonical.specs.declared.Element.{Element}
use Rattle.canonical.specs.Kept.{rises, judged, FoundAs}

-- ---- what was read, taken apart
-- what was judged
pub judged-some : {X : Type 0} (f : X → Bool) (at e : ℕ) (R : Read X) (x : X) (n : ℕ) → Some e ≡ judged f at R → R ≡ got x n → (e ≡ at + n) × (f x ≡ true)
judged-some f at e R x n q g = go (f x) (q ∙ ap (λ S. judged f at S) g)
  where
    go : (b : Bool) → Some e ≡ cond b (Some (at + n)) None → (e ≡ at + n) × (b ≡ true)
    go true q = ((cc), refl)
    go false q = cc

pub judged-none : {X : Type 0} (f : X → Bool) (at : ℕ) (R : Read X) (x : X) (n : ℕ) → None ≡ judged f at R → R ≡ got x n → f x ≡ false
judged-none f at R x n q g = go (f x) (q ∙ ap (λ S. judged f at S) g)
  where
    go : (b : Bool) → None ≡ cond b (Some (at + n)) None → b ≡ false
    go true q = cc
    go false q = refl

found-some : {X : Type 0} (key : X → Text) (fine : X → Bool) (at : ℕ) (R : Read X) (e : Element) (x : X) (n : ℕ) → FoundAs key fine at R (Some e) → R ≡ got x n → (fine x ≡ true) × (e.key.now ≡ key x) × (e.end ≡ at + n)
found-some key fine at R e x n h g = rw g at h

found-none : {X : Type 0} (key : X → Text) (fine : X → Bool) (at : ℕ) (R : Read X) (x : X) (n : ℕ) → FoundAs key fine at R None → R ≡ got x n → fine x ≡ false
found-none key fine at R x n h g = rw g at h

pub past-inv : {X : Type 0} (n : ℕ) (R : Read X) (x : X) (m : ℕ) → past n R ≡ got x m → (k : ℕ) × (R ≡ got x k) × (m ≡ n + k)
past-inv n (got y k) x m e = (k, (cc), (cc))
past-inv n (stops k) x m e = got-stops x m (n + k) (sym e)

pub turn-inv : {X Y : Type 0} (f : X → Y) (R : Read X) (y : Y) (m : ℕ) → turn f R ≡ got y m → (x : X) × (R ≡ got x m) × (f x ≡ y)
turn-inv f (got x k) y m e = (x, (cc), (cc))
turn-inv f (stops k) y m e = got-stops y m k (sym e)

pub follow-inv : {X Y : Type 0} (R : Read X) (bs : Bytes) (f : X → Bytes → Read Y) (y : Y) (m : ℕ) → follow R bs f ≡ got y m → (x : X) × (n : ℕ) × (k : ℕ) × (R ≡ got x n) × (f x (drop n bs) ≡ got y k) × (m ≡ n + k)
follow-inv (got x n) bs f y m e = let w = past-inv n (f x (drop n bs)) y m e in (x, n, w.0, refl, w.1, w.2)
follow-inv (stops k) bs f y m e = got-stops y m k (sym e)

next-inv : {X : Type 0} (R : Read X) (go : ℕ → Read (List X)) (ys : List X) (m : ℕ) → next R go ≡ got ys m → (x : X) × (n : ℕ) × (zs : List X) × (R ≡ got x n) × (go n ≡ got zs m) × (x ∷ zs ≡ ys)
next-inv (got x n) go ys m e = let w = turn-inv (λ xs. x ∷ xs) (go n) ys m e in (x, n, w.0, refl, w.1, w.2)
next-inv (stops k) go ys m e = got-stops ys m k (sym e)

-- ---- one thing, and what is behind it
module _ {X : Type 0} (r : Bytes → Read X) where
  skips : (n : ℕ) (bs : Bytes) (ys : List X) (m : ℕ) → read_list r n bs ≡ got ys m → n ≤ length bs
  unfolding read_list
  skips zero bs ys m e = omega arith
  skips (suc n) [] ys m e = got-stops ys m 0 (sym e)
  skips (suc n) (b ∷ bs) ys m e = let w = past-inv 1 (read_list r n bs) ys m e in omega (arith, skips n bs ys w.0 w.1)

  module _ (bs : Bytes) (at : ℕ) (h : Got (read_list r 0 (drop at bs))) where
    pub list_inside : at < length bs
    unfolding read_list
    list_inside = ⊎_elim (λ l. l) (λ l. absurd (rw (drop_all at bs l) at h)) (cases_lt at (length bs))

    pub list-none : (get_or bs at 0 ≡ 1 → ⊥) → read_list r 0 (drop at bs) ≡ got [] 1
    unfolding read_list
    list-none k = rw (drop_more bs at 0 list_inside) (go (eqb (get_or bs at 0) 0) (eqb (get_or bs at 0) 1) refl _ (rw (drop_more bs at 0 list_inside) at h))
      where
        go : (a b : Bool) → eqb (get_or bs at 0) 1 ≡ b → (R : Read (List X)) → Got (cond a (got [] 1) (cond b R (stops 0))) → cond a (got [] 1) (cond b R (stops 0)) ≡ got [] 1
        go true b q R h = refl
        go false true q R h = absurd (k (eqb-true _ _ q))
        go false false q R h = absurd h

    pub list-more : get_or bs at 0 ≡ 1 →
        (x : X) × (n : ℕ) × (ys : List X) × (m : ℕ) × (r (drop (at + 1) bs) ≡ got x n) × (read_list r 0 (drop (at + 1 + n) bs) ≡ got ys m) × (read_list r 0 (drop at bs) ≡ got (x ∷ ys) (1 + (n + m)))
    list-more one =
        let w = got-is _ h in
        let p = past-inv 1 _ w.0 w.1 (sym (list-one r bs at list_inside one) ∙ w.2) in
        let q = next-inv (r (drop (at + 1) bs)) (λ n. read_list r n (drop (at + 1) bs)) w.0 p.0 p.1 in
        let n = q.1 in
        let s = past-inv n _ q.2 p.0 (sym (list-skip r n (drop (at + 1) bs) (skips n (drop (at + 1) bs) q.2 p.0 q.4)) ∙ q.4) in
        let long : w.1 ≡ 1 + (n + s.0) = omega (arith, p.2, s.2) in (
          q.0,
          n,
          q.2,
          s.0,
          q.3,
          ap (λ z. read_list r 0 z) (sym (drop-drop n (at + 1) bs)) ∙ s.1,
          w.2 ∙ ap (λ z. got z w.1) (sym q.5) ∙ ap (λ z. got (q.0 ∷ q.2) z) long,
        )

  -- what has an element begins with one
  pub first-got : (bs : Bytes) (at : ℕ) (x : X) (xs : List X) (n : ℕ) → read_list r 0 (drop at bs) ≡ got (x ∷ xs) n → Got (r (drop (at + 1) bs))
  first-got bs at x xs n e = go (cases_Bool (eqb (get_or bs at 0) 1))
    where
      h : Got (read_list r 0 (drop at bs))
      h = is-got _ (x ∷ xs) n e

      go : (eqb (get_or bs at 0) 1 ≡ true) ⊎ (eqb (get_or bs at 0) 1 ≡ false) → Got (r (drop (at + 1) bs))
      go (inl q) = let w = list-more bs at h (eqb-true _ _ q) in is-got _ w.0 w.1 w.4
      go (inr q) = let w = sym e ∙ list-none bs at h (λ z. true≢false (sym (eq-eqb _ _ z) ∙ q)) in cc

-- ---- in the order of a key, and a test of each
module _ {X : Type 0} (r : Bytes → Read X) (key : X → Text) (fine : X → Bool) (bs : Bytes) where
  -- they come behind what came last, and are in order
  unfoldable pub goes_on : Option (Bor Text) → List X → Bool
  goes_on last [] = true
  goes_on last (x ∷ xs) = rises last (key x) && ascending key (x ∷ xs)

  -- what is left says, behind what came last
  abbrev pub left : ℕ → Option (Bor Text) → Option ℕ
  left end last = judged (λ xs. goes_on last xs && all fine xs) end (read_list r 0 (drop end bs))

  goes_first : (xs : List X) → ascending key xs ≡ goes_on None xs
  unfolding goes_on ascending
  goes_first [] = refl
  goes_first (x ∷ xs) = refl

  goes-next : (x : X) (xs : List X) (here : Bor Text) → here.now ≡ key x → ascending key (x ∷ xs) ≡ goes_on (Some here) xs
  unfolding goes_on ascending
  goes-next x [] here e = refl
  goes-next x (y ∷ ys) here e = ap (λ t. less t (key y) && ascending key (y ∷ ys)) (sym e)

  pub start : (at : ℕ) (whole : List X → Bool) → ((xs : List X) (n : ℕ) → read_list r 0 (drop at bs) ≡ got xs n → whole xs ≡ (ascending key xs && all fine xs)) → Got (read_list r 0 (drop at bs)) → left at None ≡ judged whole at (read_list r 0 (drop at bs))
  start at whole same h = go (read_list r 0 (drop at bs)) h (λ xs n e. same xs n e)
    where
      go : (R : Read (List X)) → Got R → ((xs : List X) (n : ℕ) → R ≡ got xs n → whole xs ≡ (ascending key xs && all fine xs)) → judged (λ xs. goes_on None xs && all fine xs) at R ≡ judged whole at R
      go (got xs n) h e = ap (λ b. cond b (Some (at + n)) None) (ap (λ b. b && all fine xs) (sym (goes_first xs)) ∙ sym (e xs n refl))
      go (stops k) h e = absurd h

  module _ (end : ℕ) (last : Option (Bor Text)) (h : Got (read_list r 0 (drop end bs))) where
    module _ (one : get_or bs end 0 ≡ 1) where
      -- an element that is not as it is kept
      pub unkept : FoundAs key fine (end + 1) (r (drop (end + 1) bs)) None → None ≡ left end last
      unkept f =
          let w = list-more r bs end h one in
          let no = found-none key fine (end + 1) _ w.0 w.1 f w.4 in
          sym (ap (λ S. judged (λ xs. goes_on last xs && all fine xs) end S) w.6 ∙ ap (λ b. cond (goes_on last (w.0 ∷ w.2) && (b && all fine w.2)) (Some (end + (1 + (w.1 + w.3)))) None) no ∙ ap (λ b. cond b (Some (end + (1 + (w.1 + w.3)))) None) (and-false (goes_on last (w.0 ∷ w.2))))
        where
          and-false : (b : Bool) → (b && false) ≡ false
          and-false true = refl
          and-false false = refl

      module _ (e : Element) (f : FoundAs key fine (end + 1) (r (drop (end + 1) bs)) (Some e)) where
        -- one that does not come behind what came last
        pub unordered : rises last e.key.now ≡ false → None ≡ left end last
        unfolding goes_on
        unordered o =
            let w = list-more r bs end h one in
            let s = found-some key fine (end + 1) _ e w.0 w.1 f w.4 in
            sym (ap (λ S. judged (λ xs. goes_on last xs && all fine xs) end S) w.6 ∙ ap (λ b. cond ((b && ascending key (w.0 ∷ w.2)) && all fine (w.0 ∷ w.2)) (Some (end + (1 + (w.1 + w.3)))) None) (ap (rises last) (sym s.1) ∙ o))

        pub step : rises last e.key.now ≡ true → Got (read_list r 0 (drop e.end bs)) × (left e.end (Some e.key) ≡ left end last)
        unfolding goes_on
        step o =
            let w = list-more r bs end h one in
            let x = w.0 in
            let ys = w.2 in
            let s = found-some key fine (end + 1) _ e x w.1 f w.4 in
            let rest : read_list r 0 (drop e.end bs) ≡ got ys w.3 = ap (λ z. read_list r 0 (drop z bs)) s.2 ∙ w.5 in
            let long : e.end + w.3 ≡ end + (1 + (w.1 + w.3)) = omega (arith, s.2) in
            let says : (goes_on (Some e.key) ys && all fine ys) ≡ ((rises last (key x) && ascending key (x ∷ ys)) && (fine x && all fine ys)) = ap (λ b. b && all fine ys) (sym (goes-next x ys e.key s.1))
            ∙ ap (λ b. (b && ascending key (x ∷ ys)) && all fine ys) (sym o ∙ ap (rises last) s.1)
            ∙ ap (λ b. (rises last (key x) && ascending key (x ∷ ys)) && (b && all fine ys)) (sym s.0) in (
              is-got _ ys w.3 rest,
              ap (λ S. judged (λ xs. goes_on (Some e.key) xs && all fine xs) e.end S) rest ∙ (λ i. cond (says i) (Some (long i)) None) ∙ sym (ap (λ S. judged (λ xs. goes_on last xs && all fine xs) end S) w.6),
            )

    pub finish : (get_or bs end 0 ≡ 1 → ⊥) → Some (end + 1) ≡ left end last
    unfolding goes_on
    finish k = rw (list-none r bs end h k) refl
