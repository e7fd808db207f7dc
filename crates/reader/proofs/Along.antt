-- What is read at a place, step by step.
use Rattle.std.proofs.Common.{◌≡◌, ℕ, zero, suc, ◌+◌, ◌-◌, ◌<◌, ◌≤◌, Bool, true, false, cond, ⊎_elim, eqb, leb, List, [], ◌∷◌, length, get_or, drop, Ok, Err, sym, refl, ap, ◌∙◌, zero-add, arith}
use mathlib.Core.Option.{some, none}
use Rattle.std.proofs.lemmas.Bool.{le-leb, lt-leb, cases_lt, ne_eqb, cond-true, cond-false}
use Rattle.std.proofs.lemmas.List.{length-drop, drop_more, drop-drop, drop_all, length-take-le}
use Rattle.std.specs.Option.{ok_or}
use Rattle.spec.specs.Bytes.{Bytes}
use Rattle.spec.specs.Calls.{size_text, sum_of}
use Rattle.reader.specs.declared.scan.Found.{Found}
use Rattle.wire.specs.Read.{Read, got, stops, past, turn, follow, read_word, read_run, read_text, read_elements, read_pattern, nth, read_one, next, read_list}
use Rattle.words.specs.Words.{big_endian, word_at}
use Rattle.reader.specs.Found.{found, taken, ended}

-- ---- words
pub word-short : (bs : Bytes) → length bs < 8 → read_word bs ≡ stops (length bs)
unfolding read_word
word-short bs h = cond-false (leb 8 (length bs)) _ _ (lt-leb 8 (length bs) h)

pub word-full : (bs : Bytes) → 8 ≤ length bs → read_word bs ≡ got (big_endian bs) 8
unfolding read_word
word-full bs h = cond-true (leb 8 (length bs)) _ _ (le-leb 8 (length bs) h)

-- behind the last byte
pub end-at : (bs : Bytes) (at : ℕ) → at ≤ length bs → at + length (drop at bs) ≡ length bs
end-at bs at h = rw (length-drop at bs) (omega arith)

pub word-short-at : (bs : Bytes) (at : ℕ) → at ≤ length bs → length bs - at < 8 → taken at (read_word (drop at bs)) ≡ Err (length bs)
word-short-at bs at h k =
    let s : length (drop at bs) < 8 = rw (length-drop at bs) k in
    rw (word-short (drop at bs) s) (ap (λ (n : ℕ). Err n) (end-at bs at h))

-- the code's answer is what is read
pub word-taken : (bs : Bytes) (at : ℕ) → at ≤ length bs → ok_or (word_at at bs) (length bs) ≡ taken at (read_word (drop at bs))
word-taken bs at h = ⊎_elim short full (cases_lt (length bs) (at + 8))
  where
    short : length bs < at + 8 → ok_or (word_at at bs) (length bs) ≡ taken at (read_word (drop at bs))
    short l = ap (λ r. ok_or r (length bs)) (cond-false _ _ _ (lt-leb (at + 8) (length bs) l)) ∙ sym (word-short-at bs at h (omega arith))

    full : at + 8 ≤ length bs → ok_or (word_at at bs) (length bs) ≡ taken at (read_word (drop at bs))
    full l =
        let s : 8 ≤ length (drop at bs) = omega (arith, length-drop at bs) in
        ap (λ r. ok_or r (length bs)) (cond-true _ _ _ (le-leb (at + 8) (length bs) l)) ∙ sym (ap (λ R. taken at R) (word-full (drop at bs) s))

pub word_ok : (at n : ℕ) (bs : Bytes) → Ok n ≡ taken at (read_word bs) → read_word bs ≡ got n 8
unfolding read_word
word_ok at n bs e = go (leb 8 (length bs)) e
  where
    go : (b : Bool) → Ok n ≡ taken at (cond b (got (big_endian bs) 8) (stops (length bs))) → cond b (got (big_endian bs) 8) (stops (length bs)) ≡ got n 8
    go true e = cc
    go false e = cc

pub taken-err : {X : Type 0} (s : X → ℕ) (at k : ℕ) (R : Read X) → Err k ≡ taken at R → Err k ≡ found s at R
taken-err s at k (got x n) e = cc
taken-err s at k (stops i) e = cc

-- ---- one thing behind another
pub found-past : {X : Type 0} (size : X → ℕ) (at n : ℕ) (R : Read X) → found size at (past n R) ≡ found size (at + n) R
found-past size at n (got x k) = ap (λ e. Ok (record { end = e; size = size x })) (omega arith)
found-past size at n (stops k) = ap (λ e. Err e) (omega arith)

pub found_turn : {X Y : Type 0} (size : Y → ℕ) (g : X → Y) (at : ℕ) (R : Read X) → found size at (turn g R) ≡ found (λ x. size (g x)) at R
found_turn size g at (got x k) = refl
found_turn size g at (stops k) = refl

pub follow-got : {X Y : Type 0} (size : Y → ℕ) (at n : ℕ) (bs : Bytes) (x : X) (R : Read X) (f : X → Bytes → Read Y) → R ≡ got x n → found size at (follow R (drop at bs) f) ≡ found size (at + n) (f x (drop (at + n) bs))
follow-got size at n bs x R f e = rw e (rw (drop-drop n at bs) (found-past size at n _))

pub follow-stops : {X Y : Type 0} (size : Y → ℕ) (at k : ℕ) (bs : Bytes) (R : Read X) (f : X → Bytes → Read Y) → R ≡ stops k → found size at (follow R (drop at bs) f) ≡ Err (at + k)
follow-stops size at k bs R f e = rw e

pub follow-ok : {X Y : Type 0} (sx : X → ℕ) (sy : Y → ℕ) (at : ℕ) (bs : Bytes) (f : Found) (R : Read X) (k : X → Bytes → Read Y) → Ok f ≡ found sx at R → (x : X) × (f.size ≡ sx x) × (found sy at (follow R (drop at bs) k) ≡ found sy f.end (k x (drop f.end bs)))
follow-ok sx sy at bs f (got x n) k e =
    let q : at + n ≡ f.end = cc in
    (x, (cc), follow-got sy at n bs x (got x n) k refl ∙ ap (λ m. found sy m (k x (drop m bs))) q)
follow-ok sx sy at bs f (stops j) k e = cc

pub follow-err : {X Y : Type 0} (sx : X → ℕ) (sy : Y → ℕ) (at j : ℕ) (bs : Bytes) (R : Read X) (k : X → Bytes → Read Y) → Err j ≡ found sx at R → Err j ≡ found sy at (follow R (drop at bs) k)
follow-err sx sy at j bs (got x n) k e = cc
follow-err sx sy at j bs (stops i) k e = e

-- the same place, another size
pub same-err : {X : Type 0} (s t : X → ℕ) (at k : ℕ) (R : Read X) → Err k ≡ found s at R → Err k ≡ found t at R
same-err s t at k (got x n) e = cc
same-err s t at k (stops i) e = e

pub same_size : {X : Type 0} (s t : X → ℕ) (at : ℕ) → ((x : X) → s x ≡ t x) → (R : Read X) → found s at R ≡ found t at R
same_size s t at e (got x n) = ap (λ m. Ok (record { end = at + n; size = m })) (e x)
same_size s t at e (stops k) = refl

pub more-ok : {X : Type 0} (s : X → ℕ) (m at : ℕ) (g : Found) (R : Read X) → Ok g ≡ found s at R → Ok (record { end = g.end; size = m + g.size }) ≡ found (λ x. m + s x) at R
more-ok s m at g (got x n) e =
    let p : g.end ≡ at + n = cc in
    let q : g.size ≡ s x = cc in
    cc
more-ok s m at g (stops i) e = cc

-- ---- one of some things
nth_in : {X : Type 0} (xs : List X) (b : ℕ) → b < length xs → (x : X) × (nth xs b ≡ some x)
nth_in [] b h = absurd (omega arith)
nth_in (x ∷ xs) zero h = (x, refl)
nth_in (x ∷ xs) (suc b) h = nth_in xs b (omega arith)

pub nth-out : {X : Type 0} (xs : List X) (b : ℕ) → length xs ≤ b → nth xs b ≡ none
nth-out [] b h = refl
nth-out (x ∷ xs) zero h = absurd (omega arith)
nth-out (x ∷ xs) (suc b) h = nth-out xs b (omega arith)

module _ {X : Type 0} (xs : List X) (bs : Bytes) (at : ℕ) where
  pub one_end : length bs ≤ at → read_one xs (drop at bs) ≡ stops 0
  unfolding read_one
  one_end h = rw (drop_all at bs h)

  pub one-other : at < length bs → length xs ≤ get_or bs at 0 → read_one xs (drop at bs) ≡ stops 0
  unfolding read_one
  one-other h k = rw (drop_more bs at 0 h, nth-out xs (get_or bs at 0) k)

  pub one-there : at < length bs → (x : X) → nth xs (get_or bs at 0) ≡ some x → read_one xs (drop at bs) ≡ got x 1
  unfolding read_one
  one-there h x e = rw (drop_more bs at 0 h, e)

  pub one_found : at < length bs → get_or bs at 0 < length xs → Ok (record { end = at + 1; size = 0 }) ≡ found (λ _. 0) at (read_one xs (drop at bs))
  one_found h k = let w = nth_in xs (get_or bs at 0) k in rw (one-there h w.0 w.1)

-- nothing can stand there
pub stops-here : {X : Type 0} (s : X → ℕ) (at : ℕ) (R : Read X) → R ≡ stops 0 → Err at ≡ found s at R
stops-here s at R e = rw e (ap (λ m. Err m) (omega arith))

-- ---- texts
module _ (bs : Bytes) (at : ℕ) where
  pub text-no-word : (k : ℕ) → Err k ≡ taken at (read_word (drop at bs)) → Err k ≡ found size_text at (read_text (drop at bs))
  unfolding read_text
  text-no-word k e = follow-err (λ _. 0) size_text at k bs _ read_run (taken-err (λ _. 0) at k _ e)

  text-behind : (n : ℕ) → Ok n ≡ taken at (read_word (drop at bs)) → found size_text at (read_text (drop at bs)) ≡ found size_text (at + 8) (read_run n (drop (at + 8) bs))
  unfolding read_text
  text-behind n e = follow-got size_text at 8 bs n _ read_run (word_ok at n (drop at bs) e)

  pub text-cut : (n : ℕ) → Ok n ≡ taken at (read_word (drop at bs)) → at + 8 ≤ length bs → length bs - (at + 8) < n → Err (length bs) ≡ found size_text at (read_text (drop at bs))
  unfolding read_run
  text-cut n e h k =
      let s : length (drop (at + 8) bs) < n = rw (length-drop (at + 8) bs) k in
      rw (text-behind n e, lt-leb n (length (drop (at + 8) bs)) s) (ap (λ m. Err m) (sym (end-at bs (at + 8) h)))

  pub text-whole : (n : ℕ) → Ok n ≡ taken at (read_word (drop at bs)) → n ≤ length bs - (at + 8) → Ok (record { end = at + 8 + n; size = n + 1 }) ≡ found size_text at (read_text (drop at bs))
  unfolding read_run
  text-whole n e k =
      let s : n ≤ length (drop (at + 8) bs) = rw (length-drop (at + 8) bs) k in
      rw (text-behind n e, le-leb n (length (drop (at + 8) bs)) s) (ap (λ m. Ok (record { end = at + 8 + n; size = m })) (rw (length-take-le n (drop (at + 8) bs) s) (omega arith)))

-- ---- many things
past-zero : {X : Type 0} (R : Read X) → past 0 R ≡ R
past-zero (got x n) = ap (λ m. got x m) (zero-add n)
past-zero (stops n) = ap (λ m. stops m) (zero-add n)

past-past : {X : Type 0} (m n : ℕ) (R : Read X) → past m (past n R) ≡ past (m + n) R
past-past m n (got x k) = ap (λ j. got x j) (omega arith)
past-past m n (stops k) = ap (λ j. stops j) (omega arith)

module _ {X : Type 0} (r : Bytes → Read X) where
  pub list-skip : (k : ℕ) (bs : Bytes) → k ≤ length bs → read_list r k bs ≡ past k (read_list r 0 (drop k bs))
  unfolding read_list
  list-skip zero bs h = sym (past-zero _)
  list-skip (suc k) [] h = absurd (omega arith)
  list-skip (suc k) (b ∷ bs) h = ap (λ R. past 1 R) (list-skip k bs (omega arith)) ∙ past-past 1 k _ ∙ ap (λ n. past n (read_list r 0 (drop k bs))) (omega arith)

  next-ok : (sx : X → ℕ) (at : ℕ) (f : Found) (R : Read X) (go : ℕ → Read (List X)) → Ok f ≡ found sx at R → (x : X) × (n : ℕ) × (f.size ≡ sx x) × (f.end ≡ at + n) × (next R go ≡ turn (λ xs. x ∷ xs) (go n))
  next-ok sx at f (got x n) go e = (x, n, (cc), (cc), refl)
  next-ok sx at f (stops k) go e = cc

  next-err : (sx : X → ℕ) (at k : ℕ) (R : Read X) (go : ℕ → Read (List X)) (sy : List X → ℕ) → Err k ≡ found sx at R → Err k ≡ found sy at (next R go)
  next-err sx at k (got x n) go sy e = cc
  next-err sx at k (stops j) go sy e = e

  module _ (bs : Bytes) (at : ℕ) where
    pub list-end : (sy : List X → ℕ) → length bs ≤ at → Err at ≡ found sy at (read_list r 0 (drop at bs))
    unfolding read_list
    list-end sy h = rw (drop_all at bs h) (ap (λ m. Err m) (omega arith))

    pub list-zero : (sy : List X → ℕ) → at < length bs → get_or bs at 0 ≡ 0 → Ok (record { end = at + 1; size = sy [] }) ≡ found sy at (read_list r 0 (drop at bs))
    unfolding read_list
    list-zero sy h e = rw (drop_more bs at 0 h, e)

    pub list-other : (sy : List X → ℕ) → at < length bs → (get_or bs at 0 ≡ 0 → ⊥) → (get_or bs at 0 ≡ 1 → ⊥) → Err at ≡ found sy at (read_list r 0 (drop at bs))
    unfolding read_list
    list-other sy h p q = rw (drop_more bs at 0 h, ne_eqb (get_or bs at 0) 0 p, ne_eqb (get_or bs at 0) 1 q) (ap (λ m. Err m) (omega arith))

    pub list-one : at < length bs → get_or bs at 0 ≡ 1 → read_list r 0 (drop at bs) ≡ past 1 (next (r (drop (at + 1) bs)) (λ n. read_list r n (drop (at + 1) bs)))
    unfolding read_list
    list-one h e = rw (drop_more bs at 0 h, e)

    pub list-one-err : (sx : X → ℕ) (sy : List X → ℕ) → at < length bs → get_or bs at 0 ≡ 1 → (k : ℕ) → Err k ≡ found sx (at + 1) (r (drop (at + 1) bs)) → Err k ≡ found sy at (read_list r 0 (drop at bs))
    list-one-err sx sy h e k g = next-err sx (at + 1) k _ (λ n. read_list r n (drop (at + 1) bs)) sy g ∙ sym (found-past sy at 1 _) ∙ ap (λ R. found sy at R) (sym (list-one h e))

    pub list-one-ok : (sx : X → ℕ) → at < length bs → get_or bs at 0 ≡ 1 → (f : Found) → Ok f ≡ found sx (at + 1) (r (drop (at + 1) bs)) → f.end ≤ length bs →
        (m : ℕ) → found (λ xs. m + sum_of sx xs) at (read_list r 0 (drop at bs)) ≡ found (λ xs. m + f.size + sum_of sx xs) f.end (read_list r 0 (drop f.end bs))
    list-one-ok sx h e f g in' m =
        let w = next-ok sx (at + 1) f (r (drop (at + 1) bs)) (λ n. read_list r n (drop (at + 1) bs)) g in
        let x = w.0 in
        let n = w.1 in
        let long : n ≤ length (drop (at + 1) bs) = rw (length-drop (at + 1) bs) (omega (arith, w.3)) in
        ap (λ R. found (λ xs. m + sum_of sx xs) at R) (list-one h e ∙ ap (λ R. past 1 R) (w.4 ∙ ap (λ R. turn (λ xs. x ∷ xs) R) (list-skip n (drop (at + 1) bs) long)))
        ∙ found-past _ at 1 _ ∙ found_turn _ (λ xs. x ∷ xs) (at + 1) _ ∙ found-past _ (at + 1) n _
        ∙ ap (λ ys. found (λ xs. m + (sx x + sum_of sx xs)) (at + 1 + n) (read_list r 0 ys)) (drop-drop n (at + 1) bs)
        ∙ ap (λ k. found (λ xs. m + (sx x + sum_of sx xs)) k (read_list r 0 (drop k bs))) (sym w.3)
        ∙ same_size _ _ f.end (λ xs. omega (arith, w.2)) _

-- ---- patterns
module _ (bs : Bytes) (at : ℕ) where
  pub pattern-no-word : (k : ℕ) → Err k ≡ taken at (read_word (drop at bs)) → Err k ≡ found size_text at (read_pattern (drop at bs))
  unfolding read_pattern
  pattern-no-word k e = follow-err (λ _. 0) size_text at k bs _ read_elements (taken-err (λ _. 0) at k _ e)

  pub pattern-behind : (n : ℕ) → Ok n ≡ taken at (read_word (drop at bs)) → found (λ ps. 1 + length ps) (at + 8) (read_elements n (drop (at + 8) bs)) ≡ found size_text at (read_pattern (drop at bs))
  unfolding read_pattern
  pattern-behind n e = same_size _ _ (at + 8) (λ ps. omega arith) _ ∙ sym (follow-got size_text at 8 bs n _ read_elements (word_ok at n (drop at bs) e))

-- none is left
pub elements-none : (bs : Bytes) (at n : ℕ) (s : List ℕ → ℕ) → n ≡ 0 → Ok (record { end = at; size = s [] }) ≡ found s at (read_elements n (drop at bs))
elements-none bs at n s e = rw e (ap (λ m. Ok (record { end = m; size = s [] })) (omega arith))

-- the first is read as it is alone, and the others behind it
one-element : (at m p : ℕ) (R : Read (List ℕ)) → found (λ ps. m + length ps) at (past 2 (turn (λ ps. p ∷ ps) R)) ≡ found (λ ps. m + 1 + length ps) (at + 2) R
one-element at m p R = found-past _ at 2 _ ∙ found_turn _ (λ ps. p ∷ ps) (at + 2) R ∙ same_size _ _ (at + 2) (λ ps. omega arith) R

pub record Behind (at m n end : ℕ) (bs : Bytes) : Type 0 where
  pub ends : end ≡ at + 2
  pub fits : 2 ≤ length bs
  pub others : found (λ ps. m + length ps) at (read_elements (suc n) bs) ≡ found (λ ps. m + 1 + length ps) (at + 2) (read_elements n (drop 2 bs))

elements-first : (at m n end : ℕ) (bs : Bytes) → Ok end ≡ ended at (read_elements 1 bs) → Behind at m n end bs
elements-first at m n end [] e = cc
elements-first at m n end (a ∷ []) e = go (leb a 1) e
  where
    go : (v : Bool) → Ok end ≡ ended {X = List ℕ} at (cond v (stops 1) (stops 0)) → Behind at m n end (a ∷ [])
    go true e = cc
    go false e = cc
elements-first at m n end (a ∷ (b ∷ bs)) e = go (eqb a 0) (eqb a 1) (eqb b 0) refl refl refl e
  where
    go : (x y z : Bool) → eqb a 0 ≡ x → eqb a 1 ≡ y → eqb b 0 ≡ z →
        Ok end ≡ ended at (cond x (past 2 (turn (λ ps. b ∷ ps) (got [] 0))) (cond y (cond z (past 2 (turn (λ ps. 256 ∷ ps) (got [] 0))) (stops 1)) (stops 0))) → Behind at m n end (a ∷ (b ∷ bs))
    go true y z p q r e = record { ends = cc; fits = omega arith; others = rw p (one-element at m b (read_elements n bs)) }
    go false true true p q r e = record { ends = cc; fits = omega arith; others = rw (p, q, r) (one-element at m 256 (read_elements n bs)) }
    go false true false p q r e = cc
    go false false z p q r e = cc

elements-not : (at n k : ℕ) (s : List ℕ → ℕ) (bs : Bytes) → Err k ≡ ended at (read_elements 1 bs) → Err k ≡ found s at (read_elements (suc n) bs)
elements-not at n k s [] e = let q : k ≡ at + 0 = cc in ap (λ m. Err m) q
elements-not at n k s (a ∷ []) e = go (leb a 1) e
  where
    go : (v : Bool) → Err k ≡ ended {X = List ℕ} at (cond v (stops 1) (stops 0)) → Err k ≡ found s at (cond v (stops 1) (stops 0))
    go true e = let q : k ≡ at + 1 = cc in ap (λ m. Err m) q
    go false e = let q : k ≡ at + 0 = cc in ap (λ m. Err m) q
elements-not at n k s (a ∷ (b ∷ bs)) e = go (eqb a 0) (eqb a 1) (eqb b 0) e
  where
    go : (x y z : Bool) → Err k ≡ ended at (cond x (past 2 (turn (λ ps. b ∷ ps) (got [] 0))) (cond y (cond z (past 2 (turn (λ ps. 256 ∷ ps) (got [] 0))) (stops 1)) (stops 0))) →
        Err k ≡ found s at (cond x (past 2 (turn (λ ps. b ∷ ps) (read_elements n bs))) (cond y (cond z (past 2 (turn (λ ps. 256 ∷ ps) (read_elements n bs))) (stops 1)) (stops 0)))
    go true y z e = cc
    go false true true e = cc
    go false true false e = let q : k ≡ at + 1 = cc in ap (λ m. Err m) q
    go false false z e = let q : k ≡ at + 0 = cc in ap (λ m. Err m) q

-- and it stops within its two bytes
element-place : (at k : ℕ) (bs : Bytes) → Err k ≡ ended at (read_elements 1 bs) → k ≤ at + length bs
element-place at k [] e = let q : k ≡ at + 0 = cc in omega (arith, q)
element-place at k (a ∷ []) e = go (leb a 1) e
  where
    go : (v : Bool) → Err k ≡ ended {X = List ℕ} at (cond v (stops 1) (stops 0)) → k ≤ at + 1
    go true e = let q : k ≡ at + 1 = cc in omega (arith, q)
    go false e = let q : k ≡ at + 0 = cc in omega (arith, q)
element-place at k (a ∷ (b ∷ bs)) e = go (eqb a 0) (eqb a 1) (eqb b 0) e
  where
    go : (x y z : Bool) → Err k ≡ ended at (cond x (past 2 (turn (λ ps. b ∷ ps) (got [] 0))) (cond y (cond z (past 2 (turn (λ ps. 256 ∷ ps) (got [] 0))) (stops 1)) (stops 0))) → k ≤ at + suc (suc (length bs))
    go true y z e = cc
    go false true true e = cc
    go false true false e = let q : k ≡ at + 1 = cc in omega (arith, q)
    go false false z e = let q : k ≡ at + 0 = cc in omega (arith, q)

module _ (bs : Bytes) (at n : ℕ) (some_left : 0 < n) where
  pub elements-more : (m end : ℕ) → at ≤ length bs → Ok end ≡ ended at (read_elements 1 (drop at bs)) →
      (end ≡ at + 2) × (end ≤ length bs) × (found (λ ps. m + length ps) at (read_elements n (drop at bs)) ≡ found (λ ps. m + 1 + length ps) end (read_elements (n - 1) (drop end bs)))
  elements-more m end h e =
      let w = elements-first at m (n - 1) end (drop at bs) e in
      let p : n ≡ suc (n - 1) = omega arith in (
        w.ends,
        omega (arith, w.ends, w.fits, length-drop at bs),
        ap (λ k. found (λ ps. m + length ps) at (read_elements k (drop at bs))) p ∙ w.others
            ∙ ap (λ xs. found (λ ps. m + 1 + length ps) (at + 2) (read_elements (n - 1) xs)) (drop-drop 2 at bs)
            ∙ ap (λ k. found (λ ps. m + 1 + length ps) k (read_elements (n - 1) (drop k bs))) (sym w.ends),
      )

  pub elements-within : (k : ℕ) → at ≤ length bs → Err k ≡ ended at (read_elements 1 (drop at bs)) → k ≤ length bs
  elements-within k h e = omega (arith, element-place at k (drop at bs) e, length-drop at bs)

  pub elements-stop : (s : List ℕ → ℕ) (k : ℕ) → Err k ≡ ended at (read_elements 1 (drop at bs)) → Err k ≡ found s at (read_elements n (drop at bs))
  elements-stop s k e =
      let p : suc (n - 1) ≡ n = omega arith in
      elements-not at (n - 1) k s (drop at bs) e ∙ ap (λ j. found s at (read_elements j (drop at bs))) p

-- ---- a number ends behind its eight bytes
pub number-end : (at : ℕ) (bs : Bytes) (f : Found) → Ok f ≡ found (λ _. 0) at (read_word bs) → f.end ≡ at + 8
unfolding read_word
number-end at bs f e = go (leb 8 (length bs)) e
  where
    go : (b : Bool) → Ok f ≡ found (λ _. 0) at (cond b (got (big_endian bs) 8) (stops (length bs))) → f.end ≡ at + 8
    go true q = cc
    go false q = cc
