-- What stands in the bytes where something was read.
use Rattle.std.proofs.Common.{◌≡◌, ℕ, zero, suc, ◌+◌, ◌*◌, ◌<◌, ◌≤◌, Bool, true, false, cond, eqb, leb, List, [], ◌∷◌, length, get_or, take, drop, sym, refl, ap, ◌∙◌, arith}
use mathlib.Core.Option.{some}
use Rattle.std.proofs.lemmas.Bool.{leb-true, eqb-true}
use Rattle.std.proofs.lemmas.List.{length-drop, length-take-le, drop-drop, get_or-drop}
use Rattle.spec.specs.Bytes.{Bytes}
use Rattle.spec.specs.Basics.{Text}
use Rattle.wire.specs.Read.{Read, got, stops, past, turn, follow, read_word, read_run, read_text, read_elements, read_pattern}
use Rattle.words.specs.Words.{big_endian}
use Rattle.wire.proofs.Exact.{got-stops, got-long, got_same}

pub some_same : {X : Type 0} (x y : X) → some x ≡ some y → x ≡ y
some_same x y e = cc

-- ---- one thing and another behind it
pub follow-there : {X Y : Type 0} (R : Read X) (bs : Bytes) (f : X → Bytes → Read Y) (y : Y) (m : ℕ) → follow R bs f ≡ got y m → (x : X) × (n : ℕ) × (k : ℕ) × (R ≡ got x n) × (f x (drop n bs) ≡ got y k) × (m ≡ n + k)
follow-there {Y} (got x n) bs f y m e = go (f x (drop n bs)) refl e
  where
    go : (S : Read Y) → f x (drop n bs) ≡ S → past n S ≡ got y m → (z : _) × (j : ℕ) × (k : ℕ) × (got x n ≡ got z j) × (f z (drop j bs) ≡ got y k) × (m ≡ j + k)
    go (got z k) p q = let s : z ≡ y = got_same _ _ _ _ q in (x, n, k, refl, (p ∙ ap (λ w. got w k) s), sym (got-long _ _ _ _ q))
    go (stops k) p q = got-stops y m (n + k) (sym q)
follow-there (stops k) bs f y m e = got-stops y m k (sym e)

pub turn-there : {X Y : Type 0} (g : X → Y) (R : Read X) (y : Y) (n : ℕ) → turn g R ≡ got y n → (x : X) × (R ≡ got x n) × (y ≡ g x)
turn-there g (got x k) y n e = (x, ap (λ j. got x j) (got-long _ _ _ _ e), sym (got_same _ _ _ _ e))
turn-there g (stops k) y n e = got-stops y n k (sym e)

-- ---- words
pub word-there : (bs : Bytes) (x n : ℕ) → read_word bs ≡ got x n → (8 ≤ length bs) × (x ≡ big_endian bs) × (n ≡ 8)
unfolding read_word
word-there bs x n e = go (leb 8 (length bs)) refl e
  where
    go : (b : Bool) → leb 8 (length bs) ≡ b → cond b (got (big_endian bs) 8) (stops (length bs)) ≡ got x n → (8 ≤ length bs) × (x ≡ big_endian bs) × (n ≡ 8)
    go true p q = (leb-true _ _ p, sym (got_same _ _ _ _ q), sym (got-long _ _ _ _ q))
    go false p q = got-stops x n (length bs) (sym q)

run-there : (k : ℕ) (bs : Bytes) (t : Text) (n : ℕ) → read_run k bs ≡ got t n → (k ≤ length bs) × (t ≡ take k bs) × (n ≡ k)
unfolding read_run
run-there k bs t n e = go (leb k (length bs)) refl e
  where
    go : (b : Bool) → leb k (length bs) ≡ b → cond b (got (take k bs) k) (stops (length bs)) ≡ got t n → (k ≤ length bs) × (t ≡ take k bs) × (n ≡ k)
    go true p q = (leb-true _ _ p, sym (got_same _ _ _ _ q), sym (got-long _ _ _ _ q))
    go false p q = got-stops t n (length bs) (sym q)

-- ---- texts: their length L is what the code reads
pub record TextAt (bs : Bytes) (at L : ℕ) (t : Text) (n : ℕ) : Type 0 where
  pub ends : at + 8 + L ≤ length bs
  pub is : t ≡ take L (drop (at + 8) bs)
  pub long : length t ≡ L
  pub takes : n ≡ 8 + L

pub text-long : (bs : Bytes) (at : ℕ) (t : Text) (n : ℕ) → at ≤ length bs → read_text (drop at bs) ≡ got t n → at + 8 ≤ length bs
unfolding read_text
text-long bs at t n h e =
    let w = follow-there (read_word (drop at bs)) (drop at bs) read_run t n e in
    omega (arith, (word-there (drop at bs) w.0 w.1 w.3).0, length-drop at bs)

pub text-there : (bs : Bytes) (at L : ℕ) (t : Text) (n : ℕ) → L ≡ big_endian (drop at bs) → at ≤ length bs → read_text (drop at bs) ≡ got t n → TextAt bs at L t n
unfolding read_text
text-there bs at L t n l h e =
    let w = follow-there (read_word (drop at bs)) (drop at bs) read_run t n e in
    let v = word-there (drop at bs) w.0 w.1 w.3 in
    let same : w.0 ≡ L = v.1 ∙ sym l in
    let bs' : drop w.1 (drop at bs) ≡ drop (at + 8) bs = ap (λ k. drop k (drop at bs)) v.2 ∙ drop-drop 8 at bs in
    let r = run-there w.0 (drop w.1 (drop at bs)) t w.2 w.4 in
    let is : t ≡ take L (drop (at + 8) bs) = r.1 ∙ ap (λ k. take k (drop w.1 (drop at bs))) same ∙ ap (λ ys. take L ys) bs' in
    let fits : L ≤ length (drop (at + 8) bs) = omega (arith, r.0, same, ap length bs') in
    record {
      ends = omega (arith, fits, length-drop (at + 8) bs, v.0, length-drop at bs);
      is = is;
      long = ap length is ∙ length-take-le L (drop (at + 8) bs) fits;
      takes = omega (arith, w.5, v.2, r.2, same);
    }

-- ---- patterns: each element is a number of two bytes
pub record Elements (bs : Bytes) (n : ℕ) (ps : List ℕ) (m : ℕ) : Type 0 where
  pub many : length ps ≡ n
  pub takes : m ≡ 2 * n
  pub ends : 2 * n ≤ length bs
  pub each : (i : ℕ) → i < n → get_or ps i 0 ≡ get_or bs (2 * i) 0 * 256 + get_or bs (2 * i + 1) 0

one_more : (n a b p m k : ℕ) (bs : Bytes) (ps qs : List ℕ) → p ≡ a * 256 + b → qs ≡ p ∷ ps → k ≡ 2 + m → Elements bs n ps m → Elements (a ∷ (b ∷ bs)) (suc n) qs k
one_more n a b p m k bs ps qs h e f w =
    record { many = rw e (omega (arith, w.many)); takes = omega (arith, w.takes); ends = omega (arith, w.ends); each = each }
  where
    each : (i : ℕ) → i < suc n → get_or qs i 0 ≡ get_or (a ∷ (b ∷ bs)) (2 * i) 0 * 256 + get_or (a ∷ (b ∷ bs)) (2 * i + 1) 0
    each zero l = rw e h
    each (suc i) l =
        let q : 2 * suc i ≡ suc (suc (2 * i)) = omega arith in
        let s : suc (suc (2 * i)) + 1 ≡ suc (suc (2 * i + 1)) = omega arith in
        rw (e, q, s) (w.each i (omega arith))

elements-there : (n : ℕ) (bs : Bytes) (ps : List ℕ) (m : ℕ) → read_elements n bs ≡ got ps m → Elements bs n ps m
elements-there zero bs ps m e =
    let p : ps ≡ [] = sym (got_same _ _ _ _ e) in
    record { many = rw p; takes = sym (got-long _ _ _ _ e); ends = omega arith; each = λ i l. absurd (omega arith) }
elements-there (suc n) [] ps m e = got-stops ps m 0 (sym e)
elements-there (suc n) (a ∷ []) ps m e = go (leb a 1) e
  where
    go : (b : Bool) → cond b (stops 1) (stops 0) ≡ got ps m → Elements (a ∷ []) (suc n) ps m
    go true q = got-stops ps m 1 (sym q)
    go false q = got-stops ps m 0 (sym q)
elements-there (suc n) (a ∷ (b ∷ bs)) ps m e = go (λ qs k. elements-there n bs qs k) (eqb a 0) (eqb a 1) (eqb b 0) refl refl refl e
  where
    made : ((qs : List ℕ) (k : ℕ) → read_elements n bs ≡ got qs k → Elements bs n qs k) → (p : ℕ) → p ≡ a * 256 + b → (R : Read (List ℕ)) → read_elements n bs ≡ R → past 2 (turn (λ qs. p ∷ qs) R) ≡ got ps m → Elements (a ∷ (b ∷ bs)) (suc n) ps m
    made more p h (got qs k) q s = one_more n a b p k m bs qs ps h (sym (got_same _ _ _ _ s)) (sym (got-long _ _ _ _ s)) (more qs k q)
    made more p h (stops k) q s = got-stops ps m (2 + k) (sym s)

    go : ((qs : List ℕ) (k : ℕ) → read_elements n bs ≡ got qs k → Elements bs n qs k) → (x y z : Bool) → eqb a 0 ≡ x → eqb a 1 ≡ y → eqb b 0 ≡ z →
        cond x (past 2 (turn (λ qs. b ∷ qs) (read_elements n bs))) (cond y (cond z (past 2 (turn (λ qs. 256 ∷ qs) (read_elements n bs))) (stops 1)) (stops 0)) ≡ got ps m → Elements (a ∷ (b ∷ bs)) (suc n) ps m
    go more true y z p q r s = let h : b ≡ a * 256 + b = omega (arith, eqb-true _ _ p) in made more b h (read_elements n bs) refl s
    go more false true true p q r s = let h : 256 ≡ a * 256 + b = omega (arith, eqb-true _ _ q, eqb-true _ _ r) in made more 256 h (read_elements n bs) refl s
    go more false true false p q r s = got-stops ps m 1 (sym s)
    go more false false z p q r s = got-stops ps m 0 (sym s)

-- the place `from` is behind the length
pub record PatternAt (bs : Bytes) (from L : ℕ) (ps : List ℕ) : Type 0 where
  pub ends : from + 2 * L ≤ length bs
  pub many : length ps ≡ L
  pub each : (i : ℕ) → i < L → get_or ps i 0 ≡ get_or bs (from + 2 * i) 0 * 256 + get_or bs (from + 2 * i + 1) 0

pub pattern-long : (bs : Bytes) (at : ℕ) (ps : List ℕ) (n : ℕ) → at ≤ length bs → read_pattern (drop at bs) ≡ got ps n → at + 8 ≤ length bs
unfolding read_pattern
pattern-long bs at ps n h e =
    let w = follow-there (read_word (drop at bs)) (drop at bs) read_elements ps n e in
    omega (arith, (word-there (drop at bs) w.0 w.1 w.3).0, length-drop at bs)

pub pattern-there : (bs : Bytes) (at L : ℕ) (ps : List ℕ) (n : ℕ) → L ≡ big_endian (drop at bs) → at ≤ length bs → read_pattern (drop at bs) ≡ got ps n → (n ≡ 8 + 2 * L) × PatternAt bs (at + 8) L ps
unfolding read_pattern
pattern-there bs at L ps n l h e =
    let w = follow-there (read_word (drop at bs)) (drop at bs) read_elements ps n e in
    let v = word-there (drop at bs) w.0 w.1 w.3 in
    let same : w.0 ≡ L = v.1 ∙ sym l in
    let bs' : drop w.1 (drop at bs) ≡ drop (at + 8) bs = ap (λ k. drop k (drop at bs)) v.2 ∙ drop-drop 8 at bs in
    let r = elements-there w.0 (drop w.1 (drop at bs)) ps w.2 w.4 in (
      omega (arith, w.5, v.2, r.takes, same),
      record {
        ends = omega (arith, r.ends, same, ap length bs', length-drop (at + 8) bs, v.0, length-drop at bs);
        many = omega (arith, r.many, same);
        each = λ i k.
            let j : at + 8 + (2 * i + 1) ≡ at + 8 + 2 * i + 1 = omega arith in
            r.each i (omega (arith, same, k)) ∙ ap (λ ys. get_or ys (2 * i) 0 * 256 + get_or ys (2 * i + 1) 0) bs'
            ∙ ap (λ y. y * 256 + get_or (drop (at + 8) bs) (2 * i + 1) 0) (get_or-drop (at + 8) bs (2 * i) 0)
            ∙ ap (λ y. get_or bs (at + 8 + 2 * i) 0 * 256 + y) (get_or-drop (at + 8) bs (2 * i + 1) 0 ∙ ap (λ k'. get_or bs k' 0) j);
      },
    )

-- ---- a pair
pub record PairAt {A B : Type 0} (R : Read A) (S : Bytes → Read B) (bs : Bytes) (at : ℕ) (p : A × B) (n : ℕ) : Type 0 where
  pub first : ℕ
  pub second : ℕ
  pub one : R ≡ got p.0 first
  pub other : S (drop (at + first) bs) ≡ got p.1 second
  pub takes : n ≡ first + second

pub pair-there : {A B : Type 0} (R : Read A) (S : Bytes → Read B) (bs : Bytes) (at : ℕ) (p : A × B) (n : ℕ) → follow R (drop at bs) (λ x rest. turn (λ y. (x, y)) (S rest)) ≡ got p n → PairAt R S bs at p n
pair-there {A} {B} R S bs at p n e =
    let w = follow-there R (drop at bs) (λ x rest. turn (λ y. (x, y)) (S rest)) p n e in
    let v = turn-there (λ y. (w.0, y)) (S (drop w.1 (drop at bs))) p w.2 w.4 in
    record {
      first = w.1;
      second = w.2;
      one = w.3 ∙ ap (λ (z : A × B). got z.0 w.1) (sym v.2);
      other = ap S (sym (drop-drop w.1 at bs)) ∙ v.1 ∙ ap (λ (z : A × B). got z.1 w.2) (sym v.2);
      takes = w.5;
    }
