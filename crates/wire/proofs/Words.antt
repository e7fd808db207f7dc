-- Numbers, texts and patterns: their readers are exact.
use Rattle.std.proofs.Common.{◌≡◌, ℕ, zero, suc, ◌-◌, ◌/◌, ◌%◌, ◌<◌, ◌≤◌, Bool, true, false, cond, ◌&&◌, eqb, ltb, leb, ◌⊎◌, List, [], ◌∷◌, ◌++◌, length, get_or, take, drop, replicate, sym, refl, ap, ◌∙◌, subst, inl, inr, ⊎_elim, arith}
use Rattle.std.proofs.lemmas.Bool.{and_parts, and_from, ne_eqb, eq-eqb, eqb-true, ltb-true, lt-ltb, le-leb, lt-leb, cases_lt}
use Rattle.std.proofs.lemmas.List.{length-append, length-take-le, length-replicate, append-nil, take-append-drop, take_all, take_at, drop_all, nil_from_length}
use Rattle.spec.specs.Basics.{Text, all}
use Rattle.spec.specs.Bytes.{Bytes, encode_word, encode_text, encode_elements, encode_pattern}
use Rattle.spec.specs.Calls.{is_word, all_below, is_bytes, is_pattern}
use Rattle.words.specs.Words.{big_endian}
use Rattle.words.proofs.Round.{word-long, big_endian-word}
use Rattle.wire.specs.Read.{Read, got, stops, past, turn, follow, read_word, read_run, read_text, read_elements, read_pattern}
use Rattle.wire.proofs.Exact.{Seen, whole, partly, Exact, exact_same, exact-behind}

-- ---- all of a list
pub all-front : (f : ℕ → Bool) (xs ys : List ℕ) → all f (xs ++ ys) ≡ true → all f xs ≡ true
all-front f [] ys h = refl
all-front f (x ∷ xs) ys h = let w = and_parts (f x) (all f (xs ++ ys)) h in and_from (f x) (all f xs) w.0 (all-front f xs ys w.1)

pub all_both : (f : ℕ → Bool) (xs ys : List ℕ) → all f xs ≡ true → all f ys ≡ true → all f (xs ++ ys) ≡ true
all_both f [] ys h k = k
all_both f (x ∷ xs) ys h k = let w = and_parts (f x) (all f xs) h in and_from (f x) (all f (xs ++ ys)) w.0 (all_both f xs ys w.1 k)

all-zeros : (n : ℕ) → all_below 256 (replicate n 0) ≡ true
all-zeros zero = refl
all-zeros (suc n) = all-zeros n

below_get : (bs : Bytes) → all_below 256 bs ≡ true → (i : ℕ) → get_or bs i 0 < 256
below_get [] h i = omega arith
below_get (b ∷ bs) h zero = ltb-true b 256 (and_parts (ltb b 256) (all_below 256 bs) h).0
below_get (b ∷ bs) h (suc i) = below_get bs (and_parts (ltb b 256) (all_below 256 bs) h).1 i

-- ---- a number
word-full : (bs : Bytes) → 8 ≤ length bs → read_word bs ≡ got (big_endian bs) 8
unfolding read_word
word-full bs h = rw (le-leb 8 (length bs) h)

word-short : (bs : Bytes) → length bs < 8 → read_word bs ≡ stops (length bs)
unfolding read_word
word-short bs h = rw (lt-leb 8 (length bs) h)

word_back : (n : ℕ) (rest : Bytes) → is_word n ≡ true → read_word (encode_word n ++ rest) ≡ got n (length (encode_word n))
word_back n rest h =
    let s : 8 ≤ length (encode_word n ++ rest) = omega (arith, length-append (encode_word n) rest, word-long n) in
    word-full (encode_word n ++ rest) s ∙ ap (λ m. got m 8) (big_endian-word n rest (ltb-true n _ h)) ∙ ap (λ k. got n k) (sym (word-long n))

-- eight bytes are those of a number
word-is : (bs : Bytes) → ((i : ℕ) → get_or bs i 0 < 256) → 8 ≤ length bs → bs ≡ encode_word (big_endian bs) ++ drop 8 bs
unfolding encode_word
word-is (a ∷ (b ∷ (c ∷ (d ∷ (e ∷ (f ∷ (g ∷ (h ∷ bs)))))))) s l =
    let s0 = s 0 in let s1 = s 1 in let s2 = s 2 in let s3 = s 3 in let s4 = s 4 in let s5 = s 5 in let s6 = s 6 in let s7 = s 7 in
    let n = big_endian (a ∷ (b ∷ (c ∷ (d ∷ (e ∷ (f ∷ (g ∷ (h ∷ bs)))))))) in
    let e0 : a ≡ n / 72057594037927936 % 256 = omega arith in
    let e1 : b ≡ n / 281474976710656 % 256 = omega arith in
    let e2 : c ≡ n / 1099511627776 % 256 = omega arith in
    let e3 : d ≡ n / 4294967296 % 256 = omega arith in
    let e4 : e ≡ n / 16777216 % 256 = omega arith in
    let e5 : f ≡ n / 65536 % 256 = omega arith in
    let e6 : g ≡ n / 256 % 256 = omega arith in
    let e7 : h ≡ n % 256 = omega arith in
    λ i. e0 i ∷ (e1 i ∷ (e2 i ∷ (e3 i ∷ (e4 i ∷ (e5 i ∷ (e6 i ∷ (e7 i ∷ bs)))))))
word-is [] s l = absurd (omega arith)
word-is (a ∷ []) s l = absurd (omega arith)
word-is (a ∷ (b ∷ [])) s l = absurd (omega arith)
word-is (a ∷ (b ∷ (c ∷ []))) s l = absurd (omega arith)
word-is (a ∷ (b ∷ (c ∷ (d ∷ [])))) s l = absurd (omega arith)
word-is (a ∷ (b ∷ (c ∷ (d ∷ (e ∷ []))))) s l = absurd (omega arith)
word-is (a ∷ (b ∷ (c ∷ (d ∷ (e ∷ (f ∷ [])))))) s l = absurd (omega arith)
word-is (a ∷ (b ∷ (c ∷ (d ∷ (e ∷ (f ∷ (g ∷ []))))))) s l = absurd (omega arith)

word_below : (bs : Bytes) → ((i : ℕ) → get_or bs i 0 < 256) → is_word (big_endian bs) ≡ true
word_below bs s = lt-ltb (big_endian bs) _ (omega (arith, s 0, s 1, s 2, s 3, s 4, s 5, s 6, s 7))

-- fewer bytes, with zeros behind them
abbrev filled : ℕ → Bytes → Bytes
filled n bs = bs ++ replicate (n - length bs) 0

filled-long : (n : ℕ) (bs : Bytes) → length bs ≤ n → length (filled n bs) ≡ n
filled-long n bs h = omega (arith, length-append bs (replicate (n - length bs) 0), length-replicate {A = ℕ} (n - length bs) 0)

filled-below : (n : ℕ) (bs : Bytes) → all_below 256 bs ≡ true → all_below 256 (filled n bs) ≡ true
filled-below n bs h = all_both _ bs (replicate (n - length bs) 0) h (all-zeros (n - length bs))

word-filled : (bs : Bytes) → all_below 256 bs ≡ true → length bs < 8 → encode_word (big_endian (filled 8 bs)) ≡ filled 8 bs
word-filled bs h l =
    let k = filled-long 8 bs (omega arith) in
    let w = word-is (filled 8 bs) (below_get (filled 8 bs) (filled-below 8 bs h)) (omega (arith, k)) in
    sym (w ∙ ap (λ q. encode_word (big_endian (filled 8 bs)) ++ q) (drop_all 8 (filled 8 bs) (omega (arith, k))) ∙ append-nil _)

see-word : (bs : Bytes) → all_below 256 bs ≡ true → (length bs < 8) ⊎ (8 ≤ length bs) → Seen encode_word is_word read_word bs
see-word bs h (inl l) =
    partly (length bs) (
    record {
      stop = word-short bs l;
      within = omega arith;
      one = big_endian (filled 8 bs);
      one-good = word_below (filled 8 bs) (below_get (filled 8 bs) (filled-below 8 bs h));
      rest = replicate (8 - length bs) 0;
      begins = word-filled bs h l ∙ ap (λ q. q ++ replicate (8 - length bs) 0) (sym (take_all (length bs) bs (omega arith)));
      stays = λ k other. absurd (omega arith);
    }
    )
see-word bs h (inr l) = whole (big_endian bs) (drop 8 bs) (word_below bs (below_get bs h)) (word-is bs (below_get bs h) l)

pub exact_word : Exact encode_word is_word read_word
exact_word = record { back = word_back; sees = λ bs h. see-word bs h (cases_lt (length bs) 8); some = 0; some_good = refl }

-- ---- n bytes
abbrev run_bytes : Text → Bytes
run_bytes t = t

abbrev run_good : ℕ → Text → Bool
run_good n t = all_below 256 t && eqb (length t) n

run-back : (n : ℕ) (t rest : Bytes) → run_good n t ≡ true → read_run n (t ++ rest) ≡ got t (length t)
unfolding read_run
run-back n t rest h =
    let l : length t ≡ n = eqb-true (length t) n (and_parts (all_below 256 t) (eqb (length t) n) h).1 in
    rw (le-leb n (length (t ++ rest)) (omega (arith, length-append t rest)), take_at t rest n l) (ap (λ m. got t m) (sym l))

see-run : (n : ℕ) (bs : Bytes) → all_below 256 bs ≡ true → (length bs < n) ⊎ (n ≤ length bs) → Seen run_bytes (run_good n) (read_run n) bs
unfolding read_run
see-run n bs h (inl l) =
    partly (length bs) (
    record {
      stop = rw (lt-leb n (length bs) l);
      within = omega arith;
      one = filled n bs;
      one-good = and_from (all_below 256 (filled n bs)) (eqb (length (filled n bs)) n) (filled-below n bs h) (eq-eqb (length (filled n bs)) n (filled-long n bs (omega arith)));
      rest = replicate (n - length bs) 0;
      begins = ap (λ q. q ++ replicate (n - length bs) 0) (sym (take_all (length bs) bs (omega arith)));
      stays = λ k other. absurd (omega arith);
    }
    )
see-run n bs h (inr l) =
    let w = sym (take-append-drop n bs) in
    whole (take n bs) (drop n bs) (and_from (all_below 256 (take n bs)) (eqb (length (take n bs)) n) (all-front _ (take n bs) (drop n bs) (subst (λ q. all_below 256 q ≡ true) w h)) (eq-eqb (length (take n bs)) n (length-take-le n bs l))) w

exact-run : (n : ℕ) → Exact run_bytes (run_good n) (read_run n)
exact-run n =
    record { back = run-back n; sees = λ bs h. see-run n bs h (cases_lt (length bs) n); some = replicate n 0; some_good = and_from (all_below 256 (replicate n 0)) (eqb (length (replicate n 0)) n) (all-zeros n) (eq-eqb (length (replicate n 0)) n (length-replicate {A = ℕ} n 0)) }

turn-same : {X : Type 0} (R : Read X) → turn (λ x. x) R ≡ R
turn-same (got x n) = refl
turn-same (stops k) = refl

-- ---- a text
pub exact-text : Exact encode_text is_bytes read_text
unfolding read_text
exact-text =
    exact_same encode_text is_bytes _ read_text (λ bs. same (read_word bs) bs)
    (exact-behind {X = ℕ} {Z = Text} {Y = λ _. Text} encode_word is_word read_word (λ _ t. t) run_good read_run (λ _ t. t) encode_text is_bytes apart joined exact_word (λ n _. exact-run n))
  where
    same : (R : Read ℕ) (bs : Bytes) → follow R bs (λ n rest. turn (λ t. t) (read_run n rest)) ≡ follow R bs read_run
    same (got n k) bs = ap (past k) (turn-same (read_run n (drop k bs)))
    same (stops k) bs = refl

    apart : (t : Text) → is_bytes t ≡ true → (n : ℕ) × (u : Text) × (u ≡ t) × (is_word n ≡ true) × (run_good n u ≡ true)
    apart t h = let w = and_parts (all_below 256 t) (is_word (length t)) h in (length t, t, refl, w.1, and_from (all_below 256 t) (eqb (length t) (length t)) w.0 (eq-eqb (length t) (length t) refl))

    joined : (n : ℕ) (t : Text) → is_word n ≡ true → run_good n t ≡ true → (encode_text t ≡ encode_word n ++ t) × (is_bytes t ≡ true)
    joined n t h k =
        let w = and_parts (all_below 256 t) (eqb (length t) n) k in
        let l : length t ≡ n = eqb-true (length t) n w.1 in
        (ap (λ m. encode_word m ++ t) l, and_from (all_below 256 t) (is_word (length t)) w.0 (ap is_word l ∙ h))

-- ---- an element of a pattern, in two bytes
abbrev read_element : Bytes → Read ℕ
read_element [] = stops 0
read_element (a ∷ []) = cond (leb a 1) (stops 1) (stops 0)
read_element (a ∷ (b ∷ bs)) = cond (eqb a 0) (got b 2) (cond (eqb a 1) (cond (eqb b 0) (got 256 2) (stops 1)) (stops 0))

abbrev encode_element : ℕ → Bytes
encode_element p = p / 256 % 256 ∷ (p % 256 ∷ [])

abbrev is_element : ℕ → Bool
is_element p = ltb p 257

element-back : (p : ℕ) (rest : Bytes) → is_element p ≡ true → read_element (encode_element p ++ rest) ≡ got p 2
element-back p rest h = ⊎_elim (λ l. low l) (λ l. star l) (cases_lt p 256)
  where
    low : p < 256 → read_element (encode_element p ++ rest) ≡ got p 2
    low l =
        let a : p / 256 % 256 ≡ 0 = omega arith in
        let b : p % 256 ≡ p = omega arith in
        rw (a, b)

    star : 256 ≤ p → read_element (encode_element p ++ rest) ≡ got p 2
    star l = let q : 256 ≡ p = omega (arith, ltb-true p 257 h) in subst (λ p. read_element (encode_element p ++ rest) ≡ got p 2) q refl

element-other : (a : ℕ) (bs : Bytes) → read_element (suc (suc a) ∷ bs) ≡ stops 0
element-other a [] = rw (lt-leb (suc (suc a)) 1 (omega arith))
element-other a (b ∷ bs) = rw (ne_eqb (suc (suc a)) 0 (λ q. omega arith), ne_eqb (suc (suc a)) 1 (λ q. omega arith))

see-element : (bs : Bytes) → all_below 256 bs ≡ true → Seen encode_element is_element read_element bs
see-element [] h = partly 0 (record { stop = refl; within = omega arith; one = 0; one-good = refl; rest = 0 ∷ (0 ∷ []); begins = refl; stays = λ k other. absurd (omega arith) })
see-element (zero ∷ []) h = partly 1 (record { stop = refl; within = omega arith; one = 0; one-good = refl; rest = 0 ∷ []; begins = refl; stays = λ k other. absurd (omega arith) })
see-element (suc zero ∷ []) h = partly 1 (record { stop = refl; within = omega arith; one = 256; one-good = refl; rest = 0 ∷ []; begins = refl; stays = λ k other. absurd (omega arith) })
see-element (zero ∷ (b ∷ bs)) h =
    let l : b < 256 = ltb-true b 256 (and_parts (ltb b 256) (all_below 256 bs) h).0 in
    let p : 0 ≡ b / 256 % 256 = omega arith in
    let q : b ≡ b % 256 = omega arith in
    whole b bs (lt-ltb b 257 (omega arith)) (λ i. p i ∷ (q i ∷ bs))
see-element (suc zero ∷ (zero ∷ bs)) h = whole 256 bs refl refl
see-element (suc zero ∷ (suc b ∷ bs)) h =
    let q = ne_eqb (suc b) 0 (λ q. omega arith) in
    partly 1 (record { stop = rw q; within = omega arith; one = 256; one-good = refl; rest = 0 ∷ []; begins = refl; stays = λ k other. rw q })
see-element (suc (suc a) ∷ bs) h = partly 0 (record { stop = element-other a bs; within = omega arith; one = 0; one-good = refl; rest = 0 ∷ (0 ∷ []); begins = refl; stays = λ k other. element-other a other })

exact-element : Exact encode_element is_element read_element
exact-element = record { back = element-back; sees = see-element; some = 0; some_good = refl }

-- ---- some elements
abbrev elements_good : ℕ → List ℕ → Bool
elements_good n ps = all_below 257 ps && eqb (length ps) n

elements_same : (n : ℕ) (bs : Bytes) → follow (read_element bs) bs (λ p rest. turn (λ ps. p ∷ ps) (read_elements n rest)) ≡ read_elements (suc n) bs
elements_same n [] = refl
elements_same n (a ∷ []) = go (leb a 1)
  where
    go : (b : Bool) → follow (cond b (stops 1) (stops 0)) (a ∷ []) (λ (p : ℕ) rest. turn (λ ps. p ∷ ps) (read_elements n rest)) ≡ cond b (stops 1) (stops 0)
    go true = refl
    go false = refl
elements_same n (a ∷ (b ∷ bs)) = go (eqb a 0) (eqb a 1) (eqb b 0)
  where
    go : (x y z : Bool) → follow (cond x (got b 2) (cond y (cond z (got 256 2) (stops 1)) (stops 0))) (a ∷ (b ∷ bs)) (λ (p : ℕ) rest. turn (λ ps. p ∷ ps) (read_elements n rest)) ≡ cond x (past 2 (turn (λ ps. b ∷ ps) (read_elements n bs))) (cond y (cond z (past 2 (turn (λ ps. 256 ∷ ps) (read_elements n bs))) (stops 1)) (stops 0))
    go true y z = refl
    go false true true = refl
    go false true false = refl
    go false false z = refl

exact-elements : (n : ℕ) → Exact encode_elements (elements_good n) (read_elements n)
exact-elements zero = record { back = back-of; sees = λ bs h. whole [] bs refl refl; some = []; some_good = refl }
  where
    back-of : (ps : List ℕ) (rest : Bytes) → elements_good 0 ps ≡ true → got [] 0 ≡ got ps (length (encode_elements ps))
    back-of ps rest h =
        let q = nil_from_length ps (eqb-true (length ps) 0 (and_parts (all_below 257 ps) (eqb (length ps) 0) h).1) in
        subst (λ ps. got [] 0 ≡ got ps (length (encode_elements ps))) (sym q) refl
exact-elements (suc n) =
    exact_same encode_elements (elements_good (suc n)) _ (read_elements (suc n)) (elements_same n)
    (exact-behind {X = ℕ} {Z = List ℕ} {Y = λ _. List ℕ} encode_element is_element read_element (λ _ ps. encode_elements ps) (λ _ ps. elements_good n ps) (λ _ bs. read_elements n bs) (λ p ps. p ∷ ps) encode_elements (elements_good (suc n)) apart joined exact-element (λ _ _. exact-elements n))
  where
    apart : (qs : List ℕ) → elements_good (suc n) qs ≡ true → (p : ℕ) × (ps : List ℕ) × (p ∷ ps ≡ qs) × (is_element p ≡ true) × (elements_good n ps ≡ true)
    apart [] h = let z : 0 ≡ suc n = eqb-true 0 (suc n) h in absurd (omega arith)
    apart (p ∷ ps) h =
        let w = and_parts (all_below 257 (p ∷ ps)) (eqb (length (p ∷ ps)) (suc n)) h in
        let v = and_parts (is_element p) (all_below 257 ps) w.0 in
        let l = eqb-true (length (p ∷ ps)) (suc n) w.1 in
        (p, ps, refl, v.0, and_from (all_below 257 ps) (eqb (length ps) n) v.1 (eq-eqb (length ps) n (omega (arith, l))))

    joined : (p : ℕ) (ps : List ℕ) → is_element p ≡ true → elements_good n ps ≡ true → (encode_elements (p ∷ ps) ≡ encode_element p ++ encode_elements ps) × (elements_good (suc n) (p ∷ ps) ≡ true)
    joined p ps h k =
        let w = and_parts (all_below 257 ps) (eqb (length ps) n) k in
        let l = eqb-true (length ps) n w.1 in
        (refl, and_from (all_below 257 (p ∷ ps)) (eqb (length (p ∷ ps)) (suc n)) (and_from (is_element p) (all_below 257 ps) h w.0) (eq-eqb (length (p ∷ ps)) (suc n) (omega (arith, l))))

-- ---- a pattern
pub exact-pattern : Exact encode_pattern is_pattern read_pattern
unfolding read_pattern
exact-pattern =
    exact_same encode_pattern is_pattern _ read_pattern (λ bs. same (read_word bs) bs)
    (exact-behind {X = ℕ} {Z = List ℕ} {Y = λ _. List ℕ} encode_word is_word read_word (λ _ p. encode_elements p) elements_good read_elements (λ _ p. p) encode_pattern is_pattern apart joined exact_word (λ n _. exact-elements n))
  where
    same : (R : Read ℕ) (bs : Bytes) → follow R bs (λ n rest. turn (λ t. t) (read_elements n rest)) ≡ follow R bs read_elements
    same (got n k) bs = ap (past k) (turn-same (read_elements n (drop k bs)))
    same (stops k) bs = refl

    apart : (t : List ℕ) → is_pattern t ≡ true → (n : ℕ) × (u : List ℕ) × (u ≡ t) × (is_word n ≡ true) × (elements_good n u ≡ true)
    apart t h = let w = and_parts (all_below 257 t) (is_word (length t)) h in (length t, t, refl, w.1, and_from (all_below 257 t) (eqb (length t) (length t)) w.0 (eq-eqb (length t) (length t) refl))

    joined : (n : ℕ) (t : List ℕ) → is_word n ≡ true → elements_good n t ≡ true → (encode_pattern t ≡ encode_word n ++ encode_elements t) × (is_pattern t ≡ true)
    joined n t h k =
        let w = and_parts (all_below 257 t) (eqb (length t) n) k in
        let l : length t ≡ n = eqb-true (length t) n w.1 in
        (ap (λ m. encode_word m ++ encode_elements t) l, and_from (all_below 257 t) (is_word (length t)) w.0 (ap is_word l ∙ h))
