-- One more value in its place.
use Rattle.std.specs.Ordering.{ordering_reverse, is_lt}
use Rattle.std.specs.declared.cmp.Ordering.TheVariants.{Less, Equal, Greater}
use Rattle.std.specs.declared.cmp.Ordering.{Ordering}
use Rattle.std.proofs.Common.{Ok, Err, [], ◌∷◌, ◌≡◌, ℕ, zero, suc, ◌+◌, ◌-◌, ◌*◌, ◌<◌, ◌≤◌, cond, ◌≢◌, List, ◌++◌, length, get_or, take, drop, set, sym, refl, ap, ◌∙◌, subst, ap₂, inl, inr, arith}
use Rattle.std.proofs.lemmas.Bool.{cases_eq, cases_lt}
use lib.Seq.{paste}
use Rattle.std.proofs.lemmas.List.{get_or-take, get_or-drop, get_or_append_left, get_or-append_right, take-append-le, length-take-le, length-append, length-drop, take-take, take-set-le, get_or-set_same, get_or-set_other, length-set}
use Rattle.spec.specs.Values as s
use Rattle.spec.specs.Values.{cons, nil}
use Rattle.laws.specs.Bridges.{with_value}
use Rattle.values.specs.Order.{order_value}
use Rattle.values.specs.Held.{value_of, run, decode, Good}
use Rattle.values.specs.Making.{up_to, kept, meant, Made, Written, Opened, Inserted, Spotted, Laid, LaidAttr}
use Rattle.values.specs.declared.nodes.Value.{Value}
use Rattle.values.proofs.Orders.{less-is, order_same}
use Rattle.values.proofs.Rising.{values, rising-new}

with-by : (v w : s.Value) (ws : s.Values) (o : Ordering) → order_value v w ≡ o →
    with_value v (cons w ws) ≡ cond (is_lt o) (cons v (cons w ws)) (cond (is_lt (ordering_reverse o)) (cons w (with_value v ws)) (cons v ws))
with-by v w ws o e =
    ap₂ (λ a b. cond a (cons v (cons w ws)) (cond b (cons w (with_value v ws)) (cons v ws))) (less-is v w ∙ ap is_lt e) (less-is w v ∙ ap is_lt (values.turn v w ∙ ap ordering_reverse e))

pub with-there : (f : ℕ → s.Value) (v : s.Value) (i r k : ℕ) → i ≤ k → k < i + r → ((j : ℕ) → i ≤ j → j < k → order_value v (f j) ≡ Greater) → order_value v (f k) ≡ Equal → with_value v (run f i r) ≡ run f i r
with-there f v i zero k l l' p e = absurd (omega arith)
with-there f v i (suc r) k l l' p e = elim (cases_eq i k) [
  | inl q ↦
      let s : order_value v (f i) ≡ Equal = ap (λ n. order_value v (f n)) q ∙ e in
      with-by v (f i) (run f (i + 1) r) Equal s ∙ ap (λ x. cons x (run f (i + 1) r)) (order_same v (f i) s)
  | inr n ↦ with-by v (f i) (run f (i + 1) r) Greater (p i (omega arith) (omega arith)) ∙ ap (cons (f i)) (with-there f v (i + 1) r k (omega arith) (omega arith) (λ j a b. p j (omega arith) b) e)
]

run-shift : (f g : ℕ → s.Value) (i r : ℕ) → ((j : ℕ) → i ≤ j → j < i + r → g (j + 1) ≡ f j) → run g (i + 1) r ≡ run f i r
run-shift f g i zero h = refl
run-shift f g i (suc r) h = ap₂ cons (h i (omega arith) (omega arith)) (run-shift f g (i + 1) r (λ j a b. h j (omega arith) (omega arith)))

pub with-new : (f g : ℕ → s.Value) (v : s.Value) (i r k : ℕ) → i ≤ k → k ≤ i + r → ((j : ℕ) → i ≤ j → j < k → order_value v (f j) ≡ Greater) → (k < i + r → order_value v (f k) ≡ Less) →
    ((j : ℕ) → i ≤ j → j < k → g j ≡ f j) → g k ≡ v → ((j : ℕ) → k ≤ j → j < i + r → g (j + 1) ≡ f j) → with_value v (run f i r) ≡ run g i (suc r)
with-new f g v i zero k l l' p e b h s = let q : k ≡ i = omega arith in ap (λ x. cons x nil) (sym (ap g (sym q) ∙ h))
with-new f g v i (suc r) k l l' p e b h s = elim (cases_eq i k) [
  | inl q ↦ with-by v (f i) (run f (i + 1) r) Less (ap (λ n. order_value v (f n)) q ∙ e (omega arith)) ∙ ap₂ cons (sym (ap g q ∙ h)) (sym (run-shift f g i (suc r) (λ j x y. s j (omega arith) y)))
  | inr n ↦ with-by v (f i) (run f (i + 1) r) Greater (p i (omega arith) (omega arith))
      ∙ ap₂ cons (sym (b i (omega arith) (omega arith))) (with-new f g v (i + 1) r k (omega arith) (omega arith) (λ j x y. p j (omega arith) y) (λ x. e (omega arith)) (λ j x y. b j (omega arith) y) h (λ j x y. s j x (omega arith)))
]

-- numbers before a place that are the same
pub at_before : (w w' : List ℕ) (n i : ℕ) → take n w' ≡ take n w → i < n → get_or w' i 0 ≡ get_or w i 0
at_before w w' n i e l = sym (get_or-take n w' i 0 l) ∙ ap (λ x. get_or x i 0) e ∙ get_or-take n w i 0 l

pub take-before : (w w' : List ℕ) (n i : ℕ) → take n w' ≡ take n w → i ≤ n → take i w' ≡ take i w
take-before w w' n i e l = sym (take-take i n w' l) ∙ ap (take i) e ∙ take-take i n w l

-- what holds of each of n and of one more, holds of each of them with the one in its place
pub for-each : {X : Type 0} (P : X → Type 0) (old new : ℕ → X) (z : X) (n k : ℕ) → k ≤ n → ((j : ℕ) → j < n → P (old j)) → P z → ((j : ℕ) → j < k → new j ≡ old j) → new k ≡ z → ((j : ℕ) → k ≤ j → j < n → new (j + 1) ≡ old j) →
    (j : ℕ) → j < n + 1 → P (new j)
for-each P old new z n k le each here b₁ b₂ b₃ j l = elim (cases_lt j k) [
  | inl b ↦ subst P (sym (b₁ j b)) (each j (omega arith))
  | inr b ↦ elim (cases_eq j k) [
    | inl q ↦ subst P (sym (ap new q ∙ b₂)) here
    | inr u ↦ let q : j ≡ j - 1 + 1 = omega arith in subst P (sym (ap new q ∙ b₃ (j - 1) (omega arith) (omega arith))) (each (j - 1) (omega arith))
  ]
]

module _ (h : ℕ) (store w w₁ : List ℕ) (a t k x y : ℕ) (v : Value) (M : Made h store w a t) (G : Good h (up_to store w a) v) (is : value_of 0 x y ≡ v)
    (S : Spotted (λ j. order_value (decode h (up_to store w a) v) (meant h store w a j)) (get_or w (a + 1) 0) (Err k)) (O : Opened w w₁ (a + 2 + 2 * k) t (x ∷ y ∷ [])) (long : length w₁ ≡ length w) (room : t + 2 ≤ length w) where
  w₂ : List ℕ
  w₂ = set w₁ (a + 1) (get_or w₁ (a + 1) 0 + 1)

  len : length w₂ ≡ length w
  unfolding w₂
  len = simp length-set long

  below : take a w₂ ≡ take a w
  unfolding w₂
  below = take-set-le a w₁ (a + 1) (get_or w₁ (a + 1) 0 + 1) (omega arith) ∙ take-before w w₁ (a + 2 + 2 * k) a O.before (omega arith)

  other : (i : ℕ) → i ≢ a + 1 → get_or w₂ i 0 ≡ get_or w₁ i 0
  unfolding w₂
  other i n = get_or-set_other w₁ (a + 1) i (get_or w₁ (a + 1) 0 + 1) 0 n

  counted : get_or w₂ (a + 1) 0 ≡ get_or w (a + 1) 0 + 1
  unfolding w₂
  counted = get_or-set_same w₁ (a + 1) (get_or w₁ (a + 1) 0 + 1) 0 (omega (arith, M.ends, M.fits)) ∙ ap (λ n. n + 1) (at_before w w₁ (a + 2 + 2 * k) (a + 1) O.before (omega arith))

  kept_low : (j : ℕ) → j < k → kept w₂ a j ≡ kept w a j
  kept_low j l = ap₂ (value_of 0) (other (a + 2 + 2 * j) (omega arith) ∙ at_before w w₁ (a + 2 + 2 * k) (a + 2 + 2 * j) O.before (omega arith)) (other (a + 2 + 2 * j + 1) (omega arith) ∙ at_before w w₁ (a + 2 + 2 * k) (a + 2 + 2 * j + 1) O.before (omega arith))

  first : get_or w₁ (a + 2 + 2 * k) 0 ≡ x
  first = let e : a + 2 + 2 * k ≡ a + 2 + 2 * k + 0 = omega arith in ap (λ i. get_or w₁ i 0) e ∙ O.here 0 (omega arith)

  second : get_or w₁ (a + 2 + 2 * k + 1) 0 ≡ y
  second = O.here 1 (omega arith)

  kept_here : kept w₂ a k ≡ v
  kept_here = ap₂ (value_of 0) (other (a + 2 + 2 * k) (omega arith) ∙ first) (other (a + 2 + 2 * k + 1) (omega arith) ∙ second) ∙ is

  kept_high : (j : ℕ) → k ≤ j → j < get_or w (a + 1) 0 → kept w₂ a (j + 1) ≡ kept w a j
  kept_high j l l' =
      let e : a + 2 + 2 * (j + 1) ≡ a + 2 + 2 * j + 2 = omega arith in
      let e' : a + 2 + 2 * (j + 1) + 1 ≡ a + 2 + 2 * j + 1 + 2 = omega arith in
      ap₂ (value_of 0)
      (other (a + 2 + 2 * (j + 1)) (omega arith) ∙ ap (λ i. get_or w₁ i 0) e ∙ O.behind (a + 2 + 2 * j) (omega arith) (omega (arith, M.ends)))
      (other (a + 2 + 2 * (j + 1) + 1) (omega arith) ∙ ap (λ i. get_or w₁ i 0) e' ∙ O.behind (a + 2 + 2 * j + 1) (omega arith) (omega (arith, M.ends)))

  mems : up_to store w₂ a ≡ up_to store w a
  mems = ap (λ z. store ++ z) below

  each : (j : ℕ) → j < get_or w (a + 1) 0 + 1 → Good h (up_to store w a) (kept w₂ a j)
  each = for-each (Good h (up_to store w a)) (kept w a) (kept w₂ a) v (get_or w (a + 1) 0) k S.0 M.each G kept_low kept_here kept_high

  pub inserted : Inserted h store w (set w₁ (a + 1) (get_or w₁ (a + 1) 0 + 1)) a t (t + 2) v
  unfolding w₂
  inserted = record {
    rises = omega arith;
    few = omega arith;
    keeps = below;
    beyond = λ i l. other i (omega (arith, M.ends)) ∙ O.beyond i l;
    made = record {
      flag = other a (omega arith) ∙ at_before w w₁ (a + 2 + 2 * k) a O.before (omega arith) ∙ M.flag;
      ends = omega (arith, counted, M.ends);
      fits = omega (arith, len);
      each = λ j l. subst (λ m. Good h m (kept w₂ a j)) (sym mems) (each j (omega (arith, counted)));
      rising = λ i j l l'. ap₂ order_value (ap (λ m. decode h m (kept w₂ a i)) mems) (ap (λ m. decode h m (kept w₂ a j)) mems) ∙
          rising-new order_value values (meant h store w a) (get_or w (a + 1) 0) M.rising (decode h (up_to store w a) v) (λ j. decode h (up_to store w a) (kept w₂ a j)) k S
          (λ j l. ap (decode h (up_to store w a)) (kept_low j l)) (ap (decode h (up_to store w a)) kept_here) (λ j l l'. ap (decode h (up_to store w a)) (kept_high j l l')) i j l (omega (arith, counted));
    };
    holds =
        ap₂ (λ m n. run (λ j. decode h m (kept w₂ a j)) 0 n) mems (counted ∙ plus (get_or w (a + 1) 0))
        ∙ sym (with-new (meant h store w a) (λ j. decode h (up_to store w a) (kept w₂ a j)) (decode h (up_to store w a) v) 0 (get_or w (a + 1) 0) k (omega arith) (omega (arith, S.0))
        (λ j x l. S.2 j l) (λ l. S.1 (omega arith))
        (λ j x l. ap (decode h (up_to store w a)) (kept_low j l)) (ap (decode h (up_to store w a)) kept_here)
        (λ j l l'. ap (decode h (up_to store w a)) (kept_high j l (omega arith))));
  }
    where
      plus : (n : ℕ) → n + 1 ≡ suc n
      plus n = omega arith

-- a value that is there already
pub inserted-there : (h : ℕ) (store w : List ℕ) (a t k : ℕ) (v : Value) → Made h store w a t → Spotted (λ j. order_value (decode h (up_to store w a) v) (meant h store w a j)) (get_or w (a + 1) 0) (Ok k) → Inserted h store w w a t t v
inserted-there h store w a t k v M S = record {
  rises = omega arith;
  few = omega arith;
  keeps = refl;
  beyond = λ i l. refl;
  made = M;
  holds = sym (with-there (meant h store w a) (decode h (up_to store w a) v) 0 (get_or w (a + 1) 0) k (omega arith) (omega (arith, S.0)) (λ j x l. S.2 j l) S.1);
}

-- numbers of another list at a place of this one
module _ (w : List ℕ) (at : ℕ) (xs : List ℕ) (n : ℕ) (le : n ≤ length xs) (room : at + n ≤ length w) where
  front : length (take at w) ≡ at
  front = length-take-le at w (omega arith)

  middle : length (take n xs) ≡ n
  middle = length-take-le n xs le

  two : length (take at w ++ take n xs) ≡ at + n
  two = simp length-append (omega (arith, front, middle))

  pub pasted-before : take at (paste w at xs n) ≡ take at w
  pasted-before =
      take-append-le at (take at w ++ take n xs) (drop (at + n) w) (omega (arith, two))
      ∙ take-append-le at (take at w) (take n xs) (omega (arith, front))
      ∙ take-take at at w (omega arith)

  pub pasted-here : (j : ℕ) → j < n → get_or (paste w at xs n) (at + j) 0 ≡ get_or xs j 0
  pasted-here j l =
      let e : at + j - at ≡ j = omega arith in
      get_or_append_left (take at w ++ take n xs) (drop (at + n) w) 0 (at + j) (omega (arith, two))
      ∙ get_or-append_right (take at w) (take n xs) at (at + j) 0 front (omega arith)
      ∙ ap (λ i. get_or (take n xs) i 0) e ∙ get_or-take n xs j 0 l

  pub pasted-beyond : (i : ℕ) → at + n ≤ i → get_or (paste w at xs n) i 0 ≡ get_or w i 0
  pasted-beyond i l =
      let e : at + n + (i - (at + n)) ≡ i = omega arith in
      get_or-append_right (take at w ++ take n xs) (drop (at + n) w) (at + n) i 0 two l
      ∙ get_or-drop (at + n) w (i - (at + n)) 0 ∙ ap (λ j. get_or w j 0) e

pub written : (w : List ℕ) (at : ℕ) (xs : List ℕ) → at + length xs ≤ length w → Written w (paste w at xs (length xs)) at xs
written w at xs room = record {
  before = pasted-before w at xs (length xs) (omega arith) room;
  here = pasted-here w at xs (length xs) (omega arith) room;
  beyond = pasted-beyond w at xs (length xs) (omega arith) room;
}

-- what lies from a place up to t, moved up, and then numbers at the place
pub opened : (w w' : List ℕ) (at t : ℕ) (xs : List ℕ) → at ≤ t → t + length xs ≤ length w → Written (paste w (at + length xs) (drop at w) (t - at)) w' at xs → Opened w w' at t xs
opened w w' at t xs le room W =
    let n : ℕ = length xs in
    let p : List ℕ = paste w (at + n) (drop at w) (t - at) in
    let some : t - at ≤ length (drop at w) = simp length-drop (omega arith) in
    let fits : at + n + (t - at) ≤ length w = omega arith in
    record {
      before = W.before ∙ take-before w p (at + n) at (pasted-before w (at + n) (drop at w) (t - at) some fits) (omega arith);
      here = W.here;
      behind = λ i l l'.
          let e : i + n ≡ at + n + (i - at) = omega arith in
          let e' : at + (i - at) ≡ i = omega arith in
          W.beyond (i + n) (omega arith) ∙ ap (λ j. get_or p j 0) e ∙ pasted-here w (at + n) (drop at w) (t - at) some fits (i - at) (omega arith) ∙ get_or-drop at w (i - at) 0 ∙ ap (λ j. get_or w j 0) e';
      beyond = λ i l. W.beyond i (omega arith) ∙ pasted-beyond w (at + n) (drop at w) (t - at) some fits i (omega arith);
    }

-- a value that waits, and an attribute
pub laid : (w w' : List ℕ) (at x y : ℕ) (v : Value) → Written w w' at (x ∷ y ∷ []) → value_of 0 x y ≡ v → Laid w w' at v
laid w w' at x y v W e =
    let z : at + 2 * 0 ≡ at + 0 = omega arith in
    let z' : at + 2 * 0 + 1 ≡ at + 1 = omega arith in
    record {
      before = W.before;
      is = ap₂ (value_of 0) (ap (λ i. get_or w' i 0) z ∙ W.here 0 (omega arith)) (ap (λ i. get_or w' i 0) z' ∙ W.here 1 (omega arith)) ∙ e;
      beyond = λ i l. W.beyond i (omega arith);
    }

pub laid-attr : (w w' : List ℕ) (at n x y : ℕ) (v : Value) → Written w w' at (n ∷ x ∷ y ∷ []) → value_of 0 x y ≡ v → LaidAttr w w' at n v
laid-attr w w' at n x y v W e =
    let z : at + 3 * 0 ≡ at + 0 = omega arith in
    let z' : at + 3 * 0 + 1 ≡ at + 1 = omega arith in
    let z'' : at + 3 * 0 + 2 ≡ at + 2 = omega arith in
    record {
      before = W.before;
      name = ap (λ i. get_or w' i 0) z ∙ W.here 0 (omega arith);
      is = ap₂ (value_of 0) (ap (λ i. get_or w' i 0) z' ∙ W.here 1 (omega arith)) (ap (λ i. get_or w' i 0) z'' ∙ W.here 2 (omega arith)) ∙ e;
      beyond = λ i l. W.beyond i (omega arith);
    }
