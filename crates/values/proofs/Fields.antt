-- One more attribute in its place, or in the place of the one of its name.
use Rattle.std.specs.Ordering.{ordering_reverse, is_lt}
use Rattle.std.specs.declared.cmp.Ordering.TheVariants.{Less, Equal, Greater}
use Rattle.std.specs.declared.cmp.Ordering.{Ordering}
use Rattle.std.proofs.Common.{Ok, Err, [], ◌∷◌, ◌≡◌, ℕ, zero, suc, ◌+◌, ◌*◌, ◌<◌, ◌≤◌, cond, ◌≢◌, List, ◌++◌, length, get_or, take, set, sym, refl, ap, ◌∙◌, subst, ap₂, inl, inr, arith}
use Rattle.std.proofs.lemmas.Bool.{cases_eq, cases_lt}
use Rattle.std.proofs.lemmas.List.{take-set-le, get_or-set_same, get_or-set_other, length-set}
use Rattle.spec.specs.Values as s
use Rattle.spec.specs.Values.{attr, empty}
use Rattle.laws.specs.Bridges.{with_attr}
use Rattle.values.specs.Order.{order_row}
use Rattle.values.specs.Held.{value_of, run_attrs, decode, Good, text_at, TextIn}
use Rattle.values.specs.Making.{up_to, named, kept_attr, MadeRecord, Written, Opened, InsertedAttr, Spotted}
use Rattle.values.specs.declared.nodes.Value.{Value}
use Rattle.values.proofs.Orders.{less-row, same_row}
use Rattle.values.proofs.Frame.{run-attrs-same}
use Rattle.values.proofs.Rising.{flip-row, texts, rising-new}
use Rattle.values.proofs.OneMore.{at_before, take-before, for-each}

with-attr-by : (x : List ℕ) (v : s.Value) (b : List ℕ) (w : s.Value) (fs : s.Attrs) (o : Ordering) → order_row x b ≡ o →
    with_attr x v (attr b w fs) ≡ cond (is_lt o) (attr x v (attr b w fs)) (cond (is_lt (ordering_reverse o)) (attr b w (with_attr x v fs)) (attr x v fs))
with-attr-by x v b w fs o e =
    ap₂ (λ p q. cond p (attr x v (attr b w fs)) (cond q (attr b w (with_attr x v fs)) (attr x v fs))) (less-row x b ∙ ap is_lt e) (less-row b x ∙ ap is_lt (flip-row x b ∙ ap ordering_reverse e))

put_same : (a b : List ℕ) (v w : s.Value) (fs gs : s.Attrs) → a ≡ b → v ≡ w → fs ≡ gs → attr a v fs ≡ attr b w gs
put_same a b v w fs gs p q r = λ i. attr (p i) (q i) (r i)

pub with-attr-there : (a b : ℕ → List ℕ) (f g : ℕ → s.Value) (x : List ℕ) (v : s.Value) (i r k : ℕ) → i ≤ k → k < i + r → ((j : ℕ) → i ≤ j → j < k → order_row x (a j) ≡ Greater) → order_row x (a k) ≡ Equal →
    ((j : ℕ) → b j ≡ a j) → ((j : ℕ) → j ≢ k → g j ≡ f j) → g k ≡ v → with_attr x v (run_attrs a f i r) ≡ run_attrs b g i r
with-attr-there a b f g x v i zero k l l' p e n s h = absurd (omega arith)
with-attr-there a b f g x v i (suc r) k l l' p e n s h = elim (cases_eq i k) [
  | inl q ↦ with-attr-by x v (a i) (f i) (run_attrs a f (i + 1) r) Equal (ap (λ j. order_row x (a j)) q ∙ e)
      ∙ put_same x (b i) v (g i) (run_attrs a f (i + 1) r) (run_attrs b g (i + 1) r) (same_row x (a k) e ∙ ap a (sym q) ∙ sym (n i)) (sym (ap g q ∙ h)) (run-attrs-same a b f g (i + 1) r (λ j x y. sym (n j)) (λ j y z. sym (s j (omega arith))))
  | inr u ↦ with-attr-by x v (a i) (f i) (run_attrs a f (i + 1) r) Greater (p i (omega arith) (omega arith))
      ∙ put_same (a i) (b i) (f i) (g i) (with_attr x v (run_attrs a f (i + 1) r)) (run_attrs b g (i + 1) r) (sym (n i)) (sym (s i u)) (with-attr-there a b f g x v (i + 1) r k (omega arith) (omega arith) (λ j y z. p j (omega arith) z) e n s h)
]

run-attrs-shift : (a b : ℕ → List ℕ) (f g : ℕ → s.Value) (i r : ℕ) → ((j : ℕ) → i ≤ j → j < i + r → b (j + 1) ≡ a j) → ((j : ℕ) → i ≤ j → j < i + r → g (j + 1) ≡ f j) → run_attrs b g (i + 1) r ≡ run_attrs a f i r
run-attrs-shift a b f g i zero e h = refl
run-attrs-shift a b f g i (suc r) e h =
    put_same (b (i + 1)) (a i) (g (i + 1)) (f i) (run_attrs b g (i + 1 + 1) r) (run_attrs a f (i + 1) r) (e i (omega arith) (omega arith)) (h i (omega arith) (omega arith))
    (run-attrs-shift a b f g (i + 1) r (λ j y z. e j (omega arith) (omega arith)) (λ j y z. h j (omega arith) (omega arith)))

pub with-attr-new : (a b : ℕ → List ℕ) (f g : ℕ → s.Value) (x : List ℕ) (v : s.Value) (i r k : ℕ) → i ≤ k → k ≤ i + r → ((j : ℕ) → i ≤ j → j < k → order_row x (a j) ≡ Greater) → (k < i + r → order_row x (a k) ≡ Less) →
    ((j : ℕ) → j < k → b j ≡ a j) → b k ≡ x → ((j : ℕ) → k ≤ j → j < i + r → b (j + 1) ≡ a j) →
    ((j : ℕ) → j < k → g j ≡ f j) → g k ≡ v → ((j : ℕ) → k ≤ j → j < i + r → g (j + 1) ≡ f j) → with_attr x v (run_attrs a f i r) ≡ run_attrs b g i (suc r)
with-attr-new a b f g x v i zero k l l' p e b₁ b₂ b₃ g₁ g₂ g₃ = let q : i ≡ k = omega arith in put_same x (b i) v (g i) empty empty (sym (ap b q ∙ b₂)) (sym (ap g q ∙ g₂)) refl
with-attr-new a b f g x v i (suc r) k l l' p e b₁ b₂ b₃ g₁ g₂ g₃ = elim (cases_eq i k) [
  | inl q ↦ with-attr-by x v (a i) (f i) (run_attrs a f (i + 1) r) Less (ap (λ j. order_row x (a j)) q ∙ e (omega arith))
      ∙ put_same x (b i) v (g i) (run_attrs a f i (suc r)) (run_attrs b g (i + 1) (suc r)) (sym (ap b q ∙ b₂)) (sym (ap g q ∙ g₂)) (sym (run-attrs-shift a b f g i (suc r) (λ j y z. b₃ j (omega arith) z) (λ j y z. g₃ j (omega arith) z)))
  | inr u ↦ with-attr-by x v (a i) (f i) (run_attrs a f (i + 1) r) Greater (p i (omega arith) (omega arith))
      ∙ put_same (a i) (b i) (f i) (g i) (with_attr x v (run_attrs a f (i + 1) r)) (run_attrs b g (i + 1) (suc r)) (sym (b₁ i (omega arith))) (sym (g₁ i (omega arith)))
      (with-attr-new a b f g x v (i + 1) r k (omega arith) (omega arith) (λ j y z. p j (omega arith) z) (λ y. e (omega arith)) b₁ b₂ (λ j y z. b₃ j y (omega arith)) g₁ g₂ (λ j y z. g₃ j y (omega arith)))
]

module _ (h : ℕ) (store w w₁ : List ℕ) (a t k n x y : ℕ) (v : Value) (M : MadeRecord h store w a t) (N : TextIn (up_to store w a) n) (G : Good h (up_to store w a) v) (is : value_of 0 x y ≡ v)
    (S : Spotted (λ j. order_row (text_at (up_to store w a) n) (text_at (up_to store w a) (named w a j))) (get_or w (a + 1) 0) (Err k)) (O : Opened w w₁ (a + 2 + 3 * k) t (n ∷ x ∷ y ∷ [])) (long : length w₁ ≡ length w) (room : t + 3 ≤ length w) where
  w₂ : List ℕ
  w₂ = set w₁ (a + 1) (get_or w₁ (a + 1) 0 + 1)

  len : length w₂ ≡ length w
  unfolding w₂
  len = simp length-set long

  below : take a w₂ ≡ take a w
  unfolding w₂
  below = take-set-le a w₁ (a + 1) (get_or w₁ (a + 1) 0 + 1) (omega arith) ∙ take-before w w₁ (a + 2 + 3 * k) a O.before (omega arith)

  other : (i : ℕ) → i ≢ a + 1 → get_or w₂ i 0 ≡ get_or w₁ i 0
  unfolding w₂
  other i u = get_or-set_other w₁ (a + 1) i (get_or w₁ (a + 1) 0 + 1) 0 u

  counted : get_or w₂ (a + 1) 0 ≡ get_or w (a + 1) 0 + 1
  unfolding w₂
  counted = get_or-set_same w₁ (a + 1) (get_or w₁ (a + 1) 0 + 1) 0 (omega (arith, M.ends, M.fits)) ∙ ap (λ n. n + 1) (at_before w w₁ (a + 2 + 3 * k) (a + 1) O.before (omega arith))

  low : (i : ℕ) → i ≢ a + 1 → i < a + 2 + 3 * k → get_or w₂ i 0 ≡ get_or w i 0
  low i u l = other i u ∙ at_before w w₁ (a + 2 + 3 * k) i O.before l

  high : (i : ℕ) (i' : ℕ) → a + 2 + 3 * k ≤ i → i < t → i' ≡ i + 3 → get_or w₂ i' 0 ≡ get_or w i 0
  high i i' l l' e = other i' (omega arith) ∙ ap (λ p. get_or w₁ p 0) e ∙ O.behind i l l'

  named-low : (j : ℕ) → j < k → named w₂ a j ≡ named w a j
  named-low j l = low (a + 2 + 3 * j) (omega arith) (omega arith)

  first : get_or w₁ (a + 2 + 3 * k) 0 ≡ n
  first = let e : a + 2 + 3 * k ≡ a + 2 + 3 * k + 0 = omega arith in ap (λ i. get_or w₁ i 0) e ∙ O.here 0 (omega arith)

  second : get_or w₁ (a + 2 + 3 * k + 1) 0 ≡ x
  second = O.here 1 (omega arith)

  third : get_or w₁ (a + 2 + 3 * k + 2) 0 ≡ y
  third = O.here 2 (omega arith)

  named_here : named w₂ a k ≡ n
  named_here = other (a + 2 + 3 * k) (omega arith) ∙ first

  named-high : (j : ℕ) → k ≤ j → j < get_or w (a + 1) 0 → named w₂ a (j + 1) ≡ named w a j
  named-high j l l' = high (a + 2 + 3 * j) (a + 2 + 3 * (j + 1)) (omega arith) (omega (arith, M.ends)) (omega arith)

  kept_low : (j : ℕ) → j < k → kept_attr w₂ a j ≡ kept_attr w a j
  kept_low j l = ap₂ (value_of 0) (low (a + 2 + 3 * j + 1) (omega arith) (omega arith)) (low (a + 2 + 3 * j + 2) (omega arith) (omega arith))

  kept_here : kept_attr w₂ a k ≡ v
  kept_here = ap₂ (value_of 0) (other (a + 2 + 3 * k + 1) (omega arith) ∙ second) (other (a + 2 + 3 * k + 2) (omega arith) ∙ third) ∙ is

  kept_high : (j : ℕ) → k ≤ j → j < get_or w (a + 1) 0 → kept_attr w₂ a (j + 1) ≡ kept_attr w a j
  kept_high j l l' = ap₂ (value_of 0) (high (a + 2 + 3 * j + 1) (a + 2 + 3 * (j + 1) + 1) (omega arith) (omega (arith, M.ends)) (omega arith)) (high (a + 2 + 3 * j + 2) (a + 2 + 3 * (j + 1) + 2) (omega arith) (omega (arith, M.ends)) (omega arith))

  mems : up_to store w₂ a ≡ up_to store w a
  mems = ap (λ z. store ++ z) below

  pub attribute-new : InsertedAttr h store w (set w₁ (a + 1) (get_or w₁ (a + 1) 0 + 1)) a t (t + 3) n v
  unfolding w₂
  attribute-new = record {
    rises = omega arith;
    few = omega arith;
    keeps = below;
    beyond = λ i l. other i (omega (arith, M.ends)) ∙ O.beyond i l;
    made = record {
      flag = low a (omega arith) (omega arith) ∙ M.flag;
      ends = omega (arith, counted, M.ends);
      fits = omega (arith, len);
      names = λ j l. subst (λ m. TextIn m (named w₂ a j)) (sym mems) (for-each (TextIn (up_to store w a)) (named w a) (named w₂ a) n (get_or w (a + 1) 0) k S.0 M.names N named-low named_here named-high j (omega (arith, counted)));
      rising = λ i j l l'. ap₂ order_row (ap (λ m. text_at m (named w₂ a i)) mems) (ap (λ m. text_at m (named w₂ a j)) mems) ∙
          rising-new order_row texts (λ j. text_at (up_to store w a) (named w a j)) (get_or w (a + 1) 0) M.rising (text_at (up_to store w a) n) (λ j. text_at (up_to store w a) (named w₂ a j)) k S
          (λ j l. ap (text_at (up_to store w a)) (named-low j l)) (ap (text_at (up_to store w a)) named_here) (λ j l l'. ap (text_at (up_to store w a)) (named-high j l l')) i j l (omega (arith, counted));
      each = λ j l. subst (λ m. Good h m (kept_attr w₂ a j)) (sym mems) (for-each (Good h (up_to store w a)) (kept_attr w a) (kept_attr w₂ a) v (get_or w (a + 1) 0) k S.0 M.each G kept_low kept_here kept_high j (omega (arith, counted)));
    };
    holds =
        ap₂ (λ m c. run_attrs (λ j. text_at m (named w₂ a j)) (λ j. decode h m (kept_attr w₂ a j)) 0 c) mems (counted ∙ plus (get_or w (a + 1) 0))
        ∙ sym (with-attr-new (λ j. text_at (up_to store w a) (named w a j)) (λ j. text_at (up_to store w a) (named w₂ a j)) (λ j. decode h (up_to store w a) (kept_attr w a j)) (λ j. decode h (up_to store w a) (kept_attr w₂ a j))
        (text_at (up_to store w a) n) (decode h (up_to store w a) v) 0 (get_or w (a + 1) 0) k (omega arith) (omega (arith, S.0)) (λ j y l. S.2 j l) (λ l. S.1 (omega arith))
        (λ j l. ap (text_at (up_to store w a)) (named-low j l)) (ap (text_at (up_to store w a)) named_here) (λ j l l'. ap (text_at (up_to store w a)) (named-high j l (omega arith)))
        (λ j l. ap (decode h (up_to store w a)) (kept_low j l)) (ap (decode h (up_to store w a)) kept_here) (λ j l l'. ap (decode h (up_to store w a)) (kept_high j l (omega arith))));
  }
    where
      plus : (c : ℕ) → c + 1 ≡ suc c
      plus c = omega arith

module _ (h : ℕ) (store w : List ℕ) (a t k n x y : ℕ) (v : Value) (M : MadeRecord h store w a t) (G : Good h (up_to store w a) v) (is : value_of 0 x y ≡ v)
    (S : Spotted (λ j. order_row (text_at (up_to store w a) n) (text_at (up_to store w a) (named w a j))) (get_or w (a + 1) 0) (Ok k)) (w₃ : List ℕ) (W : Written w w₃ (a + 2 + 3 * k + 1) (x ∷ y ∷ [])) (long : length w₃ ≡ length w) where
  apart : (i : ℕ) → i ≢ a + 2 + 3 * k + 1 → i ≢ a + 2 + 3 * k + 2 → get_or w₃ i 0 ≡ get_or w i 0
  apart i u u' = elim (cases_lt i (a + 2 + 3 * k + 1)) [
    | inl l ↦ at_before w w₃ (a + 2 + 3 * k + 1) i W.before l
    | inr l ↦ W.beyond i (omega arith)
  ]

  here : kept_attr w₃ a k ≡ v
  here =
      let e : a + 2 + 3 * k + 1 ≡ a + 2 + 3 * k + 1 + 0 = omega arith in
      let e' : a + 2 + 3 * k + 2 ≡ a + 2 + 3 * k + 1 + 1 = omega arith in
      ap₂ (value_of 0) (ap (λ i. get_or w₃ i 0) e ∙ W.here 0 (omega arith)) (ap (λ i. get_or w₃ i 0) e' ∙ W.here 1 (omega arith)) ∙ is

  below₃ : take a w₃ ≡ take a w
  below₃ = take-before w w₃ (a + 2 + 3 * k + 1) a W.before (omega arith)

  mems₃ : up_to store w₃ a ≡ up_to store w a
  mems₃ = ap (λ z. store ++ z) below₃

  names₃ : (j : ℕ) → named w₃ a j ≡ named w a j
  names₃ j = apart (a + 2 + 3 * j) (omega arith) (omega arith)

  elsewhere : (j : ℕ) → j ≢ k → kept_attr w₃ a j ≡ kept_attr w a j
  elsewhere j u = ap₂ (value_of 0) (apart (a + 2 + 3 * j + 1) (omega arith) (omega arith)) (apart (a + 2 + 3 * j + 2) (omega arith) (omega arith))

  each₃ : (j : ℕ) → j < get_or w (a + 1) 0 → Good h (up_to store w a) (kept_attr w₃ a j)
  each₃ j l = elim (cases_eq j k) [
    | inl q ↦ subst (Good h (up_to store w a)) (sym (ap (kept_attr w₃ a) q ∙ here)) G
    | inr u ↦ subst (Good h (up_to store w a)) (sym (elsewhere j u)) (M.each j l)
  ]

  counted₃ : get_or w₃ (a + 1) 0 ≡ get_or w (a + 1) 0
  counted₃ = apart (a + 1) (omega arith) (omega arith)

  pub attribute-there : InsertedAttr h store w w₃ a t t n v
  attribute-there = record {
    rises = omega arith;
    few = omega arith;
    keeps = below₃;
    beyond = λ i l. apart i (omega (arith, M.ends, S.0)) (omega (arith, M.ends, S.0));
    made = record {
      flag = apart a (omega arith) (omega arith) ∙ M.flag;
      ends = omega (arith, counted₃, M.ends);
      fits = omega (arith, long, M.fits);
      names = λ j l. subst (λ m. TextIn m (named w₃ a j)) (sym mems₃) (subst (TextIn (up_to store w a)) (sym (names₃ j)) (M.names j (omega (arith, counted₃))));
      rising = λ i j l l'.
          ap₂ order_row (ap₂ text_at mems₃ (names₃ i)) (ap₂ text_at mems₃ (names₃ j)) ∙ M.rising i j l (omega (arith, counted₃));
      each = λ j l. subst (λ m. Good h m (kept_attr w₃ a j)) (sym mems₃) (each₃ j (omega (arith, counted₃)));
    };
    holds =
        ap₂ (λ m c. run_attrs (λ j. text_at m (named w₃ a j)) (λ j. decode h m (kept_attr w₃ a j)) 0 c) mems₃ counted₃
        ∙ sym (with-attr-there (λ j. text_at (up_to store w a) (named w a j)) (λ j. text_at (up_to store w a) (named w₃ a j)) (λ j. decode h (up_to store w a) (kept_attr w a j)) (λ j. decode h (up_to store w a) (kept_attr w₃ a j))
        (text_at (up_to store w a) n) (decode h (up_to store w a) v) 0 (get_or w (a + 1) 0) k (omega arith) (omega (arith, S.0)) (λ j y l. S.2 j l) S.1
        (λ j. ap (text_at (up_to store w a)) (names₃ j)) (λ j u. ap (decode h (up_to store w a)) (elsewhere j u)) (ap (decode h (up_to store w a)) here));
  }
