-- Things in rising order: the search by halves, what it finds, and that one more in its place leaves them rising. For values, and for texts by their bytes.
use Rattle.std.specs.Ordering.{ordering_reverse, is_eq, is_lt}
use Rattle.std.proofs.lemmas.Cmp.{nat_list_cmp_total}
use Rattle.std.specs.declared.cmp.Ordering.TheVariants.{Less, Equal, Greater}
use Rattle.std.specs.declared.cmp.Ordering.{Ordering}
use Rattle.std.proofs.Common.{IfOk, IfErr, Result, Ok, Err, ◌≡◌, ℕ, ◌+◌, ◌-◌, ◌<◌, ◌≤◌, true, false, sym, refl, ap, ◌∙◌, ap₂, inl, inr, arith}
use Rattle.std.proofs.lemmas.Bool.{cases_eq, cases_lt, cases_order}
use Rattle.spec.specs.Basics.{Text}
use Rattle.spec.specs.Values.{code}
use Rattle.values.specs.Order.{order_row, order_value}
use Rattle.values.specs.Making.{Spotted, Seeking}
use Rattle.values.proofs.Orders.{same_row, by_row, order_same}

pub flip-row : (xs ys : Text) → order_row ys xs ≡ ordering_reverse (order_row xs ys)
flip-row xs ys = nat_list_cmp_total.antisymm ys xs

-- ---- a total order
pub record Total {A : Type 0} (cmp : A → A → Ordering) : Type 0 where
  pub trans : (a b c : A) → cmp a b ≡ Less → cmp b c ≡ Less → cmp a c ≡ Less
  pub turn : (a b : A) → cmp b a ≡ ordering_reverse (cmp a b)
  pub told : (a b : A) → cmp a b ≡ Equal → a ≡ b

pub its_less : (o : Ordering) → is_lt o ≡ true → o ≡ Less
its_less Less h = refl
its_less Equal h = cc
its_less Greater h = cc

pub texts : Total order_row
texts = record { trans = nat_list_cmp_total.trans; turn = flip-row; told = same_row }

pub values : Total order_value
values = record {
  trans = λ u v w h k. sym (by_row u w) ∙ nat_list_cmp_total.trans (code u) (code v) (code w) (by_row u v ∙ h) (by_row v w ∙ k);
  turn = λ v w. sym (by_row w v) ∙ flip-row (code v) (code w) ∙ ap ordering_reverse (by_row v w);
  told = order_same;
}

module _ {A : Type 0} (cmp : A → A → Ordering) (T : Total cmp) where
  pub more : (v w : A) → cmp w v ≡ Less → cmp v w ≡ Greater
  more v w h = T.turn w v ∙ ap ordering_reverse h

  pub fewer : (v w : A) → cmp w v ≡ Greater → cmp v w ≡ Less
  fewer v w h = T.turn w v ∙ ap ordering_reverse h

-- ---- n things that rise, and one that is looked for among them
module _ {A : Type 0} (cmp : A → A → Ordering) (T : Total cmp) (f : ℕ → A) (n : ℕ) (R : (i j : ℕ) → i < j → j < n → cmp (f i) (f j) ≡ Less) (v : A) where
  pub seek-less : (lo hi k : ℕ) → Seeking (λ j. cmp v (f j)) n lo hi → lo ≤ k → k < hi → cmp v (f k) ≡ Less → Seeking (λ j. cmp v (f j)) n lo k
  seek-less lo hi k S l l' e = record {
    within = l;
    ends = omega (arith, S.ends);
    below = S.below;
    above = λ j b b'. elim (cases_eq k j) [ inl q ↦ ap (λ i. cmp v (f i)) (sym q) ∙ e | inr u ↦ T.trans v (f k) (f j) e (R k j (omega arith) b') ];
  }

  passed : (k : ℕ) → k < n → cmp v (f k) ≡ Greater → (j : ℕ) → j < k → cmp v (f j) ≡ Greater
  passed k l e j b = more cmp T v (f j) (T.trans (f j) (f k) v (R j k b l) (fewer cmp T (f k) v e))

  pub seek-greater : (lo hi k : ℕ) → Seeking (λ j. cmp v (f j)) n lo hi → lo ≤ k → k < hi → cmp v (f k) ≡ Greater → Seeking (λ j. cmp v (f j)) n (k + 1) hi
  seek-greater lo hi k S l l' e = record {
    within = omega arith;
    ends = S.ends;
    above = S.above;
    below = λ j b. elim (cases_eq j k) [ inl q ↦ ap (λ i. cmp v (f i)) q ∙ e | inr u ↦ passed k (omega (arith, S.ends)) e j (omega arith) ];
  }

  pub seek-there : (lo hi k : ℕ) → Seeking (λ j. cmp v (f j)) n lo hi → lo ≤ k → k < hi → cmp v (f k) ≡ Equal → Spotted (λ j. cmp v (f j)) n (Ok k)
  seek-there lo hi k S l l' e =
      let l'' : k < n = omega (arith, S.ends) in
      (l'', e, λ j b. more cmp T v (f j) (ap (cmp (f j)) (T.told v (f k) e) ∙ R j k b l''))

  -- what a search gives, which looked at few of them: P, Q and S are what it was told there
  pub spotted : {P Q S : ℕ → Type 0} (r : Result ℕ ℕ) → IfOk r (λ k. (k < n) × P k) → IfErr r (λ k. (k ≤ n) × (k < n → Q k) × (0 < k → S k)) →
      ((k : ℕ) → k < n → P k → Equal ≡ cmp v (f k)) → ((k : ℕ) → k < n → Q k → Less ≡ cmp v (f k)) → ((k : ℕ) → 0 < k → k ≤ n → S k → Greater ≡ cmp v (f (k - 1))) → Spotted (λ j. cmp v (f j)) n r
  spotted (Ok k) h h' at below above = let e = at k h.0 h.1 in (h.0, sym e, λ j b. more cmp T v (f j) (ap (cmp (f j)) (T.told v (f k) (sym e)) ∙ R j k b h.0))
  spotted (Err k) h h' at below above = (
    h'.0,
    (λ l. sym (below k l (h'.1 l))),
    λ j b.
        let some : 0 < k = omega arith in
        let e = sym (above k some h'.0 (h'.2 some)) in
        elim (cases_eq j (k - 1)) [ inl q ↦ ap (λ i. cmp v (f i)) q ∙ e | inr u ↦ passed (k - 1) (omega (arith, h'.0)) e j (omega arith) ],
  )

  -- what belongs at a place is like none of them
  pub new_apart : (k : ℕ) → Spotted (λ j. cmp v (f j)) n (Err k) → (j : ℕ) → j < n → is_eq (cmp v (f j)) ≡ false
  new_apart k S j b = elim (cases_lt j k) [
    | inl l ↦ ap is_eq (S.2 j l)
    | inr l ↦ elim (cases_eq k j) [
      | inl q ↦ ap (λ i. is_eq (cmp v (f i))) (sym q) ∙ ap is_eq (S.1 (omega arith))
      | inr u ↦ ap is_eq (T.trans v (f k) (f j) (S.1 (omega arith)) (R k j (omega arith) b))
    ]
  ]

  -- and in its place it leaves them rising
  pub rising-new : (g : ℕ → A) (k : ℕ) → Spotted (λ j. cmp v (f j)) n (Err k) → ((j : ℕ) → j < k → g j ≡ f j) → g k ≡ v → ((j : ℕ) → k ≤ j → j < n → g (j + 1) ≡ f j) →
      (i j : ℕ) → i < j → j < n + 1 → cmp (g i) (g j) ≡ Less
  rising-new g k S b h s i j l l' = elim (cases_order j k) [
    | inl q ↦ ap₂ cmp (b i (omega arith)) (ap g q ∙ h) ∙ fewer cmp T (f i) v (S.2 i (omega arith))
    | inr (inl c) ↦ ap₂ cmp (b i (omega arith)) (b j c) ∙ R i j l (omega (arith, S.0))
    | inr (inr c) ↦
        let q : j ≡ j - 1 + 1 = omega arith in
        let gj : g j ≡ f (j - 1) = ap g q ∙ s (j - 1) (omega arith) (omega arith) in
        elim (cases_order i k) [
          | inl p ↦ ap₂ cmp (ap g p ∙ h) gj ∙ elim (cases_eq k (j - 1)) [
            | inl e ↦ ap (λ z. cmp v (f z)) (sym e) ∙ S.1 (omega arith)
            | inr u ↦ T.trans v (f k) (f (j - 1)) (S.1 (omega arith)) (R k (j - 1) (omega arith) (omega arith))
          ]
          | inr (inl d) ↦ ap₂ cmp (b i d) gj ∙ R i (j - 1) (omega arith) (omega arith)
          | inr (inr d) ↦ let p : i ≡ i - 1 + 1 = omega arith in ap₂ cmp (ap g p ∙ s (i - 1) (omega arith) (omega arith)) gj ∙ R (i - 1) (j - 1) (omega arith) (omega arith)
        ]
  ]

pub spotted-same : (o o' : ℕ → Ordering) (n : ℕ) (s : Result ℕ ℕ) → ((j : ℕ) → j < n → o j ≡ o' j) → Spotted o n s → Spotted o' n s
spotted-same o o' n (Ok k) e S = (S.0, sym (e k S.0) ∙ S.1, λ j b. sym (e j (omega (arith, S.0))) ∙ S.2 j b)
spotted-same o o' n (Err k) e S = (S.0, (λ l. sym (e k l) ∙ S.1 l), λ j b. sym (e j (omega (arith, S.0))) ∙ S.2 j b)
