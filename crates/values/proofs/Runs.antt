-- Two rows of values, compared one by one; and where what a node holds lies.
use Rattle.std.specs.Ordering.{ordering_then, nat_cmp, is_ne}
use Rattle.std.specs.declared.cmp.Ordering.TheVariants.{Less, Equal, Greater}
use Rattle.std.specs.declared.cmp.Ordering.{Ordering}
use Rattle.std.proofs.Common.{refl, min, true, false, inl, inr, ◌≡◌, ℕ, zero, suc, ◌+◌, ◌-◌, ◌^◌, ◌<◌, ◌≤◌, List, length, sym, ap, ◌∙◌, ap₂, arith}
use Rattle.std.proofs.lemmas.Bool.{cases_order}
use Rattle.spec.specs.Values as s
use Rattle.spec.specs.Values.{nil, cons, empty, attr}
use Rattle.values.specs.Order.{order_value, order_text, order_values, order_attrs}
use Rattle.values.specs.Held.{Good, decode, place, run, run_attrs, element_at, attr_at, name_at, text_at}
use Rattle.std.specs.Cmp.{nat_cmp_is}
use Rattle.values.proofs.Orders.{next-next}
use Rattle.values.specs.declared.nodes.Value.{Value}
use Rattle.values.specs.declared.nodes.Value.TheVariants.{Bool as B, Int, String, Entity, Set, Record}

pub lies : (h : ℕ) (m : List ℕ) (v : Value) → Good h m v → place v ≤ length m
lies zero m v g = absurd g
lies (suc h) m (B b) g = omega arith
lies (suc h) m (Int z) g = omega arith
lies (suc h) m (String p) g = omega arith
lies (suc h) m (Entity p) g = omega (arith, g.0)
lies (suc h) m (Set p) g = omega (arith, g.fits)
lies (suc h) m (Record p) g = omega (arith, g.fits)

pub lies_in : (h : ℕ) (m : List ℕ) (v : Value) → length m < 2 ^ 64 → Good h m v → place v < 2 ^ 64
lies_in h m v l g = omega (arith, lies h m v g)

pub run_more : (f : ℕ → s.Value) (i n : ℕ) → i < n → run f i (n - i) ≡ cons (f i) (run f (i + 1) (n - (i + 1)))
run_more f i n l = let e : n - i ≡ suc (n - (i + 1)) = omega arith in ap (run f i) e

pub run_none : (f : ℕ → s.Value) (i n : ℕ) → n ≤ i → run f i (n - i) ≡ nil
run_none f i n l = let e : n - i ≡ 0 = omega arith in ap (run f i) e

pub run-all : (f : ℕ → s.Value) (n : ℕ) → run f 0 (n - 0) ≡ run f 0 n
run-all f n = let e : n - 0 ≡ n = omega arith in ap (run f 0) e

-- two rows of entries, told by how their entries stand to each other, from the i-th on: the first that differ decide, and else how many there are
abbrev pub along : (ℕ → Ordering) → ℕ → ℕ → ℕ → Ordering
along o i zero zero = Equal
along o i zero (suc k) = Less
along o i (suc n) zero = Greater
along o i (suc n) (suc k) = ordering_then (o i) (along o (i + 1) n k)

pub values-along : (f g : ℕ → s.Value) (i n k : ℕ) → order_values (run f i n) (run g i k) ≡ along (λ j. order_value (f j) (g j)) i n k
values-along f g i zero zero = refl
values-along f g i zero (suc k) = refl
values-along f g i (suc n) zero = refl
values-along f g i (suc n) (suc k) = ap (ordering_then (order_value (f i) (g i))) (values-along f g (i + 1) n k)

pub attrs-along : (a b : ℕ → List ℕ) (f g : ℕ → s.Value) (i n k : ℕ) → order_attrs (run_attrs a f i n) (run_attrs b g i k) ≡ along (λ j. ordering_then (order_text (a j) (b j)) (order_value (f j) (g j))) i n k
attrs-along a b f g i zero zero = refl
attrs-along a b f g i zero (suc k) = refl
attrs-along a b f g i (suc n) zero = refl
attrs-along a b f g i (suc n) (suc k) =
    ap (λ x. ordering_then (order_text (a i) (b i)) (ordering_then (order_value (f i) (g i)) x)) (attrs-along a b f g (i + 1) n k)
    ∙ sym (next-next (order_text (a i) (b i)) (order_value (f i) (g i)) (along (λ j. ordering_then (order_text (a j) (b j)) (order_value (f j) (g j))) (i + 1) n k))

module _ (o : ℕ → Ordering) (n k : ℕ) where
  -- what is left to look at, from the i-th on
  abbrev pub ahead : ℕ → Ordering
  ahead i = along o i (n - i) (k - i)

  pub ahead-all : ahead 0 ≡ along o 0 n k
  ahead-all = let e : n - 0 ≡ n = omega arith in let e' : k - 0 ≡ k = omega arith in ap₂ (along o 0) e e'

  ahead-next : (i : ℕ) → i < min n k → ahead i ≡ ordering_then (o i) (ahead (i + 1))
  ahead-next i l =
      let e : n - i ≡ suc (n - (i + 1)) = omega arith in
      let e' : k - i ≡ suc (k - (i + 1)) = omega arith in
      ap₂ (along o i) e e'

  pub told : (i : ℕ) (r : Ordering) → i < min n k → r ≡ o i → is_ne r ≡ true → r ≡ ahead i
  told i r l e h = elim r as (λ r. r ≡ o i → is_ne r ≡ true → r ≡ ahead i) [ Less ↦ λ e h. here Less e (λ x. refl) | Equal ↦ λ e h. cc | Greater ↦ λ e h. here Greater e (λ x. refl) ] e h
    where
      here : (r : Ordering) → r ≡ o i → ((x : Ordering) → ordering_then r x ≡ r) → r ≡ ahead i
      here r e f = sym (f (ahead (i + 1))) ∙ ap (λ x. ordering_then x (ahead (i + 1))) e ∙ sym (ahead-next i l)

  pub on : (i : ℕ) (r : Ordering) → i < min n k → r ≡ o i → is_ne r ≡ false → ahead (i + 1) ≡ ahead i
  on i r l e h = elim r as (λ r. r ≡ o i → is_ne r ≡ false → ahead (i + 1) ≡ ahead i) [ Less ↦ λ e h. cc | Equal ↦ λ e h. ap (λ x. ordering_then x (ahead (i + 1))) e ∙ sym (ahead-next i l) | Greater ↦ λ e h. cc ] e h

  pub ahead-none : (i : ℕ) → i ≡ min n k → nat_cmp n k ≡ ahead i
  ahead-none i e = elim (cases_order n k) [
    | inl same ↦ let a : n - i ≡ 0 = omega arith in let b : k - i ≡ 0 = omega arith in sym (nat_cmp_is n k Equal same) ∙ sym (ap₂ (along o i) a b)
    | inr (inl l) ↦ let a : n - i ≡ 0 = omega arith in let b : k - i ≡ suc (k - i - 1) = omega arith in sym (nat_cmp_is n k Less l) ∙ sym (ap₂ (along o i) a b)
    | inr (inr l) ↦ let a : n - i ≡ suc (n - i - 1) = omega arith in let b : k - i ≡ 0 = omega arith in sym (nat_cmp_is n k Greater l) ∙ sym (ap₂ (along o i) a b)
  ]

pub under : (h : ℕ) → (h ≡ 0 → ⊥) → h ≡ suc (h - 1)
under h n = omega arith

-- how the entries of two nodes of a memory stand to each other
module _ (h : ℕ) (m : List ℕ) (p q : ℕ) where
  abbrev pub elements-stand : ℕ → Ordering
  elements-stand i = order_value (decode h m (element_at m p i)) (decode h m (element_at m q i))

  abbrev pub attrs-stand : ℕ → Ordering
  attrs-stand i = ordering_then (order_text (text_at m (name_at m p i)) (text_at m (name_at m q i))) (order_value (decode h m (attr_at m p i)) (decode h m (attr_at m q i)))
