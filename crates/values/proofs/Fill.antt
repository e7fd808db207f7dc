-- A set of values that wait, and a record of attributes that do: filled from the last to the first.
use Rattle.std.proofs.Common.{◌≡◌, ℕ, suc, ◌+◌, ◌-◌, ◌*◌, ◌<◌, ◌≤◌, List, [], ◌∷◌, ◌++◌, length, get_or, take, sym, refl, ap, ◌∙◌, subst, ap₂, arith}
use Rattle.spec.specs.Basics.{Text, insert, insert_all, name}
use Rattle.spec.specs.Values as s
use Rattle.spec.specs.Values.{nil, empty, to_values, to_attrs, code}
use Rattle.laws.specs.Bridges.{with_value, with_attr}
use Rattle.laws.proofs.Older.{insert-value, insert-attr}
use Rattle.laws.proofs.Lists.{elements-values, fields-attrs}
use Rattle.values.specs.Held.{value_of, decode, text_at, TextIn, Good, Stands}
use Rattle.values.specs.Making.{Written, up_to, gathered, Made, Inserted, waiting, listed, waiting_values, values_of, gathered_attrs, MadeRecord, InsertedAttr, waiting_name, waiting_attr, waiting_attrs, attrs_of}
use Rattle.values.specs.declared.nodes.Value.{Value}
use Rattle.values.specs.declared.nodes.Value.TheVariants.{Set, Record}
use Rattle.values.proofs.Made.{set-made, record-made, begun, begun-record}

-- one more before those that are in already
listed-before : {A : Type 0} (f : ℕ → A) (n k : ℕ) → 0 < k → k ≤ n → listed f (k - 1) (n - (k - 1)) ≡ f (k - 1) ∷ listed f k (n - k)
listed-before f n k some l =
    let e : n - (k - 1) ≡ suc (n - k) = omega arith in
    let e' : k - 1 + 1 ≡ k = omega arith in
    ap (listed f (k - 1)) e ∙ ap (λ j. f (k - 1) ∷ listed f j (n - k)) e'

listed-all : {A : Type 0} (f : ℕ → A) (n k : ℕ) → k ≡ 0 → listed f k (n - k) ≡ listed f 0 n
listed-all f n k z = let e : n - k ≡ n = omega arith in ap₂ (listed f) z e

listed-none : {A : Type 0} (f : ℕ → A) (n : ℕ) → listed f n (n - n) ≡ []
listed-none f n = let e : n - n ≡ 0 = omega arith in ap (listed f n) e

-- ---- sets
one_value : (v : s.Value) (vs : List s.Value) → values_of (v ∷ vs) ≡ with_value v (values_of vs)
unfolding insert_all
one_value v vs = ap (λ x. to_values (insert code v x)) (sym (elements-values (insert_all code vs))) ∙ insert-value v (values_of vs)

no_value : values_of [] ≡ nil
unfolding insert_all
no_value = refl

-- of n values those from the k-th on are in
pub record Filling (h : ℕ) (store w₀ w : List ℕ) (a t from n k : ℕ) : Type 0 where
  pub few : t ≤ a + 2 + 2 * (n - k)
  pub keeps : take a w ≡ take a w₀
  pub made : Made h store w a t
  pub beyond : (j : ℕ) → from ≤ j → get_or w j 0 ≡ get_or w₀ j 0
  pub holds : gathered h store w a ≡ values_of (listed (λ j. decode h (up_to store w₀ a) (waiting w₀ from j)) k (n - k))

pub fill_start : (h : ℕ) (store w₀ w : List ℕ) (a from n : ℕ) → Written w₀ w a (0 ∷ 0 ∷ []) → a + 2 ≤ length w → a + 2 ≤ from → Filling h store w₀ w a (a + 2) from n n
fill_start h store w₀ w a from n W l l' =
    let B = begun h store w₀ w a W l in
    record {
      few = omega arith;
      keeps = W.before;
      made = B.0;
      beyond = λ j b. W.beyond j (omega arith);
      holds = B.1 ∙ sym (ap values_of (listed-none (λ j. decode h (up_to store w₀ a) (waiting w₀ from j)) n) ∙ no_value);
    }

module _ (h : ℕ) (store w₀ w : List ℕ) (a t from n k : ℕ) (some : 0 < k) (F : Filling h store w₀ w a t from n k) where
  mems : up_to store w a ≡ up_to store w₀ a
  mems = ap (λ x. store ++ x) F.keeps

  waits : waiting w from (k - 1) ≡ waiting w₀ from (k - 1)
  waits = ap₂ (value_of 0) (F.beyond (from + 2 * (k - 1)) (omega arith)) (F.beyond (from + 2 * (k - 1) + 1) (omega arith))

  pub fill-good : (v : Value) → v ≡ waiting w from (k - 1) → Good h (up_to store w₀ a) (waiting w₀ from (k - 1)) → Good h (up_to store w a) v
  fill-good v e g = subst (λ m. Good h m v) (sym mems) (subst (Good h (up_to store w₀ a)) (sym (e ∙ waits)) g)

  pub fill_step : (w' : List ℕ) (t' : ℕ) (v : Value) → k ≤ n → a + 2 + 2 * n ≤ from → v ≡ waiting w from (k - 1) → Inserted h store w w' a t t' v → Filling h store w₀ w' a t' from n (k - 1)
  fill_step w' t' v l room e I =
      let f : ℕ → s.Value = λ j. decode h (up_to store w₀ a) (waiting w₀ from j) in
      record {
        few = omega (arith, F.few, I.few);
        keeps = I.keeps ∙ F.keeps;
        made = I.made;
        beyond = λ j b. I.beyond j (omega (arith, F.few)) ∙ F.beyond j b;
        holds = I.holds ∙ ap₂ with_value (ap₂ (decode h) mems (e ∙ waits)) F.holds ∙ sym (ap values_of (listed-before f n k some l) ∙ one_value (f (k - 1)) (listed f k (n - k)));
      }

pub fill_end : (h : ℕ) (store w₀ w : List ℕ) (a t from n k : ℕ) → k ≡ 0 → Filling h store w₀ w a t from n k → gathered h store w a ≡ values_of (waiting_values h (up_to store w₀ a) w₀ from n)
fill_end h store w₀ w a t from n k e F = F.holds ∙ ap values_of (listed-all (λ j. decode h (up_to store w₀ a) (waiting w₀ from j)) n k e)

-- the set as a value
pub set-stands : (h : ℕ) (store w : List ℕ) (a t : ℕ) (vs : List s.Value) → Made h store w a t → gathered h store w a ≡ values_of vs → Stands (h + 1) (up_to store w t) (Set (length store + a)) (s.set (values_of vs))
set-stands h store w a t vs M e =
    let s₁ = set-made h store w a t M in
    let p : suc h ≡ h + 1 = omega arith in
    subst (λ n. Stands n (up_to store w t) (Set (length store + a)) (s.set (values_of vs))) p (record { good = s₁.good; is = s₁.is ∙ ap s.set e })

-- ---- records
one-attr : (f : Text × s.Value) (fs : List (Text × s.Value)) → attrs_of (f ∷ fs) ≡ with_attr f.0 f.1 (attrs_of fs)
unfolding insert_all
one-attr f fs = ap (λ x. to_attrs (insert name f x)) (sym (fields-attrs (insert_all name fs))) ∙ insert-attr f.0 f.1 (attrs_of fs)

no-attr : attrs_of [] ≡ empty
unfolding insert_all
no-attr = refl

-- a waiting attribute, as the definitions have it
abbrev waits-for : ℕ → List ℕ → List ℕ → ℕ → ℕ → Text × s.Value
waits-for h m w from k = (text_at m (waiting_name w from k), decode h m (waiting_attr w from k))

-- of n attributes those from the k-th on are in
pub record FillingAttrs (h : ℕ) (store w₀ w : List ℕ) (a t from n k : ℕ) : Type 0 where
  pub few : t ≤ a + 2 + 3 * (n - k)
  pub keeps : take a w ≡ take a w₀
  pub made : MadeRecord h store w a t
  pub beyond : (j : ℕ) → from ≤ j → get_or w j 0 ≡ get_or w₀ j 0
  pub holds : gathered_attrs h store w a ≡ attrs_of (listed (waits-for h (up_to store w₀ a) w₀ from) k (n - k))

pub fill-attrs-start : (h : ℕ) (store w₀ w : List ℕ) (a from n : ℕ) → Written w₀ w a (0 ∷ 0 ∷ []) → a + 2 ≤ length w → a + 2 ≤ from → FillingAttrs h store w₀ w a (a + 2) from n n
fill-attrs-start h store w₀ w a from n W l l' =
    let B = begun-record h store w₀ w a W l in
    record {
      few = omega arith;
      keeps = W.before;
      made = B.0;
      beyond = λ j b. W.beyond j (omega arith);
      holds = B.1 ∙ sym (ap attrs_of (listed-none (waits-for h (up_to store w₀ a) w₀ from) n) ∙ no-attr);
    }

module _ (h : ℕ) (store w₀ w : List ℕ) (a t from n k : ℕ) (some : 0 < k) (F : FillingAttrs h store w₀ w a t from n k) where
  mems-attr : up_to store w a ≡ up_to store w₀ a
  mems-attr = ap (λ x. store ++ x) F.keeps

  name-waits : waiting_name w from (k - 1) ≡ waiting_name w₀ from (k - 1)
  name-waits = F.beyond (from + 3 * (k - 1)) (omega arith)

  attr-waits : waiting_attr w from (k - 1) ≡ waiting_attr w₀ from (k - 1)
  attr-waits = ap₂ (value_of 0) (F.beyond (from + 3 * (k - 1) + 1) (omega arith)) (F.beyond (from + 3 * (k - 1) + 2) (omega arith))

  pub fill-text : (c : ℕ) → c ≡ waiting_name w from (k - 1) → TextIn (up_to store w₀ a) (waiting_name w₀ from (k - 1)) → TextIn (up_to store w a) c
  fill-text c e g = subst (λ m. TextIn m c) (sym mems-attr) (subst (TextIn (up_to store w₀ a)) (sym (e ∙ name-waits)) g)

  pub fill-attr : (v : Value) → v ≡ waiting_attr w from (k - 1) → Good h (up_to store w₀ a) (waiting_attr w₀ from (k - 1)) → Good h (up_to store w a) v
  fill-attr v e g = subst (λ m. Good h m v) (sym mems-attr) (subst (Good h (up_to store w₀ a)) (sym (e ∙ attr-waits)) g)

  pub fill-attrs-step : (w' : List ℕ) (t' c : ℕ) (v : Value) → k ≤ n → a + 2 + 3 * n ≤ from → c ≡ waiting_name w from (k - 1) → v ≡ waiting_attr w from (k - 1) → InsertedAttr h store w w' a t t' c v → FillingAttrs h store w₀ w' a t' from n (k - 1)
  fill-attrs-step w' t' c v l room e₁ e₂ I =
      let f : ℕ → Text × s.Value = waits-for h (up_to store w₀ a) w₀ from in
      record {
        few = omega (arith, F.few, I.few);
        keeps = I.keeps ∙ F.keeps;
        made = I.made;
        beyond = λ j b. I.beyond j (omega (arith, F.few)) ∙ F.beyond j b;
        holds = I.holds ∙ three (ap₂ text_at mems-attr (e₁ ∙ name-waits)) (ap₂ (decode h) mems-attr (e₂ ∙ attr-waits)) F.holds
            ∙ sym (ap attrs_of (listed-before f n k some l) ∙ one-attr (f (k - 1)) (listed f k (n - k)));
      }
    where
      three : {x y : Text} {u v : s.Value} {r s : s.Attrs} → x ≡ y → u ≡ v → r ≡ s → with_attr x u r ≡ with_attr y v s
      three p q r = λ i. with_attr (p i) (q i) (r i)

pub fill-attrs-end : (h : ℕ) (store w₀ w : List ℕ) (a t from n k : ℕ) → k ≡ 0 → FillingAttrs h store w₀ w a t from n k → gathered_attrs h store w a ≡ attrs_of (waiting_attrs h (up_to store w₀ a) w₀ from n)
fill-attrs-end h store w₀ w a t from n k e F = F.holds ∙ ap attrs_of (listed-all (waits-for h (up_to store w₀ a) w₀ from) n k e)

-- the record as a value
pub record-stands : (h : ℕ) (store w : List ℕ) (a t : ℕ) (fs : List (Text × s.Value)) → MadeRecord h store w a t → gathered_attrs h store w a ≡ attrs_of fs → Stands (h + 1) (up_to store w t) (Record (length store + a)) (s.record_of (attrs_of fs))
record-stands h store w a t fs M e =
    let s₁ = record-made h store w a t M in
    let p : suc h ≡ h + 1 = omega arith in
    subst (λ n. Stands n (up_to store w t) (Record (length store + a)) (s.record_of (attrs_of fs))) p (record { good = s₁.good; is = s₁.is ∙ ap s.record_of e })
