-- Rows that are stored mean the values that they were made from, wherever they lie.
use Rattle.std.specs.declared.cmp.Ordering.TheVariants.{Less}
use Rattle.std.proofs.Common.{◌≡◌, ℕ, zero, suc, ◌+◌, ◌-◌, ◌*◌, ◌<◌, ◌≤◌, true, false, cond, ◌&&◌, eqb, List, ◌∷◌, ◌++◌, length, get_or, pos, negsuc, sym, refl, ap, ◌∙◌, subst, ap₂, inl, inr, arith}
use Rattle.std.proofs.lemmas.Bool.{and_parts, and_from, cases_eq, cases_lt, ne_eqb, lt-ltb, le-ltb}
use Rattle.std.proofs.lemmas.List.{length-append}
use Rattle.spec.specs.Basics.{Text, less, name, ascending}
use Rattle.spec.specs.Values as s
use Rattle.spec.specs.Values.{bool, int, string, entity_uid, prim, set, record_of, Values, nil, cons, Attrs, empty, attr, elements, fields, code, code_text}
use Rattle.spec.specs.Calls.{canonical, canonical_all, canonical_attrs, encodable_value, encodable_values, encodable_attrs, is_bytes, level}
use Rattle.laws.proofs.Texts.{false-true}
use Rattle.laws.proofs.Keyed.{Before, Sorted, ascending-sorted}
use Rattle.rows.specs.Rows.{value_tag, payload, count_values, count_fields, behind_of, entries, behind_all, attr_entries, behind_attrs}
use Rattle.values.specs.Order.{order_row, order_value}
use Rattle.values.specs.Held.{raised, lowered, text_at, TextIn, base, count, value_of, element_at, name_at, attr_at, run, run_attrs, decode, Good, Stands}
use Rattle.values.specs.Stored.{stored_at, within, within_all, within_attrs, RowsMean}
use Rattle.values.specs.declared.nodes.Value.TheVariants.{Set, Record}
use Rattle.values.proofs.Orders.{less-is, less-row}
use Rattle.values.proofs.Rising.{its_less}
use Rattle.values.proofs.Placed.{Lies, lies, lies-move, lies-append, lies-long, text-lies, uid-lies}

-- ---- payloads
pub raised-lowered : (n : ℕ) → raised (lowered n) ≡ n
raised-lowered n = elim (cases_lt n 9223372036854775808) [
  | inl l ↦ ap (λ b. raised (cond b (negsuc (9223372036854775807 - n)) (pos (n - 9223372036854775808)))) (lt-ltb n 9223372036854775808 l) ∙ low l
  | inr l ↦ ap (λ b. raised (cond b (negsuc (9223372036854775807 - n)) (pos (n - 9223372036854775808)))) (le-ltb n 9223372036854775808 l) ∙ high l
]
  where
    low : n < 9223372036854775808 → 9223372036854775807 - (9223372036854775807 - n) ≡ n
    low l = omega arith

    high : 9223372036854775808 ≤ n → n - 9223372036854775808 + 9223372036854775808 ≡ n
    high l = omega arith

payload-is : (v : s.Value) (b o : ℕ) → value_of b (value_tag v) (payload v o) ≡ stored_at v (b + o)
payload-is (prim (bool true)) b o = refl
payload-is (prim (bool false)) b o = refl
payload-is (prim (int n)) b o = refl
payload-is (prim (string t)) b o = refl
payload-is (prim (entity_uid u)) b o = refl
payload-is (set vs) b o = refl
payload-is (record_of r) b o = refl

entries-long : (o : ℕ) (vs : Values) → length (entries o vs) ≡ 2 * count_values vs
entries-long o nil = refl
entries-long o (cons v vs) = omega (arith, entries-long (o + length (behind_of v)) vs)

attr-entries-long : (o : ℕ) (r : Attrs) → length (attr_entries o r) ≡ 3 * count_fields r
attr-entries-long o empty = refl
attr-entries-long o (attr a v r) = omega (arith, attr-entries-long (o + length (code_text a) + length (behind_of v)) r)

-- ---- what is kept in order rises
module _ (f : ℕ → s.Value) where
  before_at : (t : Text) (i n : ℕ) → Before code t (elements (run f i n)) → (k : ℕ) → i ≤ k → k < i + n → less t (code (f k)) ≡ true
  before_at t i zero b k l l' = absurd (omega arith)
  before_at t i (suc n) b k l l' = elim (cases_eq i k) [ inl q ↦ ap (λ j. less t (code (f j))) (sym q) ∙ b.0 | inr u ↦ before_at t (i + 1) n b.1 k (omega arith) (omega arith) ]

  values-rise : (i n : ℕ) → Sorted code (elements (run f i n)) → (j k : ℕ) → i ≤ j → j < k → k < i + n → order_value (f j) (f k) ≡ Less
  values-rise i zero h j k l l' l'' = absurd (omega arith)
  values-rise i (suc n) h j k l l' l'' = elim (cases_eq i j) [
    | inl q ↦ its_less (order_value (f j) (f k)) (sym (less-is (f j) (f k)) ∙ ap (λ x. less (code (f x)) (code (f k))) (sym q) ∙ before_at (code (f i)) (i + 1) n h.0 k (omega arith) (omega arith))
    | inr u ↦ values-rise (i + 1) n h.1 j k (omega arith) l' (omega arith)
  ]

module _ (a : ℕ → Text) (f : ℕ → s.Value) where
  name-before-at : (t : Text) (i n : ℕ) → Before name t (fields (run_attrs a f i n)) → (k : ℕ) → i ≤ k → k < i + n → less t (a k) ≡ true
  name-before-at t i zero b k l l' = absurd (omega arith)
  name-before-at t i (suc n) b k l l' = elim (cases_eq i k) [ inl q ↦ ap (λ j. less t (a j)) (sym q) ∙ b.0 | inr u ↦ name-before-at t (i + 1) n b.1 k (omega arith) (omega arith) ]

  names-rise : (i n : ℕ) → Sorted name (fields (run_attrs a f i n)) → (j k : ℕ) → i ≤ j → j < k → k < i + n → order_row (a j) (a k) ≡ Less
  names-rise i zero h j k l l' l'' = absurd (omega arith)
  names-rise i (suc n) h j k l l' l'' = elim (cases_eq i j) [
    | inl q ↦ its_less (order_row (a j) (a k)) (sym (less-row (a j) (a k)) ∙ ap (λ x. less (a x) (a k)) (sym q) ∙ name-before-at (a i) (i + 1) n h.0 k (omega arith) (omega arith))
    | inr u ↦ names-rise (i + 1) n h.1 j k (omega arith) l' (omega arith)
  ]

-- ---- the elements of a node, and its attributes, from the i-th on
record Elements (d : ℕ) (m : List ℕ) (p i : ℕ) (vs : Values) : Type 0 where
  good : (k : ℕ) → i ≤ k → k < i + count_values vs → Good d m (element_at m p k)
  are : run (λ k. decode d m (element_at m p k)) i (count_values vs) ≡ vs

record Attributes (d : ℕ) (m : List ℕ) (p i : ℕ) (r : Attrs) : Type 0 where
  names : (k : ℕ) → i ≤ k → k < i + count_fields r → TextIn m (name_at m p k)
  good : (k : ℕ) → i ≤ k → k < i + count_fields r → Good d m (attr_at m p k)
  are : run_attrs (λ k. text_at m (name_at m p k)) (λ k. decode d m (attr_at m p k)) i (count_fields r) ≡ r

-- the third number of an entry stands two behind the first
third_at : (m : List ℕ) (p i x : ℕ) → get_or m (p + 2 + 3 * i + 1 + 1) 0 ≡ x → get_or m (p + 2 + 3 * i + 2) 0 ≡ x
third_at m p i x e = let q : p + 2 + 3 * i + 2 ≡ p + 2 + 3 * i + 1 + 1 = omega arith in ap (λ k. get_or m k 0) q ∙ e

put : {a b : Text} {v w : s.Value} {r t : Attrs} → a ≡ b → v ≡ w → r ≡ t → attr a v r ≡ attr b w t
put p q e = λ i. attr (p i) (q i) (e i)

pub one_more : (n : ℕ) → 1 + n ≡ suc n
one_more n = omega arith

stored-base : (m : List ℕ) (p n : ℕ) → get_or m p 0 ≡ 2 + n → base m p ≡ p
stored-base m p n e = ap (λ x. cond (eqb x 0) 0 p) e ∙ ap (λ b. cond b 0 p) (ne_eqb (2 + n) 0 (omega arith))

-- a node, if what it holds is right
set-node : (vs : Values) (d : ℕ) (m : List ℕ) (p : ℕ) → Lies m p (behind_of (set vs)) → ascending code (elements vs) ≡ true → Elements (suc d) m p 0 vs → Stands (suc (suc d)) m (Set p) (set vs)
set-node vs d m p l up X =
    let n : ℕ = count_values vs in
    let f : ℕ → s.Value = λ k. decode (suc d) m (element_at m p k) in
    let counted : count m p ≡ count_values vs = l.2.1 in
    let e = entries-long (2 + 2 * n) vs in
    let a = length-append (entries (2 + 2 * n) vs) (behind_all vs) in
    let long = lies-long m p (2 + (length (entries (2 + 2 * n) vs) + length (behind_all vs))) (n ∷ (entries (2 + 2 * n) vs ++ behind_all vs)) l in
    let sorted : Sorted code (elements (run f 0 n)) = subst (λ x. Sorted code (elements x)) (sym X.are) (ascending-sorted code (elements vs) up) in
    record {
      good = record {
        fits = omega (arith, counted, e, a, long);
        each = λ k b. X.good k (omega arith) (omega (arith, counted));
        rising = λ i j b b'. values-rise f 0 n sorted i j (omega arith) b (omega (arith, counted));
      };
      is = ap s.set (ap (run f 0) counted ∙ X.are);
    }

record-node : (r : Attrs) (d : ℕ) (m : List ℕ) (p : ℕ) → Lies m p (behind_of (record_of r)) → ascending name (fields r) ≡ true → Attributes (suc d) m p 0 r → Stands (suc (suc d)) m (Record p) (record_of r)
record-node r d m p l up X =
    let n : ℕ = count_fields r in
    let g : ℕ → Text = λ k. text_at m (name_at m p k) in
    let f : ℕ → s.Value = λ k. decode (suc d) m (attr_at m p k) in
    let counted : count m p ≡ count_fields r = l.2.1 in
    let e = attr-entries-long (2 + 3 * n) r in
    let a = length-append (attr_entries (2 + 3 * n) r) (behind_attrs r) in
    let long = lies-long m p (2 + (length (attr_entries (2 + 3 * n) r) + length (behind_attrs r))) (n ∷ (attr_entries (2 + 3 * n) r ++ behind_attrs r)) l in
    let sorted : Sorted name (fields (run_attrs g f 0 n)) = subst (λ x. Sorted name (fields x)) (sym X.are) (ascending-sorted name (fields r) up) in
    record {
      good = record {
        fits = omega (arith, counted, e, a, long);
        names = λ k b. X.names k (omega arith) (omega (arith, counted));
        rising = λ i j b b'. names-rise g f 0 n sorted i j (omega arith) b (omega (arith, counted));
        each = λ k b. X.good k (omega arith) (omega (arith, counted));
      };
      is = ap s.record_of (ap (run_attrs g f 0) counted ∙ X.are);
    }

mutual
  value-means : (v : s.Value) (d : ℕ) (m : List ℕ) (p : ℕ) → canonical v ≡ true → within d v ≡ true → Lies m p (behind_of v) → Stands (suc d) m (stored_at v p) v
  value-means (prim (bool b)) d m p c w l = record { good = tt; is = refl }
  value-means (prim (int n)) d m p c w l = record { good = tt; is = ap (λ k. prim (int k)) (raised-lowered n) }
  value-means (prim (string t)) d m p c w l = let h = text-lies m p t l in record { good = h.0; is = ap (λ x. prim (string x)) h.1 }
  value-means (prim (entity_uid u)) d m p c w l = let h = uid-lies m p u l in record { good = h.0; is = ap (λ x. prim (entity_uid x)) h.1 }
  value-means (set vs) zero m p c w l = false-true w
  value-means (set vs) (suc d) m p c w l =
      let n : ℕ = count_values vs in
      let e = entries-long (2 + 2 * n) vs in
      let b = stored-base m p (length (entries (2 + 2 * n) vs) + length (behind_all vs)) l.1 in
      let cs = and_parts (ascending code (elements vs)) (canonical_all vs) c in
      let q = lies-append m (p + 1 + 1) (entries (2 + 2 * n) vs) (behind_all vs) l.2.2 in
      let X = elements-mean vs d m p 0 (2 + 2 * n) b (lies-move m (p + 1 + 1) (p + 2 + 2 * 0) (entries (2 + 2 * n) vs) (omega arith) q.0)
      (lies-move m (p + 1 + 1 + length (entries (2 + 2 * n) vs)) (p + (2 + 2 * n)) (behind_all vs) (omega (arith, e)) q.1) cs.1 w in
      set-node vs d m p l cs.0 X
  value-means (record_of r) zero m p c w l = false-true w
  value-means (record_of r) (suc d) m p c w l =
      let n : ℕ = count_fields r in
      let e = attr-entries-long (2 + 3 * n) r in
      let b = stored-base m p (length (attr_entries (2 + 3 * n) r) + length (behind_attrs r)) l.1 in
      let cs = and_parts (ascending name (fields r)) (canonical_attrs r) c in
      let q = lies-append m (p + 1 + 1) (attr_entries (2 + 3 * n) r) (behind_attrs r) l.2.2 in
      let X = attrs-mean r d m p 0 (2 + 3 * n) b (lies-move m (p + 1 + 1) (p + 2 + 3 * 0) (attr_entries (2 + 3 * n) r) (omega arith) q.0)
      (lies-move m (p + 1 + 1 + length (attr_entries (2 + 3 * n) r)) (p + (2 + 3 * n)) (behind_attrs r) (omega (arith, e)) q.1) cs.1 w in
      record-node r d m p l cs.0 X

  elements-mean : (vs : Values) (d : ℕ) (m : List ℕ) (p i o : ℕ) → base m p ≡ p → Lies m (p + 2 + 2 * i) (entries o vs) → Lies m (p + o) (behind_all vs) → canonical_all vs ≡ true → within_all d vs ≡ true → Elements (suc d) m p i vs
  elements-mean nil d m p i o b E Y c w = record { good = λ k l l'. absurd (omega arith); are = refl }
  elements-mean (cons v vs) d m p i o b E Y c w =
      let cs = and_parts (canonical v) (canonical_all vs) c in
      let ws = and_parts (within d v) (within_all d vs) w in
      let ys = lies-append m (p + o) (behind_of v) (behind_all vs) Y in
      let t = E.1 in
      let x = E.2.1 in
      let at : element_at m p i ≡ value_of p (value_tag v) (payload v o) = λ j. value_of (b j) (t j) (x j) in
      let here : element_at m p i ≡ stored_at v (p + o) = at ∙ payload-is v p o in
      let V = value-means v d m (p + o) cs.0 ws.0 ys.0 in
      let R = elements-mean vs d m p (i + 1) (o + length (behind_of v)) b
      (lies-move m (p + 2 + 2 * i + 1 + 1) (p + 2 + 2 * (i + 1)) (entries (o + length (behind_of v)) vs) (omega arith) E.2.2)
      (lies-move m (p + o + length (behind_of v)) (p + (o + length (behind_of v))) (behind_all vs) (omega arith) ys.1) cs.1 ws.1 in
      record {
        good = λ k l l'. elim (cases_eq k i) [
          | inl q ↦ subst (Good (suc d) m) (sym (ap (element_at m p) q ∙ here)) V.good
          | inr u ↦ R.good k (omega arith) (omega arith)
        ];
        are = ap (run (λ k. decode (suc d) m (element_at m p k)) i) (one_more (count_values vs)) ∙ ap₂ cons (ap (decode (suc d) m) here ∙ V.is) R.are;
      }

  attrs-mean : (r : Attrs) (d : ℕ) (m : List ℕ) (p i o : ℕ) → base m p ≡ p → Lies m (p + 2 + 3 * i) (attr_entries o r) → Lies m (p + o) (behind_attrs r) → canonical_attrs r ≡ true → within_attrs d r ≡ true → Attributes (suc d) m p i r
  attrs-mean empty d m p i o b E Y c w = record { names = λ k l l'. absurd (omega arith); good = λ k l l'. absurd (omega arith); are = refl }
  attrs-mean (attr a v r) d m p i o b E Y c w =
      let cs = and_parts (canonical v) (canonical_attrs r) c in
      let ws = and_parts (within d v) (within_attrs d r) w in
      let ns = lies-append m (p + o) (code_text a) (behind_of v ++ behind_attrs r) Y in
      let ys = lies-append m (p + (o + length (code_text a))) (behind_of v) (behind_attrs r) (lies-move m (p + o + length (code_text a)) (p + (o + length (code_text a))) (behind_of v ++ behind_attrs r) (omega arith) ns.1) in
      let t = E.2.1 in
      let x = third_at m p i (payload v (o + length (code_text a))) E.2.2.1 in
      let at : attr_at m p i ≡ value_of p (value_tag v) (payload v (o + length (code_text a))) = λ j. value_of (b j) (t j) (x j) in
      let here : attr_at m p i ≡ stored_at v (p + (o + length (code_text a))) = at ∙ payload-is v p (o + length (code_text a)) in
      let called : name_at m p i ≡ p + o = ap₂ ◌+◌ b E.1 in
      let N = text-lies m (p + o) a ns.0 in
      let V = value-means v d m (p + (o + length (code_text a))) cs.0 ws.0 ys.0 in
      let R = attrs-mean r d m p (i + 1) (o + length (code_text a) + length (behind_of v)) b
      (lies-move m (p + 2 + 3 * i + 1 + 1 + 1) (p + 2 + 3 * (i + 1)) (attr_entries (o + length (code_text a) + length (behind_of v)) r) (omega arith) E.2.2.2)
      (lies-move m (p + (o + length (code_text a)) + length (behind_of v)) (p + (o + length (code_text a) + length (behind_of v))) (behind_attrs r) (omega arith) ys.1) cs.1 ws.1 in
      record {
        names = λ k l l'. elim (cases_eq k i) [
          | inl q ↦ subst (TextIn m) (sym (ap (name_at m p) q ∙ called)) N.0
          | inr u ↦ R.names k (omega arith) (omega arith)
        ];
        good = λ k l l'. elim (cases_eq k i) [
          | inl q ↦ subst (Good (suc d) m) (sym (ap (attr_at m p) q ∙ here)) V.good
          | inr u ↦ R.good k (omega arith) (omega arith)
        ];
        are = ap (run_attrs (λ k. text_at m (name_at m p k)) (λ k. decode (suc d) m (attr_at m p k)) i) (one_more (count_fields r))
            ∙ put (ap (text_at m) called ∙ N.1) (ap (decode (suc d) m) here ∙ V.is) R.are;
      }

-- ---- what a call can carry is not too deep
mutual
  carried : (v : s.Value) (d : ℕ) → encodable_value v d ≡ true → within d v ≡ true
  carried (prim p) d h = refl
  carried (set vs) zero h = false-true (and_parts (level 0) (encodable_values vs (0 - 1)) h).0
  carried (set vs) (suc d) h = let e : suc d - 1 ≡ d = omega arith in carried-all vs d (ap (encodable_values vs) (sym e) ∙ (and_parts (level (suc d)) (encodable_values vs (suc d - 1)) h).1)
  carried (record_of r) zero h = false-true (and_parts (level 0) (encodable_attrs r (0 - 1)) h).0
  carried (record_of r) (suc d) h = let e : suc d - 1 ≡ d = omega arith in carried-attrs r d (ap (encodable_attrs r) (sym e) ∙ (and_parts (level (suc d)) (encodable_attrs r (suc d - 1)) h).1)

  carried-all : (vs : Values) (d : ℕ) → encodable_values vs d ≡ true → within_all d vs ≡ true
  carried-all nil d h = refl
  carried-all (cons v vs) d h = let p = and_parts (encodable_value v d) (encodable_values vs d) h in and_from _ _ (carried v d p.0) (carried-all vs d p.1)

  carried-attrs : (r : Attrs) (d : ℕ) → encodable_attrs r d ≡ true → within_attrs d r ≡ true
  carried-attrs empty d h = refl
  carried-attrs (attr a v r) d h =
      let p = and_parts (encodable_value v d) (encodable_attrs r d) (and_parts (is_bytes a) (encodable_value v d && encodable_attrs r d) h).1 in
      and_from _ _ (carried v d p.0) (carried-attrs r d p.1)

pub rows-mean : RowsMean
rows-mean = ((λ v d m p c w l. value-means v d m p c w (lies m p (behind_of v) l)), (λ r d m p c w l. value-means (record_of r) d m p c w (lies m p (behind_of (record_of r)) l)), carried)
