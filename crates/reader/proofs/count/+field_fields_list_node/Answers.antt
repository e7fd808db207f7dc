use Rattle.std.proofs.Common.{rules, ◌≡◌, ℕ, ◌+◌, ◌*◌, ◌<◌, ◌≤◌, List, [], length, get_or, drop, Ok, Err, Result, sym, refl, ap, ◌∙◌, subst, arith}
use Rattle.std.proofs.Math.Nat.{mul-le-mul_left}
use Rattle.std.proofs.lemmas.List.{drop_more, drop_all}
use Rattle.std.proofs.lemmas.Result.{err_from_is_err_and}
use Rattle.spec.specs.Bytes.{Bytes}
use Rattle.reader.specs.declared.grammar.Field.{Field as CodeField}
use Rattle.reader.specs.declared.grammar.Field.TheVariants.{Part}
use Rattle.reader.specs.declared.scan.Found.{Found}
use Rattle.wire.specs.Grammar.{Field, part, small, word, text, pattern, node, list, Fields, Reader, read_field, read_fields, read_node}
use Rattle.reader.specs.Code.{kind_of, items_of, field_of, fields_of, is_part, is_small, parts, smalls}
use Rattle.reader.specs.Found.{found}
use Rattle.reader.specs.Counts.{Counts, count_field, count_fields, Paid}
use Rattle.reader.proofs.Along
use Rattle.reader.proofs.Trees.{parts_more, smalls-more}
use Rattle.reader.proofs.Steps.{left, left-none, left-ok, left-err, counted, node-err, node-low, node_made, node-stops, within-paid, form-paid}
use Rattle.reader.proofs.count.+field_fields_list_node.Goals as goal

-- ---- a field, by what it is
module _ (c : Counts) (u : ℕ) (r : Reader) (bs : Bytes) (at : ℕ) where
  abbrev one : Field → Result Found ℕ
  one f = found (count_field c u f) at (read_field r f (drop at bs))

  by-is : (f g : CodeField) (x : Result Found ℕ) → f ≡ g → x ≡ one (field_of g) → x ≡ one (field_of f)
  by-is f g x e h = let P : CodeField → Type 0 = λ y. x ≡ one (field_of y) in subst P (sym e) h

within-is : (c : Counts) (f g : CodeField) (at len : ℕ) (x : Result Found ℕ) → f ≡ g → Paid c (is_part (field_of g)) (is_small (field_of g)) at len x → Paid c (is_part (field_of f)) (is_small (field_of f)) at len x
within-is c f g at len x e h = let P : CodeField → Type 0 = λ y. Paid c (is_part (field_of y)) (is_small (field_of y)) at len x in subst P (sym e) h

pub field-returns-in-Part-clause-reads : goal.field-returns-in-Part-clause-reads
field-returns-in-Part-clause-reads g t c =
    let k = g.C.Counting.counts in
    by-is k c.args.unit (read_node c.args.height) c.args.bytes.now c.args.at _ _ _ c.in-Part.is
    (ap (λ m. Ok (record { end = c.args.at; size = m })) c.part.ensures ∙ ap (λ m. Ok (record { end = m; size = k.part })) (omega arith))

pub field-returns-in_err-byte-in-Small-clause-reads : goal.field-returns-in_err-byte-in-Small-clause-reads
field-returns-in_err-byte-in-Small-clause-reads g t c =
    let p = err_from_is_err_and c.from_residual.result c.from_residual.ensures.1 in
    rw (p.1, p.2) (by-is g.C.Counting.counts c.args.unit (read_node c.args.height) c.args.bytes.now c.args.at _ _ _ c.in-Small.is (Along.same-err (λ _. 0) (λ _. c.args.unit) c.args.at _ _ c.in_err-byte-in-Small.ensures.reads))

pub field-returns-in_ok-byte-in-Small-clause-reads : goal.field-returns-in_ok-byte-in-Small-clause-reads
field-returns-in_ok-byte-in-Small-clause-reads g t c =
    by-is g.C.Counting.counts c.args.unit (read_node c.args.height) c.args.bytes.now c.args.at _ _ _ c.in-Small.is
    (counted (λ _. 0) (λ _. c.args.unit) c.args.at c.args.unit c.in_ok-byte-in-Small.byte _ c.in_ok-byte-in-Small.ensures.reads (λ y s. refl))

pub field-returns-in_err-word-in-Word-clause-reads : goal.field-returns-in_err-word-in-Word-clause-reads
field-returns-in_err-word-in-Word-clause-reads g t c =
    let p = err_from_is_err_and c.from_residual-in_err-word-in-Word.result c.from_residual-in_err-word-in-Word.ensures.1 in
    rw (p.1, p.2) (by-is g.C.Counting.counts c.args.unit (read_node c.args.height) c.args.bytes.now c.args.at _ _ _ c.in-Word.is (Along.same-err (λ _. 0) (λ _. c.args.unit) c.args.at _ _ c.in_err-word-in-Word.ensures.reads))

pub field-returns-in_ok-word-in-Word : goal.field-returns-in_ok-word-in-Word
field-returns-in_ok-word-in-Word g t c =
    let k = g.C.Counting.counts in
    let w = c.in_ok-word-in-Word.ensures in
    let x : Found = c.in_ok-word-in-Word.word in
    let e = ap (λ m. k.weight * m) (Along.number-end c.args.at _ x w.reads) in
    let y : Found = record { end = x.end; size = c.args.unit } in
    record {
      reads = by-is k c.args.unit (read_node c.args.height) c.args.bytes.now c.args.at _ _ _ c.in-Word.is (counted (λ _. 0) (λ _. c.args.unit) c.args.at c.args.unit x _ w.reads (λ y s. refl));
      within = within-is k _ _ c.args.at (length c.args.bytes.now) (Ok y) c.in-Word.is (w.within.0, w.within.1, omega (arith, e, c.requires.paid));
    }

pub field-returns-in-Text : goal.field-returns-in-Text
field-returns-in-Text g t c =
    let k = g.C.Counting.counts in
    record {
      reads = by-is k c.args.unit (read_node c.args.height) c.args.bytes.now c.args.at _ _ _ c.in-Text.is c.text.ensures.reads;
      within = within-is k _ _ c.args.at (length c.args.bytes.now) _ c.in-Text.is (within-paid k g.C.Counting.lawful c.args.at (length c.args.bytes.now) _ c.text.ensures.within);
    }

pub field-returns-in-Pattern : goal.field-returns-in-Pattern
field-returns-in-Pattern g t c =
    let k = g.C.Counting.counts in
    record {
      reads = by-is k c.args.unit (read_node c.args.height) c.args.bytes.now c.args.at _ _ _ c.in-Pattern.is c.pattern.ensures.reads;
      within = within-is k _ _ c.args.at (length c.args.bytes.now) _ c.in-Pattern.is (within-paid k g.C.Counting.lawful c.args.at (length c.args.bytes.now) _ c.pattern.ensures.within);
    }

pub field-returns-in-Node-clause-reads : goal.field-returns-in-Node-clause-reads
field-returns-in-Node-clause-reads g t c = by-is g.C.Counting.counts c.args.unit (read_node c.args.height) c.args.bytes.now c.args.at _ _ _ c.in-Node.is c.node.ensures.reads

pub field-returns-in-List-clause-reads : goal.field-returns-in-List-clause-reads
field-returns-in-List-clause-reads g t c = by-is g.C.Counting.counts c.args.unit (read_node c.args.height) c.args.bytes.now c.args.at _ _ _ c.in-List.is c.list.ensures.reads

-- ---- fields, one after another
part-few : (f : Field) → is_part f ≤ 1
part-few part = omega arith
part-few (small e) = omega arith
part-few word = omega arith
part-few text = omega arith
part-few pattern = omega arith
part-few (node k) = omega arith
part-few (list fs) = omega arith

module _ (shape : List CodeField) (i : ℕ) (d : CodeField) (h : i < length shape) where
  parts_at : parts (fields_of (drop i shape)) ≡ is_part (field_of (get_or shape i d)) + parts (fields_of (drop (i + 1) shape))
  parts_at = ap (λ fs. parts (fields_of fs)) (drop_more shape i d h) ∙ parts_more (get_or shape i d) (drop (i + 1) shape)

  smalls-at : smalls (fields_of (drop i shape)) ≡ is_small (field_of (get_or shape i d)) + smalls (fields_of (drop (i + 1) shape))
  smalls-at = ap (λ fs. smalls (fields_of fs)) (drop_more shape i d h) ∙ smalls-more (get_or shape i d) (drop (i + 1) shape)

  module _ (c : Counts) (u : ℕ) (r : Reader) (bs : Bytes) (m e : ℕ) (all : Result Found ℕ) (is : left c u r bs m (drop i shape) e ≡ all) where
    one_more : (x : Found) → Ok x ≡ one c u r bs e (field_of (get_or shape i d)) → left c u r bs (m + x.size) (drop (i + 1) shape) x.end ≡ all
    one_more x g = sym (left-ok c u r bs m e (get_or shape i d) (drop (i + 1) shape) x g) ∙ ap (λ fs. left c u r bs m fs e) (sym (drop_more shape i d h)) ∙ is

    stops_at : (k : ℕ) → Err k ≡ one c u r bs e (field_of (get_or shape i d)) → Err k ≡ all
    stops_at k g = left-err c u r bs m e (get_or shape i d) (drop (i + 1) shape) k g ∙ ap (λ fs. left c u r bs m fs e) (sym (drop_more shape i d h)) ∙ is

pub fields-returns-in_err-part-clause-reads : goal.fields-returns-in_err-part-clause-reads
fields-returns-in_err-part-clause-reads g t c =
    let p = err_from_is_err_and c.from_residual.result c.from_residual.ensures.1 in
    rw (p.1, p.2) (stops_at c.args.shape.now c.loop-f.f-index _ c.loop-f-test.true g.C.Counting.counts c.args.unit (read_node c.args.height) c.args.bytes.now c.loop-f.size c.loop-f.end _ c.loop-f.invariant.4 _ c.in_err-part.ensures.reads)

pub fields-overflow_add-size : goal.fields-overflow_add-size
fields-overflow_add-size g t c =
    let k = g.C.Counting.counts in
    let i = c.loop-f.f-index in
    let w = c.in_ok-part.ensures.within in
    let few : length c.args.shape.now ≤ 4611686018427387904 = search rules in
    let is = mul-le-mul_left k.part (part-few (field_of (get_or c.args.shape.now i Part))) in
    let more : i + 1 ≤ 4611686018427387904 = omega (arith, few, c.loop-f-test.true) in
    omega (arith, w.2, is, c.loop-f.invariant.2, c.requires.small, mul-le-mul_left k.weight w.1, mul-le-mul_left k.part more)

pub fields-loop-f-preserved : goal.fields-loop-f-preserved
fields-loop-f-preserved g t c =
    let k = g.C.Counting.counts in
    let shape = c.args.shape.now in
    let i = c.loop-f.f-index in
    let w = c.in_ok-part.ensures.within in
    let is = mul-le-mul_left k.part (part-few (field_of (get_or shape i Part))) in
    let ps = ap (λ n. k.part * n) (parts_at shape i Part c.loop-f-test.true) in
    let ss = ap (λ n. k.part * n) (smalls-at shape i Part c.loop-f-test.true) in (
      omega (arith, w),
      omega (arith, w),
      omega (arith, w.2, is, c.loop-f.invariant.2),
      omega (arith, w.2, ps, ss, c.loop-f.invariant.3),
      one_more shape i Part c.loop-f-test.true k c.args.unit (read_node c.args.height) c.args.bytes.now c.loop-f.size c.loop-f.end _ c.loop-f.invariant.4 c.in_ok-part.part c.in_ok-part.ensures.reads,
    )

pub fields-returns : goal.fields-returns
fields-returns g t c =
    let k = g.C.Counting.counts in
    let shape = c.args.shape.now in
    let none_left : drop c.loop-f.f-index shape ≡ [] = drop_all c.loop-f.f-index shape c.loop-f-test.false in
    let ps = ap (λ fs. k.part * parts (fields_of fs)) none_left in
    let ss = ap (λ fs. k.part * smalls (fields_of fs)) none_left in
    record {
      reads = left-none k c.args.unit (read_node c.args.height) c.args.bytes.now c.loop-f.size c.loop-f.end
          ∙ ap (λ fs. left k c.args.unit (read_node c.args.height) c.args.bytes.now c.loop-f.size fs c.loop-f.end) (sym none_left) ∙ c.loop-f.invariant.4;
      within = (c.loop-f.invariant.0, c.loop-f.invariant.1, omega (arith, c.loop-f.invariant.3, ps, ss));
    }

-- ---- a list, each element behind what it counts itself
module _ (c : Counts) (u : ℕ) (r : Reader) (bs : Bytes) (at : ℕ) (fs gs : Fields) (same : gs ≡ fs) where
  abbrev elements : Fields → Result Found ℕ
  elements hs = found (count_fields c u hs) at (read_fields r hs (drop at bs))

  by-shape : (x : Result Found ℕ) → x ≡ elements gs → x ≡ elements fs
  by-shape x e = subst (λ hs. x ≡ elements hs) same e

  element : (n : ℕ) (x : Found) → n ≡ c.each fs → Ok x ≡ elements gs → Ok (record { end = x.end; size = n + x.size }) ≡ found (λ y. c.each fs + count_fields c u fs y) at (read_fields r fs (drop at bs))
  element n x q e = counted (count_fields c u fs) (λ y. c.each fs + count_fields c u fs y) at (n + x.size) x _ (by-shape (Ok x) e) (λ y s. omega (arith, q, s))

pub list-returns-in-Some-eq0-clause-reads : goal.list-returns-in-Some-eq0-clause-reads
list-returns-in-Some-eq0-clause-reads g t c =
    ap (λ m. Ok (record { end = c.loop-item.end + 1; size = m })) (omega arith)
    ∙ Along.list-zero (read_fields (read_node c.args.height) (items_of c.args.items)) c.args.bytes.now c.loop-item.end _ (search rules) (search rules) ∙ c.loop-item.invariant.3

pub list-returns-in_err-item-in-Some-eq1-clause-reads : goal.list-returns-in_err-item-in-Some-eq1-clause-reads
list-returns-in_err-item-in-Some-eq1-clause-reads g t c =
    let k = g.C.Counting.counts in
    let fs = items_of c.args.items in
    let p = err_from_is_err_and c.from_residual.result c.from_residual.ensures.1 in
    let e = by-shape k c.args.unit (read_node c.args.height) c.args.bytes.now (c.loop-item.end + 1) fs _ c.item_fields-shape.ensures.is _ c.in_err-item-in-Some-eq1.ensures.reads in
    rw (p.1, p.2) (Along.list-one-err (read_fields (read_node c.args.height) fs) c.args.bytes.now c.loop-item.end (count_fields k c.args.unit fs) _ (search rules) (search rules) _ e ∙ c.loop-item.invariant.3)

pub list-overflow_add-size : goal.list-overflow_add-size
list-overflow_add-size g t c =
    let k = g.C.Counting.counts in
    let b = c.in_ok-item-in-Some-eq1.ensures.within in
    let none = ap (λ n. k.part * n) c.item_fields-shape.ensures.paid in
    omega (arith, b.2, none, c.each.ensures, g.C.Counting.lawful.elements c.args.items, mul-le-mul_left k.weight b.1, c.loop-item.invariant.2, c.requires.small)

pub list-overflow_add-size-in-Some-eq1 : goal.list-overflow_add-size-in-Some-eq1
list-overflow_add-size-in-Some-eq1 g t c =
    let k = g.C.Counting.counts in
    let b = c.in_ok-item-in-Some-eq1.ensures.within in
    let none = ap (λ n. k.part * n) c.item_fields-shape.ensures.paid in
    omega (arith, b.2, none, c.each.ensures, g.C.Counting.lawful.elements c.args.items, mul-le-mul_left k.weight b.1, c.loop-item.invariant.2, c.requires.small)

pub list-loop-item-preserved : goal.list-loop-item-preserved
list-loop-item-preserved g t c =
    let k = g.C.Counting.counts in
    let fs = items_of c.args.items in
    let x : Found = c.in_ok-item-in-Some-eq1.item in
    let h = c.in_ok-item-in-Some-eq1.ensures in
    let y : Found = record { end = x.end; size = c.each.result + x.size } in
    let none = ap (λ n. k.part * n) c.item_fields-shape.ensures.paid in
    let inside : c.loop-item.end < length c.args.bytes.now = search rules in
    let one : get_or c.args.bytes.now c.loop-item.end 0 ≡ 1 = search rules in
    let e = element k c.args.unit (read_node c.args.height) c.args.bytes.now (c.loop-item.end + 1) fs _ c.item_fields-shape.ensures.is c.each.result x c.each.ensures h.reads in (
      omega (arith, h.within),
      omega (arith, h.within),
      omega (arith, h.within.2, none, c.each.ensures, g.C.Counting.lawful.elements c.args.items, c.loop-item.invariant.2),
      sym (Along.list-one-ok (read_fields (read_node c.args.height) fs) c.args.bytes.now c.loop-item.end (λ z. k.each fs + count_fields k c.args.unit fs z) inside one y e h.within.1 c.loop-item.size)
          ∙ c.loop-item.invariant.3,
    )

pub list-returns-in_default-clause-reads : goal.list-returns-in_default-clause-reads
list-returns-in_default-clause-reads g t c =
    Along.list-other (read_fields (read_node c.args.height) (items_of c.args.items)) c.args.bytes.now c.loop-item.end _ (search rules) (search rules) (search rules) ∙ c.loop-item.invariant.3

pub list-returns-in_default-2-clause-reads : goal.list-returns-in_default-2-clause-reads
list-returns-in_default-2-clause-reads g t c = Along.list-end (read_fields (read_node c.args.height) (items_of c.args.items)) c.args.bytes.now c.loop-item.end _ (search rules) ∙ c.loop-item.invariant.3

-- ---- a tree
pub node-returns-then-height-eq0-clause-reads : goal.node-returns-then-height-eq0-clause-reads
node-returns-then-height-eq0-clause-reads g t c = node-low g.C.Counting.counts g.C.Counting.lawful (kind_of c.args.kind) (drop c.args.at c.args.bytes.now) c.args.at c.args.height c.if-height-eq0.true

pub node-returns-in_err-opened-clause-reads : goal.node-returns-in_err-opened-clause-reads
node-returns-in_err-opened-clause-reads g t c =
    let p = err_from_is_err_and c.from_residual.result c.from_residual.ensures.1 in
    let o = c.in_err-opened.ensures.reads in
    rw (p.1, p.2) (node-err g.C.Counting.counts g.C.Counting.lawful (kind_of c.args.kind) c.args.bytes.now c.args.at o.0 c.args.height _ (omega arith) o.1 o.2)

pub node-returns-in_err-body-clause-reads : goal.node-returns-in_err-body-clause-reads
node-returns-in_err-body-clause-reads g t c =
    let p = err_from_is_err_and c.from_residual-in_err-body.result c.from_residual-in_err-body.ensures.1 in
    rw (p.1, p.2) (node-stops g.C.Counting.counts g.C.Counting.lawful (kind_of c.args.kind) c.args.bytes.now c.args.at c.args.height c.in_ok-opened.opened (omega arith) c.in_ok-opened.ensures.reads c.unit.result _ c.in_err-body.ensures.reads)

pub node-overflow_add-result : goal.node-overflow_add-result
node-overflow_add-result g t c =
    let k = g.C.Counting.counts in
    let o = c.in_ok-opened.ensures in
    let b = c.in_ok-body.ensures.within in
    let w = form-paid k g.C.Counting.lawful (kind_of c.args.kind) _ _ o.reads.0 o.reads.1 o.reads.2 _ _ c.args.at c.in_ok-opened.opened.start (length c.args.bytes.now) c.in_ok-body.body o.reads.3 o.within.2 b in
    omega (arith, w, c.head.ensures, mul-le-mul_left k.weight b.1, c.requires.small)

pub node-returns : goal.node-returns
node-returns g t c =
    let k = g.C.Counting.counts in
    let o = c.in_ok-opened.ensures in
    let b = c.in_ok-body.ensures in
    let w = form-paid k g.C.Counting.lawful (kind_of c.args.kind) _ _ o.reads.0 o.reads.1 o.reads.2 _ _ c.args.at c.in_ok-opened.opened.start (length c.args.bytes.now) c.in_ok-body.body o.reads.3 o.within.2 b.within in
    record {
      reads = node_made k g.C.Counting.lawful (kind_of c.args.kind) c.args.bytes.now c.args.at c.args.height c.in_ok-opened.opened (omega arith) o.reads c.unit.result c.head.result c.in_ok-body.body c.unit.ensures c.head.ensures b.reads;
      within = (omega (arith, b.within, o.within), b.within.1, omega (arith, w, c.head.ensures));
    }
