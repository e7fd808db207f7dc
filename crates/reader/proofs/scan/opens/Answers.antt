-- By the table of a kind's forms: what its byte tells is what is read.
use Rattle.std.proofs.Common.{rules, ◌≡◌, ℕ, ◌+◌, ◌<◌, ◌≤◌, Bool, true, false, ◌&&◌, eqb, List, ◌∷◌, length, get_or, drop, sym, refl, ap, ◌∙◌, ⊎_elim, arith}
use Rattle.std.proofs.lemmas.List.{drop_more, drop_all, get_or-map, length-map}
use Rattle.std.proofs.lemmas.Bool.{ne_eqb}
use Rattle.std.proofs.lemmas.Result.{err_from_is_err_and}
use Rattle.spec.specs.Bytes.{Bytes}
use Rattle.reader.specs.declared.grammar.Form.{Form}
use Rattle.wire.specs.Read.{got, stops}
use Rattle.wire.specs.Grammar.{Kind, Tag, Fields, read_tag, fields}
use Rattle.reader.specs.Code.{kind_of, row_of, table_of, fields_of, by_tag, forms_in, parts, smalls}
use Rattle.reader.proofs.Trees.{tagged, untagged}
use Rattle.reader.proofs.scan.opens.Goals as goal
use Rattle.reader.proofs.scan.opens.Goals.{in_default-via-in-Some+else-height-gt0, then-not-form, else-not-form, in_default-via-in_default}

module _ (k : Kind) (table : List Form) (is : by_tag (table_of table) ≡ forms_in k) (bs : Bytes) (at h : ℕ) where
  none_left : length bs ≤ at → read_tag k h (drop at bs) ≡ stops 0
  none_left l = ap (λ xs. read_tag k h xs) (drop_all at bs l) ∙ (tagged k _ is).at-end h

  module _ (b : ℕ) (l : at < length bs) (e : get_or bs at 0 ≡ b) where
    behind : read_tag k h (drop at bs) ≡ read_tag k h (b ∷ drop (at + 1) bs)
    behind = ap (λ xs. read_tag k h xs) (drop_more bs at 0 l ∙ ap (λ a. a ∷ drop (at + 1) bs) e)

    no-form : length table ≤ b → read_tag k h (drop at bs) ≡ stops 0
    no-form o = behind ∙ (tagged k _ is).beyond h b _ (omega (arith, length-map table row_of))

    module _ (f : Form) (i : b < length table) (at-b : f ≡ get_or table b f) where
      row : row_of f ≡ get_or (table_of table) b (row_of f)
      row = ap row_of at-b ∙ sym (get_or-map row_of table b f (row_of f) i)

      too-deep : (f.inner && eqb h 0) ≡ true → read_tag k h (drop at bs) ≡ stops 0
      too-deep o = behind ∙ (tagged k _ is).deep h b _ (row_of f) (omega (arith, length-map table row_of, i)) (ap (λ (r : Bool × Fields). r.0 && eqb h 0) (sym row) ∙ o)

      there : (f.inner && eqb h 0) ≡ false → (g : Tag k) × (read_tag k h (drop at bs) ≡ got g 1) × (fields_of f.fields.now ≡ fields k g)
      there o =
          let w = (tagged k _ is).there h b (drop (at + 1) bs) (row_of f) (omega (arith, length-map table row_of, i)) (ap (λ (r : Bool × Fields). r.0 && eqb h 0) (sym row) ∙ o) in
          (w.0, behind ∙ w.1, ap (λ (r : Bool × Fields). r.1) row ∙ w.2)

      paid : parts (fields_of f.fields.now) ≤ 1 + smalls (fields_of f.fields.now)
      paid = omega (arith, (tagged k _ is).paid b (row_of f) (omega (arith, length-map table row_of, i)), ap (λ (r : Bool × Fields). parts r.1) row, ap (λ (r : Bool × Fields). smalls r.1) row)

pub returns-in-Only : goal.returns-in-Only
returns-in-Only c =
    let w = untagged (kind_of c.args.kind) c.args.height (drop c.args.at c.args.bytes.now) _ c.in-Only.ensures in
    record { reads = (w.0, 0, w.1, omega arith, w.2); within = (omega arith, c.requires, omega (arith, w.3)) }

pub returns-in_err-tag-clause-reads : goal.returns-in_err-tag-clause-reads
returns-in_err-tag-clause-reads c =
    let p = err_from_is_err_and c.from_residual.result c.from_residual.ensures.1 in
    rw (p.1, p.2) (0, none_left _ _ c.in-ByTag.ensures c.args.bytes.now c.args.at c.args.height (search rules), search (rules, arith))

pub returns-in-Some : goal.returns-in-Some
returns-in-Some c =
    let f = c.in-Some.form.now in
    let none : (f.inner && eqb c.args.height 0) ≡ false = ⊎_elim (λ e. rw e) (λ e. let z : 0 < c.args.height = e.1 in rw (e.0, ne_eqb c.args.height 0 (λ q. omega arith))) c.if-height-gt0.either in
    let l : c.args.at < length c.args.bytes.now = search rules in
    let e : get_or c.args.bytes.now c.args.at 0 ≡ c.in_ok-tag.tag.now = search rules in
    let i : c.in_ok-tag.tag.now < length c.in-ByTag.table.now = search rules in
    let t = there _ _ c.in-ByTag.ensures c.args.bytes.now c.args.at c.args.height _ l e f i (search rules) none in
    let p = paid _ _ c.in-ByTag.ensures c.args.bytes.now c.args.at c.args.height _ l e f i (search rules) in
    record { reads = (t.0, 1, t.1, refl, t.2); within = (omega arith, omega arith, omega (arith, p)) }

pub returns-in_default-clause-reads : goal.returns-in_default-clause-reads
returns-in_default-clause-reads c =
    let l : c.args.at < length c.args.bytes.now = search rules in
    let e : get_or c.args.bytes.now c.args.at 0 ≡ c.in_ok-tag.tag.now = search rules in
    let stopped : read_tag (kind_of c.args.kind) c.args.height (drop c.args.at c.args.bytes.now) ≡ stops 0 =
    elim c.in_default.branch [
      | in_default-via-in-Some+else-height-gt0 w ↦
          (let f : Form = w.in-Some.form.now in
          let inner : f.inner ≡ true = search rules in
          let none : c.args.height ≡ 0 = search rules in
          too-deep _ _ c.in-ByTag.ensures c.args.bytes.now c.args.at c.args.height _ l e f (search rules) (search rules) (rw (inner, none)))
      | in_default-via-in_default w ↦ no-form _ _ c.in-ByTag.ensures c.args.bytes.now c.args.at c.args.height _ l e (search rules)
    ] in
    (0, stopped, omega arith)
