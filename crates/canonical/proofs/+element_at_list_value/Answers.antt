use Rattle.std.proofs.Common.{rules, ◌+◌, ◌<◌, slice_index_or, ⊎_elim, refl, ap, ◌∙◌, sym, arith}
use Rattle.spec.specs.Values.{set, record_of, to_values, to_attrs}
use Rattle.spec.specs.Calls.{canonical}
use Rattle.reader.specs.Kinds.{byte_of}
use Rattle.reader.proofs.Stood.{is-got}
use Rattle.canonical.specs.Kept.{read_item, item_key, is_kept, in_order}
use Rattle.canonical.proofs.Lists
use Rattle.canonical.proofs.Keys.{Small, by-bytes}
use Rattle.canonical.proofs.Elements
use Rattle.canonical.proofs.Parts
use Rattle.canonical.proofs.+element_at_list_value.Goals as goal

-- ---- an element
pub element_at-value-requires : goal.element_at-value-requires
element_at-value-requires t c = (omega arith, (c.requires.0, Elements.item-as _ _ _ _ c.in-Values.is c.requires.1))

pub element_at-returns-in_err-end-in-Values-clause-is : goal.element_at-returns-in_err-end-in-Values-clause-is
element_at-returns-in_err-end-in-Values-clause-is t c =
    let g = Elements.item-as _ _ _ _ c.in-Values.is c.requires.1 in
    Elements.unfound _ _ _ _ _ _ c.in-Values.is c.from_residual.ensures (Elements.value-none c.args.bytes.now c.args.at c.args.height g c.in_err-end-in-Values.ensures.is)

pub element_at-text_end-requires : goal.element_at-text_end-requires
element_at-text_end-requires t c = Elements.name-got c.args.bytes.now c.args.at c.args.height (Elements.item-as _ _ _ _ c.in-Attributes.is c.requires.1)

pub element_at-value-requires-in-Attributes : goal.element_at-value-requires-in-Attributes
element_at-value-requires-in-Attributes t c =
    let g = Elements.item-as _ _ _ _ c.in-Attributes.is c.requires.1 in
    (omega arith, (c.text_end.ensures.within.1, Elements.body-got c.args.bytes.now c.args.at c.args.height g c.text_end.result c.text_end.ensures.is))

pub element_at-returns-in_err-end-in-Attributes-clause-is : goal.element_at-returns-in_err-end-in-Attributes-clause-is
element_at-returns-in_err-end-in-Attributes-clause-is t c =
    let g = Elements.item-as _ _ _ _ c.in-Attributes.is c.requires.1 in
    Elements.unfound _ _ _ _ _ _ c.in-Attributes.is c.from_residual-in_err-end-in-Attributes.ensures
    (Elements.attribute-none c.args.bytes.now c.args.at c.args.height g c.text_end.result c.text_end.ensures.is c.in_err-end-in-Attributes.ensures.is)

pub element_at-text_of-requires : goal.element_at-text_of-requires
element_at-text_of-requires t c = Elements.name-got c.args.bytes.now c.args.at c.args.height (Elements.item-as _ _ _ _ c.in-Attributes.is c.requires.1)

pub element_at-node_end-end-requires-clause-stands : goal.element_at-node_end-end-requires-clause-stands
element_at-node_end-end-requires-clause-stands t c = Elements.item-as _ _ _ _ c.in-Ancestors.is c.requires.1

pub element_at-returns-in_ok-end-in-Values-clause-is : goal.element_at-returns-in_ok-end-in-Values-clause-is
element_at-returns-in_ok-end-in-Values-clause-is t c =
    let s : Small c.args.bytes.now = λ i. omega (arith, c.type_inv.bytes i) in
    let g = Elements.item-as _ _ _ _ c.in-Values.is c.requires.1 in
    Elements.found-as _ _ _ _ _ _ c.in-Values.is (Elements.value-some c.args.bytes.now c.args.at c.args.height g s _ _ refl c.in_ok-end-in-Values.ensures.is)

pub element_at-returns-in_ok-end-in-Attributes-clause-is : goal.element_at-returns-in_ok-end-in-Attributes-clause-is
element_at-returns-in_ok-end-in-Attributes-clause-is t c =
    let g = Elements.item-as _ _ _ _ c.in-Attributes.is c.requires.1 in
    Elements.found-as _ _ _ _ _ _ c.in-Attributes.is (Elements.attribute-some c.args.bytes.now c.args.at c.args.height g c.text_end.result c.text_end.ensures.is _ _ (search rules) c.in_ok-end-in-Attributes.ensures.is)

pub element_at-returns-in-Ancestors-clause-is : goal.element_at-returns-in-Ancestors-clause-is
element_at-returns-in-Ancestors-clause-is t c =
    let s : Small c.args.bytes.now = λ i. omega (arith, c.type_inv.bytes i) in
    let g = Elements.item-as _ _ _ _ c.in-Ancestors.is c.requires.1 in
    Elements.found-as _ _ _ _ _ _ c.in-Ancestors.is (Elements.uid-some c.args.bytes.now c.args.at c.args.height g s _ _ refl c.node_end-end.ensures.is)

-- ---- a list
pub list-loop-end-init : goal.list-loop-end-init
list-loop-end-init t c =
    let s : Small c.args.bytes.now = λ i. omega (arith, c.type_inv.bytes i) in
    let l = c.args.listed in (
      omega arith,
      c.requires.0,
      c.requires.1,
      Lists.start (read_item l c.args.height) (item_key l) (is_kept l) c.args.bytes.now c.args.at (in_order l) (by-bytes l c.args.bytes.now c.args.at c.args.height s) c.requires.1,
    )

pub list-bounds-bytes-end : goal.list-bounds-bytes-end
list-bounds-bytes-end t c = Lists.list_inside (read_item c.args.listed c.args.height) c.args.bytes.now c.loop-end.end c.loop-end.invariant.2

pub list-element_at-requires : goal.list-element_at-requires
list-element_at-requires t c =
    let r = read_item c.args.listed c.args.height in
    let in' = Lists.list_inside r c.args.bytes.now c.loop-end.end c.loop-end.invariant.2 in
    let w = Lists.list-more r c.args.bytes.now c.loop-end.end c.loop-end.invariant.2 c.loop-end-test.true in
    (omega arith, (omega (arith, in'), is-got _ w.0 w.1 w.4))

pub list-returns-in_err-here-clause-is : goal.list-returns-in_err-here-clause-is
list-returns-in_err-here-clause-is t c =
    let l = c.args.listed in
    c.from_residual.ensures ∙ Lists.unkept (read_item l c.args.height) (item_key l) (is_kept l) c.args.bytes.now c.loop-end.end c.loop-end.last c.loop-end.invariant.2 c.loop-end-test.true c.in_err-here.ensures.is ∙ c.loop-end.invariant.3

pub list-returns-then-not-behind-clause-is : goal.list-returns-then-not-behind-clause-is
list-returns-then-not-behind-clause-is t c =
    let l = c.args.listed in
    Lists.unordered (read_item l c.args.height) (item_key l) (is_kept l) c.args.bytes.now c.loop-end.end c.loop-end.last c.loop-end.invariant.2 c.loop-end-test.true c.in_ok-here.here c.in_ok-here.ensures.is (sym c.behind.ensures ∙ c.if-not-behind.true)
    ∙ c.loop-end.invariant.3

pub list-loop-end-preserved : goal.list-loop-end-preserved
list-loop-end-preserved t c =
    let l = c.args.listed in
    let i = c.loop-end.invariant in
    let h = c.in_ok-here.ensures.within in
    let w = Lists.step (read_item l c.args.height) (item_key l) (is_kept l) c.args.bytes.now c.loop-end.end c.loop-end.last i.2 c.loop-end-test.true c.in_ok-here.here c.in_ok-here.ensures.is (sym c.behind.ensures ∙ c.if-not-behind.false) in
    (omega (arith, i.0, h.0), h.1, w.0, w.1 ∙ i.3)

pub list-returns-clause-is : goal.list-returns-clause-is
list-returns-clause-is t c =
    let l = c.args.listed in
    Lists.finish (read_item l c.args.height) (item_key l) (is_kept l) c.args.bytes.now c.loop-end.end c.loop-end.last c.loop-end.invariant.2 c.loop-end-test.false ∙ c.loop-end.invariant.3

pub list-returns-clause-within : goal.list-returns-clause-within
list-returns-clause-within t c =
    let in' = Lists.list_inside (read_item c.args.listed c.args.height) c.args.bytes.now c.loop-end.end c.loop-end.invariant.2 in
    (omega (arith, c.loop-end.invariant.0), omega (arith, in'))

-- ---- a value
pub value-bounds-bytes-at : goal.value-bounds-bytes-at
value-bounds-bytes-at t c = Parts.value-inside c.args.bytes.now c.args.at c.args.height c.requires.1

pub value-unreachable-requires : goal.value-unreachable-requires
value-unreachable-requires t c = Parts.told-form c.args.bytes.now c.args.at c.args.height c.requires.1 c.in_default.ensures

pub value-overflow_sub-height : goal.value-overflow_sub-height
value-overflow_sub-height t c = omega (arith, (Parts.set_is c.args.bytes.now c.args.at c.args.height c.requires.1 (c.in-Ok.ensures ∙ ap byte_of c.in-Set.is)).0)

pub value-list-requires : goal.value-list-requires
value-list-requires t c =
    let in' = Parts.value-inside c.args.bytes.now c.args.at c.args.height c.requires.1 in
    let w = Parts.set_is c.args.bytes.now c.args.at c.args.height c.requires.1 (c.in-Ok.ensures ∙ ap byte_of c.in-Set.is) in
    (omega (arith, w.0), (omega (arith, in'), Parts.got-turn (λ vs. set (to_values vs)) 1 _ _ w.1 c.requires.1))

pub value-overflow_sub-height-in-Record : goal.value-overflow_sub-height-in-Record
value-overflow_sub-height-in-Record t c = omega (arith, (Parts.inner-record-is c.args.bytes.now c.args.at c.args.height c.requires.1 (c.in-Ok.ensures ∙ ap byte_of c.in-Record.is)).0)

pub value-list-requires-in-Record : goal.value-list-requires-in-Record
value-list-requires-in-Record t c =
    let in' = Parts.value-inside c.args.bytes.now c.args.at c.args.height c.requires.1 in
    let w = Parts.inner-record-is c.args.bytes.now c.args.at c.args.height c.requires.1 (c.in-Ok.ensures ∙ ap byte_of c.in-Record.is) in
    (omega (arith, w.0), (omega (arith, in'), Parts.got-turn (λ fs. record_of (to_attrs fs)) 1 _ _ w.1 c.requires.1))

pub value-returns-in-Set-clause-is : goal.value-returns-in-Set-clause-is
value-returns-in-Set-clause-is t c =
    let w = Parts.set_is c.args.bytes.now c.args.at c.args.height c.requires.1 (c.in-Ok.ensures ∙ ap byte_of c.in-Set.is) in
    c.list.ensures.is ∙ Parts.judged-turn canonical (λ vs. set (to_values vs)) c.args.at 1 (c.args.at + 1) _ _ refl w.1

pub value-returns-in-Record-clause-is : goal.value-returns-in-Record-clause-is
value-returns-in-Record-clause-is t c =
    let w = Parts.inner-record-is c.args.bytes.now c.args.at c.args.height c.requires.1 (c.in-Ok.ensures ∙ ap byte_of c.in-Record.is) in
    c.list-in-Record.ensures.is ∙ Parts.judged-turn canonical (λ fs. record_of (to_attrs fs)) c.args.at 1 (c.args.at + 1) _ _ refl w.1

pub value-returns-in-Bool : goal.value-returns-in-Bool
value-returns-in-Bool t c =
    let s : Small c.args.bytes.now = λ i. omega (arith, c.type_inv.bytes i) in
    let low : slice_index_or c.args.bytes.now c.args.at 0 < 4 = ⊎_elim (λ e. omega (arith, c.in-Ok.ensures, ap byte_of e)) (λ o. ⊎_elim (λ e. omega (arith, c.in-Ok.ensures, ap byte_of e)) (λ o. ⊎_elim (λ e. omega (arith, c.in-Ok.ensures, ap byte_of e)) (λ e. omega (arith, c.in-Ok.ensures, ap byte_of e)) o) o) c.in-Bool.is in
    record {
      is = Parts.leaf-judged c.args.bytes.now c.args.at c.args.height c.node_end.result s c.requires.1 (λ e. omega (arith, low, e)) (λ e. omega (arith, low, e)) c.node_end.ensures.is;
      within = c.node_end.ensures.within;
    }
