use Rattle.std.specs.declared.cmp.Ordering.{Ordering}
use Rattle.values.specs.Memory.{numbers}
use Rattle.std.proofs.Common.{◌≡◌, ap₂, nat_cmp, ℕ, ◌<◌, List, sym, ap, ◌∙◌, subst, arith}
use Rattle.values.specs.Held.{Good, decode, element_at, attr_at, count}
use Rattle.values.specs.Order.{order_value}
use Rattle.values.proofs.Orders.{first-tells, next-tells, order_is}
use Rattle.values.proofs.Runs.{under, lies_in, ahead-all, ahead-none, told, on, values-along, attrs-along, elements-stand, attrs-stand}
use Rattle.values.proofs.ordering.+compare.Goals as goal

pub compare-compare_kind-requires : goal.compare-compare_kind-requires
compare-compare_kind-requires t c =
    let m : List ℕ = numbers c.args.memory.now in
    let e = under c.args.height c.if-height-eq0.false in
    (omega arith, (subst (λ h. Good h m c.args.v) e c.requires.left, subst (λ h. Good h m c.args.w) e c.requires.right))

pub compare-returns : goal.compare-returns
compare-returns t c =
    let m : List ℕ = numbers c.args.memory.now in
    let e = under c.args.height c.if-height-eq0.false in
    let parts : c.compare_kind.result ≡ order_value (decode c.args.height m c.args.v) (decode c.args.height m c.args.w) = c.compare_kind.ensures ∙ ap (λ h. order_value (decode h m c.args.v) (decode h m c.args.w)) (sym e) in
    record { parts = parts; code = parts ∙ order_is (decode c.args.height m c.args.v) (decode c.args.height m c.args.w) }

pub compare_sets-loop-i-init : goal.compare_sets-loop-i-init
compare_sets-loop-i-init t c =
    let m : List ℕ = numbers c.args.memory.now in
    ahead-all (elements-stand c.args.height m c.args.p c.args.q) (count m c.args.p) (count m c.args.q)

pub compare_sets-element_of-v-requires-clause-lies : goal.compare_sets-element_of-v-requires-clause-lies
compare_sets-element_of-v-requires-clause-lies t c =
    let l : c.loop-i.i < count (numbers c.args.memory.now) c.args.p = omega (arith, c.count_of-n.ensures, c.count_of-k.ensures) in
    lies_in c.args.height (numbers c.args.memory.now) (element_at (numbers c.args.memory.now) c.args.p c.loop-i.i) c.args.memory.now.small (c.requires.left.each c.loop-i.i l)

pub compare_sets-element_of-w-requires-clause-lies : goal.compare_sets-element_of-w-requires-clause-lies
compare_sets-element_of-w-requires-clause-lies t c =
    let l : c.loop-i.i < count (numbers c.args.memory.now) c.args.q = omega (arith, c.count_of-n.ensures, c.count_of-k.ensures) in
    lies_in c.args.height (numbers c.args.memory.now) (element_at (numbers c.args.memory.now) c.args.q c.loop-i.i) c.args.memory.now.small (c.requires.right.each c.loop-i.i l)

pub compare_sets-returns-then-is_ne : goal.compare_sets-returns-then-is_ne
compare_sets-returns-then-is_ne t c =
    let m : List ℕ = numbers c.args.memory.now in
    let e : c.compare-order.result ≡ elements-stand c.args.height m c.args.p c.args.q c.loop-i.i = (cc) in
    told (elements-stand c.args.height m c.args.p c.args.q) (count m c.args.p) (count m c.args.q) c.loop-i.i c.compare-order.result (omega arith) e (cc)
    ∙ c.loop-i.invariant ∙ sym (values-along _ _ 0 (count m c.args.p) (count m c.args.q))

pub compare_sets-loop-i-preserved : goal.compare_sets-loop-i-preserved
compare_sets-loop-i-preserved t c =
    let m : List ℕ = numbers c.args.memory.now in
    let e : c.compare-order.result ≡ elements-stand c.args.height m c.args.p c.args.q c.loop-i.i = (cc) in
    on (elements-stand c.args.height m c.args.p c.args.q) (count m c.args.p) (count m c.args.q) c.loop-i.i c.compare-order.result (omega arith) e (cc)
    ∙ c.loop-i.invariant

pub compare_sets-returns : goal.compare_sets-returns
compare_sets-returns t c =
    let m : List ℕ = numbers c.args.memory.now in
    c.cmp.ensures ∙ ap₂ nat_cmp c.count_of-n.ensures c.count_of-k.ensures
    ∙ ahead-none (elements-stand c.args.height m c.args.p c.args.q) (count m c.args.p) (count m c.args.q) c.loop-i.i (omega arith)
    ∙ c.loop-i.invariant ∙ sym (values-along _ _ 0 (count m c.args.p) (count m c.args.q))

pub compare_records-loop-i-init : goal.compare_records-loop-i-init
compare_records-loop-i-init t c =
    let m : List ℕ = numbers c.args.memory.now in
    ahead-all (attrs-stand c.args.height m c.args.p c.args.q) (count m c.args.p) (count m c.args.q)

pub compare_records-attr_of-v-requires-clause-lies : goal.compare_records-attr_of-v-requires-clause-lies
compare_records-attr_of-v-requires-clause-lies t c =
    let l : c.loop-i.i < count (numbers c.args.memory.now) c.args.p = omega (arith, c.count_of-n.ensures, c.count_of-k.ensures) in
    lies_in c.args.height (numbers c.args.memory.now) (attr_at (numbers c.args.memory.now) c.args.p c.loop-i.i) c.args.memory.now.small (c.requires.left.each c.loop-i.i l)

pub compare_records-attr_of-w-requires-clause-lies : goal.compare_records-attr_of-w-requires-clause-lies
compare_records-attr_of-w-requires-clause-lies t c =
    let l : c.loop-i.i < count (numbers c.args.memory.now) c.args.q = omega (arith, c.count_of-n.ensures, c.count_of-k.ensures) in
    lies_in c.args.height (numbers c.args.memory.now) (attr_at (numbers c.args.memory.now) c.args.q c.loop-i.i) c.args.memory.now.small (c.requires.right.each c.loop-i.i l)

pub compare_records-returns-then-is_ne : goal.compare_records-returns-then-is_ne
compare_records-returns-then-is_ne t c =
    let m : List ℕ = numbers c.args.memory.now in
    let x : Ordering = order_value (decode c.args.height m (attr_at m c.args.p c.loop-i.i)) (decode c.args.height m (attr_at m c.args.q c.loop-i.i)) in
    let apart = sym c.is_ne.ensures ∙ c.if-is_ne.true in
    let s = first-tells _ x apart in
    told (attrs-stand c.args.height m c.args.p c.args.q) (count m c.args.p) (count m c.args.q) c.loop-i.i _ (omega arith) (cc) apart
    ∙ c.loop-i.invariant ∙ sym (attrs-along _ _ _ _ 0 (count m c.args.p) (count m c.args.q))

pub compare_records-returns-then-is_ne-2 : goal.compare_records-returns-then-is_ne-2
compare_records-returns-then-is_ne-2 t c =
    let m : List ℕ = numbers c.args.memory.now in
    let s = next-tells _ c.compare-order.result (sym c.is_ne.ensures ∙ c.if-is_ne.false) in
    let e : c.compare-order.result ≡ attrs-stand c.args.height m c.args.p c.args.q c.loop-i.i = (cc) in
    told (attrs-stand c.args.height m c.args.p c.args.q) (count m c.args.p) (count m c.args.q) c.loop-i.i c.compare-order.result (omega arith) e (cc)
    ∙ c.loop-i.invariant ∙ sym (attrs-along _ _ _ _ 0 (count m c.args.p) (count m c.args.q))

pub compare_records-loop-i-preserved : goal.compare_records-loop-i-preserved
compare_records-loop-i-preserved t c =
    let m : List ℕ = numbers c.args.memory.now in
    let s = next-tells _ c.compare-order.result (sym c.is_ne.ensures ∙ c.if-is_ne.false) in
    let e : c.compare-order.result ≡ attrs-stand c.args.height m c.args.p c.args.q c.loop-i.i = (cc) in
    on (attrs-stand c.args.height m c.args.p c.args.q) (count m c.args.p) (count m c.args.q) c.loop-i.i c.compare-order.result (omega arith) e (cc)
    ∙ c.loop-i.invariant

pub compare_records-returns : goal.compare_records-returns
compare_records-returns t c =
    let m : List ℕ = numbers c.args.memory.now in
    c.cmp.ensures ∙ ap₂ nat_cmp c.count_of-n.ensures c.count_of-k.ensures
    ∙ ahead-none (attrs-stand c.args.height m c.args.p c.args.q) (count m c.args.p) (count m c.args.q) c.loop-i.i (omega arith)
    ∙ c.loop-i.invariant ∙ sym (attrs-along _ _ _ _ 0 (count m c.args.p) (count m c.args.q))
