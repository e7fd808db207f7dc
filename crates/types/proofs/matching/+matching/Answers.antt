use Rattle.std.proofs.Common.{◌+◌, ◌-◌, length, sym, ap, ◌∙◌, subst, ap₂, arith}
use Rattle.values.specs.Held.{TextIn}
use Rattle.types.specs.Held.{decode, Good, count_at, GoodFrom, is_stored, place_of}
use Rattle.types.specs.Matching.{match_type}
use Rattle.types.proofs.Walks.{under, fewer, good-step, name_in, left, match-counts, no_name, no-required, no-type, all_same}
use Rattle.types.proofs.matching.+matching.Goals as goal

pub match_attrs-returns-then-n-count : goal.match_attrs-returns-then-n-count
match_attrs-returns-then-n-count t c =
    sym (match-counts c.args.rule (decode c.args.height c.args.memory.now.store.now c.args.memory.now.work.now) (is_stored c.args.p) (is_stored c.args.q) c.args.memory.now.store.now c.args.memory.now.work.now (count_at (is_stored c.args.p) c.args.memory.now.store.now c.args.memory.now.work.now (place_of c.args.p)) (count_at (is_stored c.args.q) c.args.memory.now.store.now c.args.memory.now.work.now (place_of c.args.q)) (place_of c.args.p + 1) (place_of c.args.q + 1) (λ q. c.if-n-count.true (c.count-n.ensures ∙ q ∙ sym c.count.ensures)))

pub match_attrs-attr_at-a-requires : goal.match_attrs-attr_at-a-requires
match_attrs-attr_at-a-requires t c =
    (good-step (Good c.args.height c.args.memory.now.store.now c.args.memory.now.work.now 0 (length c.args.memory.now.work.now)) (is_stored c.args.p) c.args.memory.now.store.now c.args.memory.now.work.now (length c.args.memory.now.work.now) (c.count-n.result - c.loop.counter) c.loop.e (omega (arith, c.loop-test.true)) c.loop.invariant.1).0

pub match_attrs-attr_at-b-requires : goal.match_attrs-attr_at-b-requires
match_attrs-attr_at-b-requires t c =
    (good-step (Good c.args.height c.args.memory.now.store.now c.args.memory.now.work.now 0 (length c.args.memory.now.work.now)) (is_stored c.args.q) c.args.memory.now.store.now c.args.memory.now.work.now (length c.args.memory.now.work.now) (c.count-n.result - c.loop.counter) c.loop.f (omega (arith, c.loop-test.true)) c.loop.invariant.2).0

pub match_attrs-same_names-requires : goal.match_attrs-same_names-requires
match_attrs-same_names-requires t c =
    let x = good-step (Good c.args.height c.args.memory.now.store.now c.args.memory.now.work.now 0 (length c.args.memory.now.work.now)) (is_stored c.args.p) c.args.memory.now.store.now c.args.memory.now.work.now (length c.args.memory.now.work.now) (c.count-n.result - c.loop.counter) c.loop.e (omega (arith, c.loop-test.true)) c.loop.invariant.1 in
    let y = good-step (Good c.args.height c.args.memory.now.store.now c.args.memory.now.work.now 0 (length c.args.memory.now.work.now)) (is_stored c.args.q) c.args.memory.now.store.now c.args.memory.now.work.now (length c.args.memory.now.work.now) (c.count-n.result - c.loop.counter) c.loop.f (omega (arith, c.loop-test.true)) c.loop.invariant.2 in
    record { left = subst (TextIn c.args.memory.now.store.now) (sym c.attr_at-a.ensures.name) (name_in (is_stored c.args.p) c.args.memory.now.store.now c.args.memory.now.work.now (length c.args.memory.now.work.now) c.loop.e x.0); right = subst (TextIn c.args.memory.now.store.now) (sym c.attr_at-b.ensures.name) (name_in (is_stored c.args.q) c.args.memory.now.store.now c.args.memory.now.work.now (length c.args.memory.now.work.now) c.loop.f y.0) }

pub match_attrs-returns-then-not-same_names : goal.match_attrs-returns-then-not-same_names
match_attrs-returns-then-not-same_names t c =
    no_name c.args.rule (decode c.args.height c.args.memory.now.store.now c.args.memory.now.work.now) (is_stored c.args.p) (is_stored c.args.q) c.args.memory.now.store.now c.args.memory.now.work.now (c.count-n.result - c.loop.counter) c.loop.e c.loop.f c.attr_at-a.result.name c.attr_at-b.result.name c.attr_at-a.result.required c.attr_at-b.result.required c.attr_at-a.result.ty c.attr_at-b.result.ty (omega (arith, c.loop-test.true)) c.attr_at-a.ensures.name c.attr_at-b.ensures.name c.attr_at-a.ensures.required c.attr_at-b.ensures.required c.attr_at-a.ensures.ty c.attr_at-b.ensures.ty c.if-not-same_names.ensures ∙ c.loop.invariant.0

pub match_attrs-returns-then-a-b : goal.match_attrs-returns-then-a-b
match_attrs-returns-then-a-b t c =
    no-required c.args.rule (decode c.args.height c.args.memory.now.store.now c.args.memory.now.work.now) (is_stored c.args.p) (is_stored c.args.q) c.args.memory.now.store.now c.args.memory.now.work.now (c.count-n.result - c.loop.counter) c.loop.e c.loop.f c.attr_at-a.result.name c.attr_at-b.result.name c.attr_at-a.result.required c.attr_at-b.result.required c.attr_at-a.result.ty c.attr_at-b.result.ty (omega (arith, c.loop-test.true)) c.attr_at-a.ensures.name c.attr_at-b.ensures.name c.attr_at-a.ensures.required c.attr_at-b.ensures.required c.attr_at-a.ensures.ty c.attr_at-b.ensures.ty c.if-a-b.true ∙ c.loop.invariant.0

pub match_attrs-match_types-requires : goal.match_attrs-match_types-requires
match_attrs-match_types-requires t c =
    let x = good-step (Good c.args.height c.args.memory.now.store.now c.args.memory.now.work.now 0 (length c.args.memory.now.work.now)) (is_stored c.args.p) c.args.memory.now.store.now c.args.memory.now.work.now (length c.args.memory.now.work.now) (c.count-n.result - c.loop.counter) c.loop.e (omega (arith, c.loop-test.true)) c.loop.invariant.1 in
    let y = good-step (Good c.args.height c.args.memory.now.store.now c.args.memory.now.work.now 0 (length c.args.memory.now.work.now)) (is_stored c.args.q) c.args.memory.now.store.now c.args.memory.now.work.now (length c.args.memory.now.work.now) (c.count-n.result - c.loop.counter) c.loop.f (omega (arith, c.loop-test.true)) c.loop.invariant.2 in
    (omega arith, (subst (Good c.args.height c.args.memory.now.store.now c.args.memory.now.work.now 0 (length c.args.memory.now.work.now)) (sym c.attr_at-a.ensures.ty) x.1, subst (Good c.args.height c.args.memory.now.store.now c.args.memory.now.work.now 0 (length c.args.memory.now.work.now)) (sym c.attr_at-b.ensures.ty) y.1))

pub match_attrs-returns-then-not-match_types : goal.match_attrs-returns-then-not-match_types
match_attrs-returns-then-not-match_types t c =
    no-type c.args.rule (decode c.args.height c.args.memory.now.store.now c.args.memory.now.work.now) (is_stored c.args.p) (is_stored c.args.q) c.args.memory.now.store.now c.args.memory.now.work.now (c.count-n.result - c.loop.counter) c.loop.e c.loop.f c.attr_at-a.result.name c.attr_at-b.result.name c.attr_at-a.result.required c.attr_at-b.result.required c.attr_at-a.result.ty c.attr_at-b.result.ty (omega (arith, c.loop-test.true)) c.attr_at-a.ensures.name c.attr_at-b.ensures.name c.attr_at-a.ensures.required c.attr_at-b.ensures.required c.attr_at-a.ensures.ty c.attr_at-b.ensures.ty c.if-not-match_types.ensures ∙ c.loop.invariant.0

pub match_attrs-loop-preserved : goal.match_attrs-loop-preserved
match_attrs-loop-preserved t c =
    let x = good-step (Good c.args.height c.args.memory.now.store.now c.args.memory.now.work.now 0 (length c.args.memory.now.work.now)) (is_stored c.args.p) c.args.memory.now.store.now c.args.memory.now.work.now (length c.args.memory.now.work.now) (c.count-n.result - c.loop.counter) c.loop.e (omega (arith, c.loop-test.true)) c.loop.invariant.1 in
    let y = good-step (Good c.args.height c.args.memory.now.store.now c.args.memory.now.work.now 0 (length c.args.memory.now.work.now)) (is_stored c.args.q) c.args.memory.now.store.now c.args.memory.now.work.now (length c.args.memory.now.work.now) (c.count-n.result - c.loop.counter) c.loop.f (omega (arith, c.loop-test.true)) c.loop.invariant.2 in
    let k = all_same c.args.rule (decode c.args.height c.args.memory.now.store.now c.args.memory.now.work.now) (is_stored c.args.p) (is_stored c.args.q) c.args.memory.now.store.now c.args.memory.now.work.now (c.count-n.result - c.loop.counter) c.loop.e c.loop.f c.attr_at-a.result.name c.attr_at-b.result.name c.attr_at-a.result.required c.attr_at-b.result.required c.attr_at-a.result.ty c.attr_at-b.result.ty (omega (arith, c.loop-test.true)) c.attr_at-a.ensures.name c.attr_at-b.ensures.name c.attr_at-a.ensures.required c.attr_at-b.ensures.required c.attr_at-a.ensures.ty c.attr_at-b.ensures.ty c.if-not-same_names.ensures c.if-a-b.false c.if-not-match_types.ensures ∙ c.loop.invariant.0 in
    let e = c.attr_at-a.ensures.next in
    let f = c.attr_at-b.ensures.next in
    let q = fewer c.count-n.result c.loop.counter in (
      ap (λ n. left c.args.rule (decode c.args.height c.args.memory.now.store.now c.args.memory.now.work.now) (is_stored c.args.p) (is_stored c.args.q) c.args.memory.now.store.now c.args.memory.now.work.now n c.attr_at-a.result.next c.attr_at-b.result.next) (sym q) ∙ (ap₂ (left c.args.rule (decode c.args.height c.args.memory.now.store.now c.args.memory.now.work.now) (is_stored c.args.p) (is_stored c.args.q) c.args.memory.now.store.now c.args.memory.now.work.now (c.count-n.result - c.loop.counter - 1)) e f ∙ k),
      subst (λ n. GoodFrom (Good c.args.height c.args.memory.now.store.now c.args.memory.now.work.now 0 (length c.args.memory.now.work.now)) (is_stored c.args.p) c.args.memory.now.store.now c.args.memory.now.work.now (length c.args.memory.now.work.now) n c.attr_at-a.result.next) q (subst (GoodFrom (Good c.args.height c.args.memory.now.store.now c.args.memory.now.work.now 0 (length c.args.memory.now.work.now)) (is_stored c.args.p) c.args.memory.now.store.now c.args.memory.now.work.now (length c.args.memory.now.work.now) (c.count-n.result - c.loop.counter - 1)) (sym e) x.2),
      subst (λ n. GoodFrom (Good c.args.height c.args.memory.now.store.now c.args.memory.now.work.now 0 (length c.args.memory.now.work.now)) (is_stored c.args.q) c.args.memory.now.store.now c.args.memory.now.work.now (length c.args.memory.now.work.now) n c.attr_at-b.result.next) q (subst (GoodFrom (Good c.args.height c.args.memory.now.store.now c.args.memory.now.work.now 0 (length c.args.memory.now.work.now)) (is_stored c.args.q) c.args.memory.now.store.now c.args.memory.now.work.now (length c.args.memory.now.work.now) (c.count-n.result - c.loop.counter - 1)) (sym f) y.2),
    )

pub match_types-match_kind-requires : goal.match_types-match_kind-requires
match_types-match_kind-requires t c =
    let e = under c.args.height c.if-height-eq0.false in
    (omega arith, (subst (λ h. Good h c.args.memory.now.store.now c.args.memory.now.work.now 0 (length c.args.memory.now.work.now) c.args.v) e c.requires.left, subst (λ h. Good h c.args.memory.now.store.now c.args.memory.now.work.now 0 (length c.args.memory.now.work.now) c.args.u) e c.requires.right))

pub match_types-returns : goal.match_types-returns
match_types-returns t c =
    let e = under c.args.height c.if-height-eq0.false in
    c.match_kind.ensures ∙ ap (λ h. match_type c.args.rule (decode h c.args.memory.now.store.now c.args.memory.now.work.now c.args.v) (decode h c.args.memory.now.store.now c.args.memory.now.work.now c.args.u)) (sym e)
