use Rattle.std.proofs.Common.{◌≡◌, ℕ, ◌+◌, ◌-◌, ◌<◌, ◌≤◌, List, get_or, sym, ap, ◌∙◌, subst, arith}
use Rattle.schema_rows.specs.Lists.{past, AllFrom}
use Rattle.schema_rows.proofs.Steps.{past-step, past-none, all_here, all-next}
use Rattle.schema_rows.proofs.lists.skip_list.Goals as goal

pub loop-init : goal.loop-init
loop-init g c =
    let m : List ℕ = c.args.store.now in
    let z : get_or m c.args.p 0 ≡ get_or m c.args.p 0 - 0 = omega arith in
    (ap (λ k. past (g.T.Listed.behind m) k (c.args.p + 1)) (sym z), subst (λ k. AllFrom (g.T.Listed.lies m) (g.T.Listed.behind m) k (c.args.p + 1)) z c.requires.each)

pub skip-e-requires : goal.skip-e-requires
skip-e-requires g c =
    let m : List ℕ = c.args.store.now in
    let next : ℕ → ℕ = g.T.Listed.behind m in
    let n : ℕ = get_or m c.args.p 0 in
    let k : ℕ = n - c.loop.counter in
    let l : 0 < k = omega (arith, c.loop-test.true) in
    all_here (g.T.Listed.lies m) next k c.loop.e l c.loop.invariant.1

pub loop-preserved : goal.loop-preserved
loop-preserved g c =
    let m : List ℕ = c.args.store.now in
    let next : ℕ → ℕ = g.T.Listed.behind m in
    let n : ℕ = get_or m c.args.p 0 in
    let k : ℕ = n - c.loop.counter in
    let l : 0 < k = omega (arith, c.loop-test.true) in
    let i : n - (c.loop.counter + 1) ≡ k - 1 = omega arith in (
      past-step next k c.loop.e c.skip-e.result (n - (c.loop.counter + 1)) l c.skip-e.ensures i ∙ c.loop.invariant.0,
      all-next (g.T.Listed.lies m) next k c.loop.e c.skip-e.result (n - (c.loop.counter + 1)) l c.skip-e.ensures i c.loop.invariant.1,
    )

pub returns : goal.returns
returns g c =
    let m : List ℕ = c.args.store.now in
    let next : ℕ → ℕ = g.T.Listed.behind m in
    let n : ℕ = get_or m c.args.p 0 in
    let k : ℕ = n - c.loop.counter in
    let l : k ≤ 0 = omega (arith, c.loop-test.false) in
    sym (past-none next k c.loop.e l) ∙ c.loop.invariant.0
