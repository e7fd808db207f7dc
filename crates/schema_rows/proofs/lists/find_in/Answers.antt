use Rattle.std.proofs.Common.{◌≡◌, ℕ, ◌+◌, ◌-◌, ◌<◌, ◌≤◌, List, get_or, sym, ap, ◌∙◌, subst, arith}
use Rattle.schema_rows.specs.Lists.{AllFrom}
use Rattle.schema_rows.proofs.Steps.{all_here, all-next, sought, sought_here, sought-on, sought_none}
use Rattle.schema_rows.proofs.lists.find_in.Goals as goal

pub loop-init : goal.loop-init
loop-init g c =
    let m : List ℕ = c.args.store.now in
    let z : get_or m c.args.p 0 ≡ get_or m c.args.p 0 - 0 = omega arith in
    (λ t a. ap (λ k. sought t (g.T.Listed.behind m) k (c.args.p + 1)) (sym z), subst (λ k. AllFrom (g.T.Listed.lies m) (g.T.Listed.behind m) k (c.args.p + 1)) z c.requires.list.each)

pub test-requires : goal.test-requires
test-requires g c =
    let m : List ℕ = c.args.store.now in
    let next : ℕ → ℕ = g.T.Listed.behind m in
    let n : ℕ = get_or m c.args.p 0 in
    let k : ℕ = n - c.loop.counter in
    let l : 0 < k = omega (arith, c.loop-test.true) in
    c.requires.test c.loop.e (all_here (g.T.Listed.lies m) next k c.loop.e l c.loop.invariant.1)

pub returns-then-test : goal.returns-then-test
returns-then-test g c =
    let m : List ℕ = c.args.store.now in
    let next : ℕ → ℕ = g.T.Listed.behind m in
    let n : ℕ = get_or m c.args.p 0 in
    let k : ℕ = n - c.loop.counter in
    let l : 0 < k = omega (arith, c.loop-test.true) in
    let x = all_here (g.T.Listed.lies m) next k c.loop.e l c.loop.invariant.1 in
    record { lies = x; first = λ t a. sym (sought_here t next k c.loop.e l (a c.loop.e _ x c.if-test.ensures)) ∙ c.loop.invariant.0 t a }

pub skip-e-requires : goal.skip-e-requires
skip-e-requires g c =
    let m : List ℕ = c.args.store.now in
    let next : ℕ → ℕ = g.T.Listed.behind m in
    let n : ℕ = get_or m c.args.p 0 in
    let k : ℕ = n - c.loop.counter in
    let l : 0 < k = omega (arith, c.loop-test.true) in
    all_here (g.T.Listed.lies m) next k c.loop.e l c.loop.invariant.1

pub loop-preserved : goal.loop-preserved
loop-preserved g c =
    let m : List ℕ = c.args.store.now in
    let next : ℕ → ℕ = g.T.Listed.behind m in
    let n : ℕ = get_or m c.args.p 0 in
    let k : ℕ = n - c.loop.counter in
    let l : 0 < k = omega (arith, c.loop-test.true) in
    let x = all_here (g.T.Listed.lies m) next k c.loop.e l c.loop.invariant.1 in
    let i : n - (c.loop.counter + 1) ≡ k - 1 = omega arith in (
      λ t a. sought-on t next k c.loop.e c.skip-e.result (n - (c.loop.counter + 1)) l c.skip-e.ensures i (a c.loop.e _ x c.if-test.ensures) ∙ c.loop.invariant.0 t a,
      all-next (g.T.Listed.lies m) next k c.loop.e c.skip-e.result (n - (c.loop.counter + 1)) l c.skip-e.ensures i c.loop.invariant.1,
    )

pub returns : goal.returns
returns g c =
    let m : List ℕ = c.args.store.now in
    let next : ℕ → ℕ = g.T.Listed.behind m in
    let n : ℕ = get_or m c.args.p 0 in
    let k : ℕ = n - c.loop.counter in
    let l : k ≤ 0 = omega (arith, c.loop-test.false) in
    record { lies = tt; first = λ t a. sym (sought_none t next k c.loop.e l) ∙ c.loop.invariant.0 t a }
