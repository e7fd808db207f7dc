use Rattle.std.proofs.Common.{◌≡◌, ℕ, ◌+◌, ◌-◌, Bool, get_or}
use Rattle.schema_rows.specs.Lists.{AllFrom}
use Rattle.schema_rows.proofs.Steps.{sought}
use Rattle.schema_rows.proofs.lists.find_in.Given as goal

-- what is left gives what all gives
abbrev pub invariant-loop : goal.invariant-loop
invariant-loop g l =
    ((t : ℕ → Bool) → ((e : ℕ) (b : Bool) → g.T.Listed.lies l.store e → goal.F-post g l.test e b → b ≡ t e)
    → sought t (g.T.Listed.behind l.store) (l.n - l.counter) l.e ≡ sought t (g.T.Listed.behind l.store) (get_or l.store l.p 0) (l.p + 1))
    × AllFrom (g.T.Listed.lies l.store) (g.T.Listed.behind l.store) (l.n - l.counter) l.e
