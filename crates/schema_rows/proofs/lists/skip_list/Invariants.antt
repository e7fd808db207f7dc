use Rattle.std.proofs.Common.{◌≡◌, ◌-◌}
use Rattle.schema_rows.specs.Lists.{past, AllFrom, behind_list}
use Rattle.schema_rows.proofs.lists.skip_list.Given as goal

-- what is left gives what all gives
abbrev pub invariant-loop : goal.invariant-loop
invariant-loop g l =
    (past (g.T.Listed.behind l.store) (l.n - l.counter) l.e ≡ behind_list (g.T.Listed.behind l.store) l.store l.p)
    × AllFrom (g.T.Listed.lies l.store) (g.T.Listed.behind l.store) (l.n - l.counter) l.e
