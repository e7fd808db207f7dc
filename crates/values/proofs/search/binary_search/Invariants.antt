use Rattle.std.proofs.Common.{◌-◌, ◌<◌, ◌≤◌}
use Rattle.std.specs.declared.cmp.Ordering.TheVariants.{Less, Greater}
use Rattle.values.proofs.search.binary_search.Given as goal

-- the one at `high` is known to be too large, and the one before `low` too small
abbrev pub invariant-loop-low : goal.invariant-loop-low
invariant-loop-low g l = record {
  within : l.low ≤ l.high;
  ends : l.high ≤ l.count;
  above : l.high < l.count → goal.F-post g l.compare l.high Less;
  below : 0 < l.low → goal.F-post g l.compare (l.low - 1) Greater;
}

abbrev pub decreases-loop-low : goal.decreases-loop-low
decreases-loop-low g l = l.high - l.low
