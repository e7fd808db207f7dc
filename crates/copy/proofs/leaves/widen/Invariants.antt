use Rattle.std.proofs.Common.{◌≡◌, ◌++◌, take, drop}
use Rattle.copy.proofs.leaves.widen.Given as goal

abbrev pub invariant-loop-i : goal.invariant-loop-i
invariant-loop-i l = l.rows ≡ take l.i l.bytes ++ drop l.i l.fn.rows
