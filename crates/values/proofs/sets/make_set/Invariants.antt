use Rattle.values.proofs.Fill.{Filling}
use Rattle.values.proofs.sets.make_set.Given as goal

abbrev pub invariant-loop-k : goal.invariant-loop-k
invariant-loop-k l = Filling l.height l.store l.fn.work l.work l.a l.top l.from l.n l.k
