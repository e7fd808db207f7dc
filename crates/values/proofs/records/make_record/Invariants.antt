use Rattle.values.proofs.Fill.{FillingAttrs}
use Rattle.values.proofs.records.make_record.Given as goal

abbrev pub invariant-loop-k : goal.invariant-loop-k
invariant-loop-k l = FillingAttrs l.height l.store l.fn.work l.work l.a l.top l.from l.n l.k
