use Rattle.std.proofs.Common.{arith}
use Rattle.values.proofs.Examples.{the-record}
use Rattle.values.proofs.tests.a_stored_record.Goals as goal

pub attribute-requires : goal.attribute-requires
attribute-requires g c = record { whole = the-record; text = omega arith }

pub attribute-requires-2 : goal.attribute-requires-2
attribute-requires-2 g c = record { whole = the-record; text = omega arith }
