use Rattle.values.proofs.Examples.{the-set}
use Rattle.values.proofs.tests.a_stored_set.Goals as goal

pub contains-requires : goal.contains-requires
contains-requires g c = record { whole = the-set; value = tt }

pub contains-requires-2 : goal.contains-requires-2
contains-requires-2 g c = record { whole = the-set; value = tt }
