use Rattle.operators.proofs.Examples.{the-set}
use Rattle.operators.proofs.tests.a_stored_set.Goals as goal

pub contains-requires : goal.contains-requires
contains-requires g c = record { left = the-set; right = tt }

pub contains-requires-2 : goal.contains-requires-2
contains-requires-2 g c = record { left = the-set; right = tt }

pub contains_all-requires : goal.contains_all-requires
contains_all-requires g c = record { left = the-set; right = the-set }

pub contains_any-requires : goal.contains_any-requires
contains_any-requires g c = record { left = the-set; right = the-set }

pub contains_any-requires-2 : goal.contains_any-requires-2
contains_any-requires-2 g c = record { left = the-set; right = tt }

pub is_empty-requires : goal.is_empty-requires
is_empty-requires g c = record { good = the-set }
