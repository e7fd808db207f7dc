use Rattle.spec.proofs.Example.{premises}
use Rattle.spec.proofs.two_deeds_premises.Goals as goal

pub returns : goal.returns
returns c = premises
