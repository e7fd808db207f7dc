use Rattle.spec.proofs.Example.{validation}
use Rattle.spec.proofs.two_deeds_validation.Goals as goal

pub returns : goal.returns
returns c = validation
