use Rattle.entities.proofs.Meant.{entities-mean}
use Rattle.entities.proofs.entities_mean.Goals as goal

pub returns : goal.returns
returns c = entities-mean
