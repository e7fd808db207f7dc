use Rattle.entities.proofs.Meant.{request-means}
use Rattle.entities.proofs.request_means.Goals as goal

pub returns : goal.returns
returns c = request-means
