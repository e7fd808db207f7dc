use Rattle.entities.proofs.Meant.{request-grows}
use Rattle.entities.proofs.request_grows.Goals as goal

pub returns : goal.returns
returns c = request-grows
