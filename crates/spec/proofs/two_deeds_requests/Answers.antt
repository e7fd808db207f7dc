use Rattle.spec.proofs.Example.{requests}
use Rattle.spec.proofs.two_deeds_requests.Goals as goal

pub returns : goal.returns
returns c = requests
