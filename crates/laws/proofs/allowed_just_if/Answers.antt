use Rattle.laws.proofs.Authorization.{allowed-just-if}
use Rattle.laws.proofs.allowed_just_if.Goals as goal

pub returns : goal.returns
returns c = allowed-just-if
