use Rattle.laws.proofs.Authorization.{allowed-only-if-permitted}
use Rattle.laws.proofs.allowed_only_if_permitted.Goals as goal

pub returns : goal.returns
returns c = allowed-only-if-permitted
