use Rattle.laws.proofs.Authorization.{deny-by-default}
use Rattle.laws.proofs.deny_by_default.Goals as goal

pub returns : goal.returns
returns c = deny-by-default
