use Rattle.laws.proofs.Authorization.{one-more-policy}
use Rattle.laws.proofs.one_more_policy.Goals as goal

pub returns : goal.returns
returns c = one-more-policy
