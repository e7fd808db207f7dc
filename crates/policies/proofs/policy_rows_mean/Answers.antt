use Rattle.policies.proofs.Means.{policy-rows-mean}
use Rattle.policies.proofs.policy_rows_mean.Goals as goal

pub returns : goal.returns
returns c = policy-rows-mean
