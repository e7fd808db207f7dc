use Rattle.laws.proofs.Authorization.{forbid-overrides-permit}
use Rattle.laws.proofs.forbid_overrides_permit.Goals as goal

pub returns : goal.returns
returns c = forbid-overrides-permit
