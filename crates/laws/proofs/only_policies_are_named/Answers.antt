use Rattle.laws.proofs.Authorization.{only-policies-are-named}
use Rattle.laws.proofs.only_policies_are_named.Goals as goal

pub returns : goal.returns
returns c = only-policies-are-named
