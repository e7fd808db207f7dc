use Rattle.laws.proofs.Codes.{values-are-ordered}
use Rattle.laws.proofs.values_are_ordered.Goals as goal

pub returns : goal.returns
returns c = values-are-ordered
