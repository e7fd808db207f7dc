use Rattle.types.proofs.Means as means
use Rattle.types.proofs.types_stay.Goals as goal

pub returns : goal.returns
returns c = means.types-stay
