use Rattle.types.proofs.Means as means
use Rattle.types.proofs.type_rows_mean.Goals as goal

pub returns : goal.returns
returns c = means.type-rows-mean
