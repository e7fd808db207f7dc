use Rattle.values.proofs.Means.{rows-mean}
use Rattle.values.proofs.rows_mean.Goals as goal

pub returns : goal.returns
returns c = rows-mean
