use Rattle.exprs.proofs.Means.{rows-mean}
use Rattle.exprs.proofs.rows_mean.Goals as goal

pub returns : goal.returns
returns c = rows-mean
