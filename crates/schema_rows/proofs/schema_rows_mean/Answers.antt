use Rattle.schema_rows.proofs.Means as means
use Rattle.schema_rows.proofs.schema_rows_mean.Goals as goal

pub returns : goal.returns
returns c = means.schema-rows-mean
