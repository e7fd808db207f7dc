use Rattle.rows.proofs.Bounds.{rows-are-bounded}
use Rattle.rows.proofs.rows_are_bounded.Goals as goal

pub returns : goal.returns
returns c = rows-are-bounded
