use Rattle.laws.proofs.Arithmetic.{fails-out-of-bounds}
use Rattle.laws.proofs.fails_out_of_bounds.Goals as goal

pub returns : goal.returns
returns c = fails-out-of-bounds
