use Rattle.laws.proofs.Arithmetic.{arithmetic-is-exact}
use Rattle.laws.proofs.arithmetic_is_exact.Goals as goal

pub returns : goal.returns
returns c = arithmetic-is-exact
