use Rattle.std.proofs.Common.{leb, rules}
use Rattle.operators.proofs.arithmetic.less_eq.Goals as goal

pub returns : goal.returns
returns c h m a b es s t = c.comparison.ensures leb (λ i j r fi fj p. search rules) h m a b s t
