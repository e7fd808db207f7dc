use Rattle.std.proofs.Common.{ltb, rules}
use Rattle.operators.proofs.arithmetic.less.Goals as goal

pub returns : goal.returns
returns c h m a b es s t = c.comparison.ensures ltb (λ i j r fi fj p. search rules) h m a b s t
