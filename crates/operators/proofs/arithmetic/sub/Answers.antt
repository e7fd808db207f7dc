use Rattle.std.proofs.Common.{rules}
use Rattle.spec.specs.Evaluate.{difference}
use Rattle.operators.proofs.Integers.{difference-counts}
use Rattle.operators.proofs.arithmetic.sub.Goals as goal

pub returns : goal.returns
returns c h m a b es s t = c.arithmetic.ensures difference (λ i j z fi fj p. search (rules, difference-counts)) h m a b s t
