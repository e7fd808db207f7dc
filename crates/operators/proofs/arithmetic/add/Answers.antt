use Rattle.std.proofs.Common.{rules}
use Rattle.spec.specs.Evaluate.{sum}
use Rattle.operators.proofs.Integers.{sum-counts}
use Rattle.operators.proofs.arithmetic.add.Goals as goal

pub returns : goal.returns
returns c h m a b es s t = c.arithmetic.ensures sum (λ i j z fi fj p. search (rules, sum-counts)) h m a b s t
