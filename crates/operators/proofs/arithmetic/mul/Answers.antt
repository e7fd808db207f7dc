use Rattle.std.proofs.Common.{rules}
use Rattle.spec.specs.Evaluate.{product}
use Rattle.operators.proofs.Integers.{product-counts}
use Rattle.operators.proofs.arithmetic.mul.Goals as goal

pub returns : goal.returns
returns c h m a b es s t = c.arithmetic.ensures product (λ i j z fi fj p. search (rules, product-counts)) h m a b s t
