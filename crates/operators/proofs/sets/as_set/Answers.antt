use Rattle.std.proofs.Common.{subst}
use Rattle.values.specs.Held.{Stands}
use Rattle.operators.proofs.Operands.{is_set, no-set}
use Rattle.operators.proofs.sets.as_set.Goals as goal

pub returns-in_default : goal.returns-in_default
returns-in_default c = record { is = tt; holds = λ h m a s. no-set h m c.args.v a c.in_default.not-Set s }

pub returns : goal.returns
returns c = record { is = c.in-Set.is; holds = λ h m a s. is_set h m c.in-Set.p a (subst (λ v. Stands h m v a) c.in-Set.is s) }
