use Rattle.std.proofs.Common.{not, ap, subst}
use Rattle.spec.specs.Basics.{ok, ◌>>=◌}
use Rattle.spec.specs.Evaluate.{of_bool, as_bool}
use Rattle.values.specs.Held.{Stands}
use Rattle.operators.proofs.Operands.{is-bool, no_bool, says-bool}
use Rattle.operators.proofs.logic.not.Goals as goal

pub returns : goal.returns
returns c h m a s =
    says-bool h m c.args.v (not c.in-Bool.b) (as_bool a >>= (λ b. ok (of_bool (not b)))) s.good
    (ap (λ o. o >>= (λ b. ok (of_bool (not b)))) (is-bool h m c.in-Bool.b a (subst (λ v. Stands h m v a) c.in-Bool.is s)))

pub returns-in_default : goal.returns-in_default
returns-in_default c h m a s = ap (λ o. o >>= (λ b. ok (of_bool (not b)))) (no_bool h m c.args.v a c.in_default.not-Bool s)
