use Rattle.std.proofs.Common.{Ok, subst}
use Rattle.spec.specs.Basics.{ok}
use Rattle.spec.specs.Evaluate.{of_bool}
use Rattle.operators.specs.Code.{Says}
use Rattle.evaluator.proofs.Steps.{not_bool, just-bool}
use Rattle.evaluator.proofs.apply.just_bool.Goals as goal

pub returns-in_default : goal.returns-in_default
returns-in_default c h m o d = not_bool h m c.in_ok-b.field-0 o (λ b. ok (of_bool b)) c.in_default.not-Bool (subst (λ r. Says h m r o) c.in_ok-b.was d)

pub returns : goal.returns
returns c h m o d = just-bool h m c.in-Bool.b o (subst (λ v. Says h m (Ok v) o) c.in-Bool.is (subst (λ r. Says h m r o) c.in_ok-b.was d))
