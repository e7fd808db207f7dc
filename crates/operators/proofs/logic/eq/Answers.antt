use Rattle.values.specs.Memory.{numbers}
use Rattle.std.proofs.Common.{◌≡◌, ℕ, List, sym, ap, ◌∙◌, ap₂}
use Rattle.spec.specs.Basics.{ok}
use Rattle.spec.specs.Values.{same_value}
use Rattle.spec.specs.Evaluate.{of_bool}
use Rattle.operators.proofs.Operands.{says-bool}
use Rattle.operators.proofs.logic.eq.Goals as goal

pub returns : goal.returns
returns c a b es s t =
    let m : List ℕ = numbers c.args.memory.now in
    let e : same_value a b ≡ c.equal.result = ap₂ same_value (sym s.is) (sym t.is) ∙ sym c.equal.ensures in
    says-bool c.args.height m c.args.v c.equal.result (ok (of_bool (same_value a b))) s.good (ap (λ x. ok (of_bool x)) e)
