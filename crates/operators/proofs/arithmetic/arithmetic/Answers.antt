use Rattle.std.proofs.Common.{◌≡◌, FitsSigned, ℤ, sym, ap, ◌∙◌, subst, w64, to_z, of_z, rules}
use Rattle.spec.specs.Basics.{ok}
use Rattle.spec.specs.Evaluate.{with_ints}
use Rattle.values.specs.Held.{raised}
use Rattle.operators.specs.Code.{Says}
use Rattle.operators.proofs.Operands.{with-ints, says-int}
use Rattle.operators.proofs.arithmetic.arithmetic.Goals as goal

pub returns : goal.returns
returns g c o f h m a b s t =
    let i : ℤ = to_z w64 (of_z w64 c.in_ok-i.i) in
    let j : ℤ = to_z w64 (of_z w64 c.in_ok-j.j) in
    let fi : FitsSigned w64 (to_z w64 (of_z w64 c.in_ok-i.i)) = search rules in
    let fj : FitsSigned w64 (to_z w64 (of_z w64 c.in_ok-j.j)) = search rules in
    let ei : c.in_ok-i.i ≡ to_z w64 (of_z w64 c.in_ok-i.i) = search rules in
    let ej : c.in_ok-j.j ≡ to_z w64 (of_z w64 c.in_ok-j.j) = search rules in
    subst (λ r. Says h m r (with_ints a b o)) (sym c.in_bounds.ensures) (says-int h m c.args.v c.f.result (o (raised i) (raised j)) (with_ints a b o) s.good (f i j c.f.result fi fj c.f.ensures) (with-ints o a b i j (c.in_ok-i.ensures h m a s ∙ ap (λ z. ok (raised z)) ei) (c.in_ok-j.ensures h m b t ∙ ap (λ z. ok (raised z)) ej)))
