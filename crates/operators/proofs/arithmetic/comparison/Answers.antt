use Rattle.std.proofs.Common.{◌≡◌, FitsSigned, ℕ, ℤ, sym, ap, ◌∙◌, w64, to_z, of_z, rules}
use Rattle.spec.specs.Basics.{Except, ok}
use Rattle.spec.specs.Values.{Value}
use Rattle.spec.specs.Evaluate.{Error, of_bool, with_ints}
use Rattle.values.specs.Held.{raised}
use Rattle.operators.proofs.Operands.{with-ints, says-bool}
use Rattle.operators.proofs.arithmetic.comparison.Goals as goal

pub returns : goal.returns
returns g c o f h m a b s t =
    let i : ℤ = to_z w64 (of_z w64 c.in_ok-i.i) in
    let j : ℤ = to_z w64 (of_z w64 c.in_ok-j.j) in
    let fi : FitsSigned w64 (to_z w64 (of_z w64 c.in_ok-i.i)) = search rules in
    let fj : FitsSigned w64 (to_z w64 (of_z w64 c.in_ok-j.j)) = search rules in
    let ei : c.in_ok-i.i ≡ to_z w64 (of_z w64 c.in_ok-i.i) = search rules in
    let ej : c.in_ok-j.j ≡ to_z w64 (of_z w64 c.in_ok-j.j) = search rules in
    let p : ℕ → ℕ → Except Error Value = λ x y. ok (of_bool (o x y)) in
    says-bool h m c.args.v c.f.result (with_ints a b p) s.good (with-ints p a b i j (c.in_ok-i.ensures h m a s ∙ ap (λ z. ok (raised z)) ei) (c.in_ok-j.ensures h m b t ∙ ap (λ z. ok (raised z)) ej) ∙ ap (λ x. ok (of_bool x)) (sym (f i j c.f.result fi fj c.f.ensures)))
