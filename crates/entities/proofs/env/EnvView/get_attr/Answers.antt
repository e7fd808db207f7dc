use Rattle.values.specs.Memory.{numbers}
use Rattle.std.proofs.Common.{ℕ, List, sym, ◌∙◌, subst}
use Rattle.std.proofs.lemmas.Result.{err_from_is_err_and}
use Rattle.spec.specs.Basics.{Text}
use Rattle.spec.specs.Values as s
use Rattle.values.specs.Held.{text_at}
use Rattle.operators.specs.Code.{Says}
use Rattle.operators.specs.declared.errors.EvalError.TheVariants.{AttrDoesNotExist}
use Rattle.entities.specs.Code.{attr_in}
use Rattle.entities.specs.View.{known}
use Rattle.entities.proofs.Asked.{gets-attr, got, failed}
use Rattle.entities.proofs.env.EnvView.get_attr.Goals as goal

pub returns-in_err-found : goal.returns-in_err-found
returns-in_err-found c =
    let p = err_from_is_err_and c.from_residual.result c.from_residual.ensures.1 in
    let m : List ℕ = numbers c.args.self.now.memory in
    let t : Text = text_at m c.args.name in
    let es : s.Entities = known c.args.self.now in
    rw (p.1, p.2) (λ a S. gets-attr a t es ∙ failed c.args.height m (attr_in a t es) _ AttrDoesNotExist (c.in_err-found.ensures a S))

pub returns : goal.returns
returns c a S =
    let m : List ℕ = numbers c.args.self.now.memory in
    let t : Text = text_at m c.args.name in
    let es : s.Entities = known c.args.self.now in
    rw c.ok_or.ensures.value (subst (Says c.args.height m _) (sym (gets-attr a t es)) (got c.args.height m (attr_in a t es) AttrDoesNotExist c.in_ok-found.found (c.in_ok-found.ensures a S)))
