use Rattle.values.specs.Memory.{numbers}
use Rattle.std.proofs.Common.{ℕ, List, sym, ◌∙◌, subst}
use Rattle.std.proofs.lemmas.Result.{err_from_is_err_and}
use Rattle.spec.specs.Values as s
use Rattle.operators.specs.Code.{Says}
use Rattle.operators.specs.declared.errors.EvalError.TheVariants.{TagDoesNotExist}
use Rattle.entities.specs.Code.{tag_in}
use Rattle.entities.specs.View.{known}
use Rattle.entities.proofs.Asked.{gets-tag, got, failed}
use Rattle.entities.proofs.env.EnvView.get_tag.Goals as goal

pub returns-in_err-found : goal.returns-in_err-found
returns-in_err-found c =
    let p = err_from_is_err_and c.from_residual.result c.from_residual.ensures.1 in
    let m : List ℕ = numbers c.args.self.now.memory in
    let es : s.Entities = known c.args.self.now in
    rw (p.1, p.2) (λ a b S T. gets-tag a b es ∙ failed c.args.height m (tag_in a b es) _ TagDoesNotExist (c.in_err-found.ensures a b S T))

pub returns : goal.returns
returns c a b S T =
    let m : List ℕ = numbers c.args.self.now.memory in
    let es : s.Entities = known c.args.self.now in
    rw c.ok_or.ensures.value (subst (Says c.args.height m _) (sym (gets-tag a b es)) (got c.args.height m (tag_in a b es) TagDoesNotExist c.in_ok-found.found (c.in_ok-found.ensures a b S T)))
