use Rattle.values.specs.Memory.{numbers}
use Rattle.std.proofs.Common.{ℕ, List, ◌∙◌}
use Rattle.std.proofs.lemmas.Result.{err_from_is_err_and}
use Rattle.spec.specs.Values as s
use Rattle.spec.specs.Exprs.{has_tag}
use Rattle.spec.specs.Evaluate.{apply2}
use Rattle.operators.proofs.Operands.{says-bool}
use Rattle.entities.specs.Code.{tag_in}
use Rattle.entities.specs.View.{known}
use Rattle.entities.proofs.Asked.{has-tag}
use Rattle.entities.proofs.env.EnvView.has_tag.Goals as goal

pub returns-in_err-there : goal.returns-in_err-there
returns-in_err-there c =
    let p = err_from_is_err_and c.from_residual.result c.from_residual.ensures.1 in
    let m : List ℕ = numbers c.args.self.now.memory in
    let es : s.Entities = known c.args.self.now in
    rw (p.1, p.2) (λ a b S T. has-tag a b es ∙ c.in_err-there.ensures c.args.height m (tag_in a b es) (c.seek_tag.ensures a b S T))

pub returns : goal.returns
returns c a b S T =
    let m : List ℕ = numbers c.args.self.now.memory in
    let es : s.Entities = known c.args.self.now in
    says-bool c.args.height m c.args.v c.in_ok-there.there (apply2 has_tag a b es) S.good (has-tag a b es ∙ c.in_ok-there.ensures c.args.height m (tag_in a b es) (c.seek_tag.ensures a b S T))
