use Rattle.values.specs.Memory.{numbers}
use Rattle.std.proofs.Common.{ℕ, List, ◌∙◌}
use Rattle.std.proofs.lemmas.Result.{err_from_is_err_and}
use Rattle.spec.specs.Basics.{Text}
use Rattle.spec.specs.Values as s
use Rattle.spec.specs.Evaluate.{has_attr_of}
use Rattle.values.specs.Held.{text_at}
use Rattle.operators.proofs.Operands.{says-bool}
use Rattle.entities.specs.Code.{attr_in}
use Rattle.entities.specs.View.{known}
use Rattle.entities.proofs.Asked.{has-attr}
use Rattle.entities.proofs.env.EnvView.has_attr.Goals as goal

pub returns-in_err-there : goal.returns-in_err-there
returns-in_err-there c =
    let p = err_from_is_err_and c.from_residual.result c.from_residual.ensures.1 in
    let m : List ℕ = numbers c.args.self.now.memory in
    let t : Text = text_at m c.args.name in
    let es : s.Entities = known c.args.self.now in
    rw (p.1, p.2) (λ a S. has-attr a t es ∙ c.in_err-there.ensures c.args.height m (attr_in a t es) (c.seek_attr.ensures a S))

pub returns : goal.returns
returns c a S =
    let m : List ℕ = numbers c.args.self.now.memory in
    let t : Text = text_at m c.args.name in
    let es : s.Entities = known c.args.self.now in
    says-bool c.args.height m c.args.v c.in_ok-there.there (has_attr_of a t es) S.good (has-attr a t es ∙ c.in_ok-there.ensures c.args.height m (attr_in a t es) (c.seek_attr.ensures a S))
