use Rattle.std.proofs.Common.{ℕ, ◌+◌, Bool, List, get_or, ◌∙◌, rules}
use Rattle.spec.specs.Basics.{same}
use Rattle.values.specs.Held.{text_at}
use Rattle.schema_rows.specs.Entries.{action_at, behind_action}
use Rattle.schema_rows.proofs.Steps.{any-places}
use Rattle.schema_rows.proofs.schemas.Schema.is_action_type.Goals as goal

pub returns : goal.returns
returns c =
    let m : List ℕ = c.args.self.now.store.now in
    let p : ℕ = c.args.self.now.actions in
    let t : ℕ → Bool = λ e. same (text_at m c.args.name) (text_at m e) in
    c.any_in.ensures t (λ e b l p. search rules) ∙ any-places (λ a. same (text_at m c.args.name) a.uid.ty) (action_at m) (behind_action m) (get_or m p 0) (p + 1)
