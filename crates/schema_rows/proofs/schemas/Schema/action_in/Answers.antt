use Rattle.std.proofs.Common.{ℕ, ◌+◌, List, ◌||◌, get_or, sym, ap, ◌∙◌, rules}
use Rattle.spec.specs.Basics.{any}
use Rattle.spec.specs.Values.{same_uid}
use Rattle.spec.specs.Types.{find_action}
use Rattle.spec.specs.Typecheck.{action_ancestors as ancestors_of}
use Rattle.values.specs.Held.{uid_at}
use Rattle.schema_rows.specs.Lists.{list_at, behind_uid}
use Rattle.schema_rows.specs.Schemas.{schema_of}
use Rattle.schema_rows.proofs.Steps.{any-places}
use Rattle.schema_rows.proofs.schemas.Schema.action_in.Goals as goal

pub returns : goal.returns
returns c =
    let m : List ℕ = c.args.self.now.store.now in
    let x = c.in-Some.ensures in
    let a = c.in-Some.action.ancestors in
    let f = same_uid (uid_at m c.args.v) in
    c.any_in.ensures (λ e. f (uid_at m e)) (λ e b l p. search rules)
    ∙ any-places f (uid_at m) (behind_uid m) (get_or m a 0) (a + 1)
    ∙ ap (λ k. any f (list_at (uid_at m) (behind_uid m) m k)) x.0.ancestors
    ∙ sym (ap (λ o. any f (ancestors_of o)) x.2)
    ∙ ap (λ b. b || any f (ancestors_of (find_action (uid_at m c.args.u) (schema_of c.args.self.now)))) c.if-same_entities.ensures
