use Rattle.std.proofs.Common.{ℕ, ◌+◌, List, ◌||◌, get_or, sym, ap, ◌∙◌, rules}
use Rattle.spec.specs.Basics.{any, same}
use Rattle.spec.specs.Types.{find_entity_type}
use Rattle.spec.specs.Typecheck.{ancestor_types}
use Rattle.values.specs.Held.{text_at, behind_text}
use Rattle.schema_rows.specs.Lists.{list_at}
use Rattle.schema_rows.specs.Entries.{action_at, behind_action, of_below}
use Rattle.schema_rows.specs.Schemas.{schema_of}
use Rattle.schema_rows.proofs.Steps.{any-places}
use Rattle.schema_rows.proofs.schemas.Schema.descendant_of.Goals as goal

pub returns-in-Some : goal.returns-in-Some
returns-in-Some c =
    let m : List ℕ = c.args.self.now.store.now in
    let x = c.in-Some.ensures in
    let a = c.in-Some.entry.ancestors in
    let t = text_at m c.args.t in
    let u = text_at m c.args.u in
    c.any_in.ensures (λ e. same u (text_at m e)) (λ e b l p. search rules)
    ∙ any-places (same u) (text_at m) (behind_text m) (get_or m a 0) (a + 1)
    ∙ ap (λ k. any (same u) (list_at (text_at m) (behind_text m) m k)) x.0.ancestors
    ∙ sym (ap (λ o. ancestor_types o t u (schema_of c.args.self.now)) x.2)
    ∙ ap (λ b. b || ancestor_types (find_entity_type t (schema_of c.args.self.now)) t u (schema_of c.args.self.now)) c.if-same_names.ensures

pub returns : goal.returns
returns c =
    let m : List ℕ = c.args.self.now.store.now in
    let p : ℕ = c.args.self.now.actions in
    let t = text_at m c.args.t in
    let u = text_at m c.args.u in
    c.any_in-2.ensures (λ e. of_below t u (action_at m e)) (λ e b l p. search rules)
    ∙ any-places (of_below t u) (action_at m) (behind_action m) (get_or m p 0) (p + 1)
    ∙ sym (ap (λ o. ancestor_types o t u (schema_of c.args.self.now)) c.in_default.ensures)
    ∙ ap (λ b. b || ancestor_types (find_entity_type t (schema_of c.args.self.now)) t u (schema_of c.args.self.now)) c.if-same_names.ensures
