use Rattle.std.proofs.Common.{ℕ, ◌+◌, Bool, List, get_or, sym, ◌∙◌, subst, rules}
use Rattle.spec.specs.Basics.{same}
use Rattle.spec.specs.Types as s
use Rattle.spec.specs.Types.{entity_type_key}
use Rattle.values.specs.Held.{text_at}
use Rattle.schema_rows.specs.Entries.{entry_at, behind_entry}
use Rattle.schema_rows.specs.Read.{EntryFound}
use Rattle.schema_rows.specs.Schemas.{entries_at, schema_of}
use Rattle.schema_rows.proofs.Steps.{first-found, none-found}
use Rattle.schema_rows.proofs.Places.{find_first, entry_found}
use Rattle.schema_rows.proofs.schemas.Schema.find_entity_type.Goals as goal

pub returns-in_err-e : goal.returns-in_err-e
returns-in_err-e c =
    let m : List ℕ = c.args.self.now.store.now in
    let t : ℕ → Bool = λ e. same (text_at m c.args.name) (text_at m e) in
    let h = c.in_err-e.ensures.first t (λ e b l p. search rules) in
    let p : ℕ = c.args.self.now.entries in
    let f = none-found (λ d. same (text_at m c.args.name) (entity_type_key d)) (entry_at m) (behind_entry m) (get_or m p 0) (p + 1) (sym h) in
    subst (λ r. EntryFound m r (s.find_entity_type (text_at m c.args.name) (schema_of c.args.self.now))) (sym c.from_residual.ensures) (find_first entity_type_key (text_at m c.args.name) (entries_at m p) ∙ f)

pub returns : goal.returns
returns c =
    let m : List ℕ = c.args.self.now.store.now in
    let t : ℕ → Bool = λ e. same (text_at m c.args.name) (text_at m e) in
    let p : ℕ = c.args.self.now.entries in
    let h = c.in_ok-e.ensures.first t (λ e b l p. search rules) in
    let f = first-found (λ d. same (text_at m c.args.name) (entity_type_key d)) (entry_at m) (behind_entry m) (get_or m p 0) (p + 1) c.in_ok-e.e (sym h) in
    entry_found m c.in_ok-e.e c.entry_at.result _ c.entry_at.ensures c.in_ok-e.ensures.lies (find_first entity_type_key (text_at m c.args.name) (entries_at m p) ∙ f)
