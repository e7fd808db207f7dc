-- A schema as it lies in the store.
use Rattle.std.specs.Prelude.{◌≡◌, ℕ, true, List}
use Rattle.spec.specs.Types as s
use Rattle.spec.specs.Types.{EntitySchemaEntry, ActionSchemaEntry}
use Rattle.spec.specs.Validate.{well_formed}
use Rattle.spec.specs.Calls.{encodable, set_schema}
use Rattle.rows.specs.Rows.{row_schema}
use Rattle.values.specs.Stored.{LiesAt}
use Rattle.schema_rows.specs.Lists.{list_at, behind_list}
use Rattle.schema_rows.specs.Entries.{behind_entry, entry_at, EntriesIn, behind_action, action_at, ActionsIn}
use Rattle.schema_rows.specs.declared.schemas.Schema.{Schema}

-- ---- the schema
abbrev pub entries_at : List ℕ → ℕ → List EntitySchemaEntry
entries_at m p = list_at (entry_at m) (behind_entry m) m p

abbrev pub actions_at : List ℕ → ℕ → List ActionSchemaEntry
actions_at m p = list_at (action_at m) (behind_action m) m p

abbrev pub schema_actions : List ℕ → ℕ → ℕ
schema_actions m p = behind_list (behind_entry m) m p

abbrev pub schema_at : List ℕ → ℕ → s.Schema
schema_at m p = record { ets = entries_at m p; acts = actions_at m (schema_actions m p) }

pub record SchemaIn (m : List ℕ) (p : ℕ) : Type 0 where
  pub entries : EntriesIn m p
  pub actions : ActionsIn m (schema_actions m p)

-- by the places of its two lists
abbrev pub schema_of : Schema → s.Schema
schema_of c = record { ets = entries_at c.store.now c.entries; acts = actions_at c.store.now c.actions }

-- the row of a schema that was taken is that schema, wherever it lies
abbrev pub SchemaRowsMean : Type 0
SchemaRowsMean = (s : s.Schema) (m : List ℕ) (p : ℕ) → well_formed s ≡ true → encodable (set_schema s) ≡ true → LiesAt m p (row_schema s) → SchemaIn m p × (schema_at m p ≡ s)
