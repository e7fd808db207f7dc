-- What the code read of an entry, and what it found.
use Rattle.std.specs.Prelude.{◌≡◌, ℕ, suc, Bool, cond, List, [], ◌∷◌, Some, None, Option}
use Rattle.std.proofs.Math.Option as o
use Rattle.spec.specs.Types as s
use Rattle.spec.specs.Types.{EntitySchemaEntry, ActionSchemaEntry}
use Rattle.values.specs.Held.{behind_text}
use Rattle.types.specs.Held.{decode, Good}
use Rattle.types.specs.declared.nodes.CedarType.{CedarType}
use Rattle.schema_rows.specs.Lists.{behind_uid}
use Rattle.schema_rows.specs.Entries.{type_depth, entry_attrs, entry_tags, behind_entry, entry_at, EntryIn, action_resources, action_ancestors, action_context, behind_action, action_at, ActionIn}
use Rattle.schema_rows.specs.declared.entries.Entry.{Entry}
use Rattle.schema_rows.specs.declared.entries.Action.{Action}

pub record EntryIs (m : List ℕ) (e : ℕ) (r : Entry) : Type 0 where
  pub name : r.name ≡ e
  pub ancestors : r.ancestors ≡ behind_text m e
  pub attrs : r.attrs ≡ entry_attrs m e
  pub tags : r.tags ≡ entry_tags m e
  pub next : r.next ≡ behind_entry m e

pub record ActionIs (m : List ℕ) (e : ℕ) (r : Action) : Type 0 where
  pub uid : r.uid ≡ e
  pub principals : r.principals ≡ behind_uid m e
  pub resources : r.resources ≡ action_resources m e
  pub ancestors : r.ancestors ≡ action_ancestors m e
  pub context : r.context ≡ action_context m e
  pub next : r.next ≡ behind_action m e

-- ---- what is found
abbrev pub EntryFound : List ℕ → Option Entry → o.Option EntitySchemaEntry → Type 0
EntryFound m None x = x ≡ o.none
EntryFound m (Some r) x = EntryIs m r.name r × EntryIn m r.name × (x ≡ o.some (entry_at m r.name))

abbrev pub ActionFound : List ℕ → Option Action → o.Option ActionSchemaEntry → Type 0
ActionFound m None x = x ≡ o.none
ActionFound m (Some r) x = ActionIs m r.uid r × ActionIn m r.uid × (x ≡ o.some (action_at m r.uid))

abbrev pub TagFound : List ℕ → Option CedarType → o.Option s.CedarType → Type 0
TagFound m None x = x ≡ o.none
TagFound m (Some v) x = Good (suc type_depth) m [] 0 0 v × (x ≡ o.some (decode (suc type_depth) m [] v))

-- the first that passes
abbrev pub first_that : {A : Type 0} → (A → Bool) → List A → o.Option A
first_that f [] = o.none
first_that f (x ∷ xs) = cond (f x) (o.some x) (first_that f xs)
