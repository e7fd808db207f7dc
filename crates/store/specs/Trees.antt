-- A store of trees as it stands in memory: each tree is an item, and what a call changes in the one it changes in the other. Assumes nothing: these are definitions.
use Rattle.std.specs.Prelude.{◌≡◌, ℕ, ◌+◌, ◌*◌, ◌≤◌, List, map, length}
use Rattle.spec.specs.Basics.{Text, find}
use Rattle.spec.specs.Values.{EntityUID, Entity, code_uid, entity_key}
use Rattle.spec.specs.Policies.{Policy, policy_key}
use Rattle.spec.specs.Types.{Schema}
use Rattle.spec.specs.Calls.{Store, empty_store, set_schema, put_policy, remove_policy, put_entity, remove_entity, changed, size_policy, size_entity, size_schema, size_store}
use Rattle.rows.specs.Rows.{row_policy, row_entity, row_schema}
use Rattle.shelves.specs.Items.{Item, id_key, IdIn, uid_key, UidIn}
use Rattle.shelves.specs.Mapped.{on_some}
use Rattle.store.specs.Sections.{Sections, empty, size_of, Kept}
use Rattle.store.specs.Changes.{with_schema, with_policy, without_policy, with_entity, without_entity}

abbrev pub policy_item : Policy → Item
policy_item p = record { size = size_policy p; row = row_policy p }

abbrev pub entity_item : Entity → Item
entity_item e = record { size = size_entity e; row = row_entity e }

abbrev pub schema_item : Schema → Item
schema_item d = record { size = size_schema d; row = row_schema d }

-- a store within a capacity, with how many entities do not fit the schema and how many of its actions are missing
abbrev pub sections_of : ℕ → Store → ℕ → ℕ → Sections
sections_of capacity s unfit missing = record {
  capacity = capacity;
  schema_size = size_schema s.schema;
  schema = row_schema s.schema;
  policies = map policy_item s.policies;
  entities = map entity_item s.entities;
  unfit = unfit;
  missing = missing;
}

pub record TreesAreItems : Type 0 where
  -- each has its key at the begin of its row, and the row is bounded
  pub policy-kept : (p : Policy) → Kept IdIn (policy_item p)
  pub policy-key : (p : Policy) → id_key (policy_item p) ≡ policy_key p
  pub entity-kept : (e : Entity) → Kept UidIn (entity_item e)
  pub entity-key : (e : Entity) → uid_key (entity_item e) ≡ entity_key e
  pub schema-bounded : (d : Schema) → length (row_schema d) ≤ 4 * size_schema d + 2
  -- what is there, and how large all is
  pub policy-found : (t : Text) (ps : List Policy) → find id_key t (map policy_item ps) ≡ on_some policy_item (find policy_key t ps)
  pub entity-found : (t : Text) (es : List Entity) → find uid_key t (map entity_item es) ≡ on_some entity_item (find entity_key t es)
  pub size_is : (c u k : ℕ) (s : Store) → size_of (sections_of c s u k) ≡ size_store s
  -- what a call changes
  pub begins : (c : ℕ) → empty c ≡ sections_of c empty_store 0 0
  pub schema-set : (c u k : ℕ) (s : Store) (d : Schema) → with_schema (schema_item d) (sections_of c s u k) ≡ sections_of c (changed s (set_schema d)) u k
  pub policy-put : (c u k : ℕ) (s : Store) (p : Policy) → with_policy (policy_item p) (sections_of c s u k) ≡ sections_of c (changed s (put_policy p)) u k
  pub policy-removed : (c u k : ℕ) (s : Store) (t : Text) → without_policy t (sections_of c s u k) ≡ sections_of c (changed s (remove_policy t)) u k
  pub entity-put : (c u k : ℕ) (s : Store) (e : Entity) → with_entity (entity_item e) (sections_of c s u k) ≡ sections_of c (changed s (put_entity e)) u k
  pub entity-removed : (c u k : ℕ) (s : Store) (n : EntityUID) → without_entity (code_uid n) (sections_of c s u k) ≡ sections_of c (changed s (remove_entity n)) u k
