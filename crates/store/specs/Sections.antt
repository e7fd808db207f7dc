-- A store in memory: what stands in it, how it is laid out, and when memory is in order. Nothing is known here of policies and entities but that their rows
-- begin with their keys. Assumes nothing: these are definitions.
use Rattle.std.specs.Prelude.{◌≡◌, ℕ, ◌+◌, ◌-◌, ◌*◌, ◌/◌, ◌≤◌, true, List, [], ◌∷◌, ◌++◌, length, drop, slice_index}
use Rattle.spec.specs.Basics.{ascending}
use Rattle.spec.specs.Calls.{empty_store}
use Rattle.rows.specs.Rows.{row_schema}
use Rattle.values.specs.Held.{part}
use Rattle.shelves.specs.Items.{Item, laid, items_at, sizes, offsets, id_key, IdIn, uid_key, UidIn, Each}

-- ---- what stands in a store
pub record Sections : Type 0 where
  pub capacity : ℕ
  pub schema_size : ℕ
  pub schema : List ℕ  -- its row
  pub policies : List Item
  pub entities : List Item
  pub unfit : ℕ  -- how many entities do not fit the schema
  pub missing : ℕ  -- how many actions of the schema are not among the entities

abbrev pub empty : ℕ → Sections
empty capacity = record { capacity = capacity; schema_size = 0; schema = row_schema empty_store.schema; policies = []; entities = []; unfit = 0; missing = 0 }

abbrev pub size_of : Sections → ℕ
size_of s = s.schema_size + (sizes s.policies + sizes s.entities)

-- ---- where it stands: ten numbers, the schema's row, the policies, the entities; and the table of the entities' places behind all that rows can take
abbrev pub policies_at : Sections → ℕ
policies_at s = 10 + length s.schema

abbrev pub entities_at : Sections → ℕ
entities_at s = policies_at s + length (laid s.policies)

abbrev pub used_of : Sections → ℕ
used_of s = entities_at s + length (laid s.entities)

abbrev pub table_at : ℕ → ℕ
table_at capacity = 12 + 9 * capacity / 2

abbrev pub store_numbers : ℕ → ℕ
store_numbers capacity = 12 + 5 * capacity

abbrev pub header : Sections → List ℕ
header s =
    s.capacity
    ∷ (size_of s
    ∷ (policies_at s
    ∷ (entities_at s ∷ (used_of s ∷ (length s.policies ∷ (length s.entities ∷ (s.schema_size ∷ (s.unfit ∷ (s.missing ∷ [])))))))))

abbrev pub layout : Sections → List ℕ → List ℕ
layout s rest = header s ++ (s.schema ++ (laid s.policies ++ (laid s.entities ++ rest)))

-- and how it is read back
abbrev pub sections : List ℕ → Sections
sections m = record {
  capacity = slice_index m 0;
  schema_size = slice_index m 7;
  schema = part m 10 (slice_index m 2 - 10);
  policies = items_at m (slice_index m 2) (slice_index m 5);
  entities = items_at m (slice_index m 3) (slice_index m 6);
  unfit = slice_index m 8;
  missing = slice_index m 9;
}

-- ---- in order
-- an item's key lies in its row, and its row is bounded by its size
pub record Kept (KeyIn : Item → Type 0) (i : Item) : Type 0 where
  pub key : KeyIn i
  pub bounded : length i.row + 1 ≤ 4 * i.size
  pub least : 2 ≤ i.size

pub record Ordered (s : Sections) : Type 0 where
  pub policies-ordered : ascending id_key s.policies ≡ true
  pub entities-ordered : ascending uid_key s.entities ≡ true
  pub policies-kept : Each (Kept IdIn) s.policies
  pub entities-kept : Each (Kept UidIn) s.entities
  pub schema-bounded : length s.schema ≤ 4 * s.schema_size + 2
  pub small : size_of s ≤ s.capacity
  pub least : 1 ≤ s.capacity
  pub limit : s.capacity ≤ 16777216

-- memory holds it
pub record Held (s : Sections) (m : List ℕ) : Type 0 where
  pub rest : List ℕ
  pub is : m ≡ layout s rest
  pub behind : List ℕ
  pub table : drop (table_at s.capacity) m ≡ offsets 0 s.entities ++ behind
  pub fits : store_numbers s.capacity ≤ length m
  pub ordered : Ordered s

abbrev pub Good : List ℕ → Type 0
Good m = Held (sections m) m

-- memory is in order, and this stands in it
pub record Holds (m : List ℕ) (s : Sections) : Type 0 where
  pub good : Good m
  pub is : sections m ≡ s

-- ---- memory never runs out: what a store takes up to the table, and the table, fit
abbrev pub MemoryNeverRunsOut : Type 0
MemoryNeverRunsOut =
    (s : Sections) → Each (Kept IdIn) s.policies → Each (Kept UidIn) s.entities → length s.schema ≤ 4 * s.schema_size + 2 → size_of s ≤ s.capacity →
    (used_of s ≤ table_at s.capacity) × (table_at s.capacity + length s.entities ≤ store_numbers s.capacity)
