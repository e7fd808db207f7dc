-- The first numbers of a store. Assumes nothing: these are definitions.
use Rattle.std.specs.Prelude.{◌≡◌, ℕ, ◌+◌, ◌*◌, ◌≤◌, List, [], ◌∷◌, ◌++◌, length, drop, slice_index}
use Rattle.shelves.specs.Moves.{moved}
use Rattle.store.specs.Sections.{Sections, size_of, policies_at, entities_at, used_of, table_at}
use Rattle.store.specs.declared.layout.Header.{Header}

abbrev pub header_row : Header → List ℕ
header_row h =
    h.capacity
    ∷ (h.size
    ∷ (h.policies
    ∷ (h.entities ∷ (h.used ∷ (h.policy_count ∷ (h.entity_count ∷ (h.schema_size ∷ (h.unfit ∷ (h.missing ∷ [])))))))))

-- and back
abbrev pub header_at : List ℕ → Header
header_at m = record {
  capacity = slice_index m 0;
  size = slice_index m 1;
  policies = slice_index m 2;
  entities = slice_index m 3;
  used = slice_index m 4;
  policy_count = slice_index m 5;
  entity_count = slice_index m 6;
  schema_size = slice_index m 7;
  unfit = slice_index m 8;
  missing = slice_index m 9;
}

-- what they say
pub record Says (s : Sections) (h : Header) : Type 0 where
  pub capacity-is : h.capacity ≡ s.capacity
  pub size_is : h.size ≡ size_of s
  pub policies-is : h.policies ≡ policies_at s
  pub entities-is : h.entities ≡ entities_at s
  pub used-is : h.used ≡ used_of s
  pub policy-count-is : h.policy_count ≡ length s.policies
  pub entity-count-is : h.entity_count ≡ length s.entities
  pub schema-size-is : h.schema_size ≡ s.schema_size
  pub unfit-is : h.unfit ≡ s.unfit
  pub missing-is : h.missing ≡ s.missing

-- and how they go together
pub record Bounds (s : Sections) : Type 0 where
  pub small : size_of s ≤ s.capacity
  pub limit : s.capacity ≤ 16777216
  pub room : used_of s ≤ table_at s.capacity
  pub few : 2 * (length s.policies + length s.entities) ≤ size_of s

-- the old numbers at a place become new many, what is behind them moves, and the first numbers are new
abbrev pub reopened : List ℕ → Header → ℕ → ℕ → ℕ → ℕ → List ℕ
reopened m h at old new used = header_row h ++ drop 10 (moved m at old new used)
