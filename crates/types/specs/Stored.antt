-- Stored types: what the rows of a schema's types stand for, and what they stand for stays.
use Rattle.std.specs.Prelude.{◌≡◌, ℕ, suc, ◌<◌, ◌≤◌, true, List, slice_index}
use Rattle.spec.specs.Types as s
use Rattle.spec.specs.Types.{record_of, RecordType, Schema}
use Rattle.spec.specs.Validate.{well_formed_type}
use Rattle.spec.specs.Calls.{encodable_type}
use Rattle.rows.specs.Rows.{row_type, row_record_type}
use Rattle.values.specs.Stored.{LiesAt}
use Rattle.types.specs.Held.{row_type_at, plain, decode, Good, made, TypeRowIn}
use Rattle.types.specs.declared.nodes.CedarType.{CedarType}
use Rattle.types.specs.declared.nodes.CedarType.TheVariants.{Record}

-- a type that is good and stands for what it should
pub record Stands (h : ℕ) (m w : List ℕ) (lo hi : ℕ) (v : CedarType) (t : s.CedarType) : Type 0 where
  pub good : Good h m w lo hi v
  pub is : decode h m w v ≡ t

-- what has the row of a type is that type, wherever the row lies in the store; and so are the attributes of an entity or of a context.
-- Types of a well-formed schema have only truths that may be either.
abbrev pub TypeRowsMean : Type 0
TypeRowsMean =
    ((t : s.CedarType) (d : ℕ) (m w : List ℕ) (p lo hi : ℕ) → plain t ≡ true → encodable_type t d ≡ true → LiesAt m p (row_type t) → TypeRowIn m p × Stands (suc d) m w lo hi (row_type_at m p) t)
    × ((ts : RecordType) (d : ℕ) (m w : List ℕ) (p lo hi : ℕ) → plain (record_of ts) ≡ true → encodable_type (record_of ts) d ≡ true → LiesAt m p (row_record_type ts) → Stands (suc d) m w lo hi (Record p) (record_of ts))
    × ((t : s.CedarType) (s : Schema) → well_formed_type t s ≡ true → plain t ≡ true)

-- what is made before a type and behind it changes nothing
abbrev pub TypesStay : Type 0
TypesStay =
    (h : ℕ) (m w w' : List ℕ) (lo lo' hi hi' : ℕ) (v : CedarType) (t : s.CedarType) → ((i : ℕ) → lo ≤ i → i < hi → slice_index w' i ≡ slice_index w i) → lo' ≤ lo → hi ≤ hi' → Stands h m w lo hi v t
    → Stands h m w' lo' hi' v t × (made h w' v ≡ made h w v)
