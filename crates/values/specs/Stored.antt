-- Stored values: what the rows of numbers that are kept in memory stand for.
use Rattle.std.specs.Prelude.{◌≡◌, ℕ, zero, suc, Bool, true, false, ◌&&◌, List, length, take, drop}
use Rattle.spec.specs.Values as s
use Rattle.spec.specs.Values.{bool, int, string, entity_uid, prim, set, record_of, Values, nil, cons, Attrs, empty, attr}
use Rattle.spec.specs.Calls.{canonical, canonical_record, encodable_value}
use Rattle.rows.specs.Rows.{behind_of, row_attrs}
use Rattle.values.specs.Held.{lowered, Stands}
use Rattle.values.specs.declared.nodes.Value.{Value}
use Rattle.values.specs.declared.nodes.Value.TheVariants.{Bool as B, Int, String, Entity, Set, Record}

-- the value of the running code, if what lies behind its payload lies at a place
abbrev pub stored_at : s.Value → ℕ → Value
stored_at (prim (bool b)) p = B b
stored_at (prim (int n)) p = Int (lowered n)
stored_at (prim (string t)) p = String p
stored_at (prim (entity_uid u)) p = Entity p
stored_at (set vs) p = Set p
stored_at (record_of r) p = Record p

-- sets and records in one another, at most d
abbrev mutual
  pub within : ℕ → s.Value → Bool
  within d (prim p) = true
  within zero (set vs) = false
  within (suc d) (set vs) = within_all d vs
  within zero (record_of r) = false
  within (suc d) (record_of r) = within_attrs d r

  pub within_all : ℕ → Values → Bool
  within_all d nil = true
  within_all d (cons v vs) = within d v && within_all d vs

  pub within_attrs : ℕ → Attrs → Bool
  within_attrs d empty = true
  within_attrs d (attr a v r) = within d v && within_attrs d r

-- a row of numbers at a place of a memory
abbrev pub LiesAt : List ℕ → ℕ → List ℕ → Type 0
LiesAt m p row = take (length row) (drop p m) ≡ row

-- a canonical value whose row lies anywhere is good there and is that value; and so is a record of attributes or tags.
-- What a call can carry is not too deep.
abbrev pub RowsMean : Type 0
RowsMean =
    ((v : s.Value) (d : ℕ) (m : List ℕ) (p : ℕ) → canonical v ≡ true → within d v ≡ true → LiesAt m p (behind_of v) → Stands (suc d) m (stored_at v p) v)
    × ((r : Attrs) (d : ℕ) (m : List ℕ) (p : ℕ) → canonical_record r ≡ true → within d (record_of r) ≡ true → LiesAt m p (row_attrs r) → Stands (suc d) m (Record p) (record_of r))
    × ((v : s.Value) (d : ℕ) → encodable_value v d ≡ true → within d v ≡ true)
