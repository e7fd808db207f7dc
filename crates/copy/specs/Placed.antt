-- Where the parts of a value are put: its tag and payload in the node that holds it, and what lies behind the payload further on. Assumes nothing: these
-- are definitions.
use Rattle.std.specs.Prelude.{◌≡◌, ℕ, ◌+◌, List, [], ◌∷◌, ◌++◌, length}
use Rattle.spec.specs.Basics.{Text}
use Rattle.spec.specs.Values.{Value, set, record_of, to_values, to_attrs, code_text}
use Rattle.rows.specs.Rows.{value_tag, payload, behind_of}
use Rattle.wire.specs.Read.{Read, got, stops}
use Rattle.wire.specs.Grammar.{Fields, Contents, one, two, text, node, value}
use Rattle.copy.specs.declared.leaves.Copied.{Copied}
use Rattle.copy.specs.declared.values.Slots.{Slots}
use Rattle.copy.specs.declared.values.Slots.TheVariants.{Values, Attributes}
use Rattle.copy.specs.Writing.{written}

-- how many things were read
abbrev pub how_many : {X : Type 0} → Read (List X) → ℕ
how_many (got xs n) = length xs
how_many (stops k) = 0

-- ---- the node of a set, and that of a record
abbrev pub set_row : List Value → List ℕ
set_row vs = behind_of (set (to_values vs))

abbrev pub record_row : List (Text × Value) → List ℕ
record_row fs = behind_of (record_of (to_attrs fs))

-- ---- a slot in a node: of a value whose offset is o, and of an attribute whose name's offset is o
abbrev pub value_slot : ℕ → Value → List ℕ
value_slot o v = value_tag v ∷ (payload v o ∷ [])

abbrev pub attr_slot : ℕ → Text × Value → List ℕ
attr_slot o f = o ∷ value_slot (o + length (code_text f.0)) f.1

abbrev pub attr_behind : Text × Value → List ℕ
attr_behind f = code_text f.0 ++ behind_of f.1

-- ---- what a node holds, by what it has slots for
abbrev pub element_fields : Slots → Fields
element_fields Values = one (node value)
element_fields Attributes = two text (node value)

abbrev pub element_slot : (s : Slots) → ℕ → Contents (element_fields s) → List ℕ
element_slot Values o v = value_slot o v
element_slot Attributes o f = attr_slot o f

abbrev pub element_behind : (s : Slots) → Contents (element_fields s) → List ℕ
element_behind Values v = behind_of v
element_behind Attributes f = attr_behind f

abbrev pub width_of : Slots → ℕ
width_of Values = 2
width_of Attributes = 3

abbrev pub node_row : (s : Slots) → List (Contents (element_fields s)) → List ℕ
node_row Values vs = set_row vs
node_row Attributes fs = record_row fs

-- a slot was filled, and what lies behind it was written at a place further on
pub record Filled (ys xs slot behind : List ℕ) (entry next at n : ℕ) (r : Copied) : Type 0 where
  pub rows : ys ≡ written (written xs next behind) entry slot
  pub ends : r.end ≡ at + n
  pub goes : r.to ≡ next + length behind
