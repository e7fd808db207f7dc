-- What is said of what was read at a place: whether it is as it is kept, and where it ends. Assumes nothing: these are definitions.
use Rattle.std.specs.Prelude.{◌≡◌, ℕ, ◌+◌, ◌≤◌, Bool, true, false, cond, List, Some, None, Option}
use Rattle.std.specs.Borrow.{Bor}
use Rattle.spec.specs.Basics.{Text, less, ascending, name}
use Rattle.spec.specs.Bytes.{Bytes, encode_uid, encode_value}
use Rattle.spec.specs.Values.{EntityUID, Value, set, to_values, to_attrs, code_uid, Entity}
use Rattle.spec.specs.Calls.{canonical, canonical_record, admissible, put_entity}
use Rattle.wire.specs.Read.{Read, got, stops, read_list}
use Rattle.wire.specs.Grammar.{value, uid, text, node, two, read_fields, read_node}
use Rattle.canonical.specs.declared.Listed.{Listed}
use Rattle.canonical.specs.declared.Listed.TheVariants.{Values, Attributes, Ancestors}
use Rattle.canonical.specs.declared.Element.{Element}

-- the key comes behind what came last, if anything did
abbrev pub rises : Option (Bor Text) → Text → Bool
rises (Some before) key = less before.now key
rises None key = true

-- ---- what was read
-- where it ends, if a test holds of it
abbrev pub judged : {X : Type 0} → (X → Bool) → ℕ → Read X → Option ℕ
judged f at (got x n) = cond (f x) (Some (at + n)) None
judged f at (stops k) = None

-- it ends among the bytes
abbrev pub Within : ℕ → ℕ → Option ℕ → Type 0
Within at len (Some end) = (at ≤ end) × (end ≤ len)
Within at len None = Unit {0}

-- ---- lists: of what they are, by what that is in order, and what else is asked of each element
abbrev pub Item : Listed → Type 0
Item Values = Value
Item Attributes = Text × Value
Item Ancestors = EntityUID

abbrev pub read_item : (l : Listed) → ℕ → Bytes → Read (Item l)
read_item Values height bs = read_node height value bs
read_item Attributes height bs = read_fields (read_node height) (two text (node value)) bs
read_item Ancestors height bs = read_node height uid bs

abbrev pub read_items : (l : Listed) → ℕ → Bytes → Read (List (Item l))
read_items l height bs = read_list (read_item l height) 0 bs

abbrev pub item_key : (l : Listed) → Item l → Text
item_key Values v = encode_value v
item_key Attributes f = name f
item_key Ancestors u = encode_uid u

abbrev pub is_kept : (l : Listed) → Item l → Bool
is_kept Values v = canonical v
is_kept Attributes f = canonical f.1
is_kept Ancestors u = true

-- a list that is as it is kept
abbrev pub canonical_elements : List Value → Bool
canonical_elements vs = canonical (set (to_values vs))

abbrev pub canonical_named : List (Text × Value) → Bool
canonical_named fs = canonical_record (to_attrs fs)

abbrev pub ascending_uids : List EntityUID → Bool
ascending_uids us = ascending code_uid us

abbrev pub in_order : (l : Listed) → List (Item l) → Bool
in_order Values vs = canonical_elements vs
in_order Attributes fs = canonical_named fs
in_order Ancestors us = ascending_uids us

-- an element is found with its key and its end, if it is as it is kept
abbrev pub FoundAs : {X : Type 0} → (X → Text) → (X → Bool) → ℕ → Read X → Option Element → Type 0
FoundAs key kept at (got x n) (Some e) = (kept x ≡ true) × (e.key.now ≡ key x) × (e.end ≡ at + n)
FoundAs key kept at (got x n) None = kept x ≡ false
FoundAs key kept at (stops k) r = ⊥

abbrev pub WithinElement : ℕ → ℕ → Option Element → Type 0
WithinElement at len (Some e) = (at ≤ e.end) × (e.end ≤ len)
WithinElement at len None = Unit {0}

abbrev pub kept_entity : Entity → Bool
kept_entity e = admissible (put_entity e)
