-- How long the rows of trees are, kind by kind. Assumes nothing: these are definitions.
use Rattle.std.specs.Prelude.{ℕ, zero, suc, length}
use Rattle.wire.specs.Grammar.{Kind, value, expr, type, scope, action_scope, uid, attrs, record_type, condition, entity, entity_entry, action_entry, request, Tree, Field, part, small, word, text, pattern, node, list, Fields, no, one, more}
use Rattle.reader.specs.Counts.{Counts}
use Rattle.copy.specs.Copied.{row_tree}

abbrev pub length_tree : (k : Kind) → Tree k → ℕ
length_tree k x = length (row_tree k x)

-- a tree of several forms has its form and its length before it; a value has neither, since they stand in the node that holds it
abbrev pub head_length : Kind → ℕ
head_length value = 0
head_length expr = 2
head_length type = 2
head_length scope = 2
head_length action_scope = 2
head_length uid = 0
head_length attrs = 0
head_length record_type = 0
head_length condition = 0
head_length entity = 0
head_length entity_entry = 0
head_length action_entry = 0
head_length request = 0

-- and so do the numbers of a value
abbrev pub unit : Kind → ℕ
unit value = 0
unit expr = 1
unit type = 1
unit scope = 1
unit action_scope = 1
unit uid = 1
unit attrs = 1
unit record_type = 1
unit condition = 1
unit entity = 1
unit entity_entry = 1
unit action_entry = 1
unit request = 1

-- ---- lists: the node of a set or record has, for each element, its tag and its payload, and where its name lies, if it has one
abbrev pub slot_of_kind : Kind → ℕ
slot_of_kind value = 2
slot_of_kind expr = 0
slot_of_kind type = 0
slot_of_kind scope = 0
slot_of_kind action_scope = 0
slot_of_kind uid = 0
slot_of_kind attrs = 0
slot_of_kind record_type = 0
slot_of_kind condition = 0
slot_of_kind entity = 0
slot_of_kind entity_entry = 0
slot_of_kind action_entry = 0
slot_of_kind request = 0

abbrev pub slot_of : Field → ℕ
slot_of part = 0
slot_of (small e) = 0
slot_of word = 0
slot_of text = 0
slot_of pattern = 0
slot_of (node k) = slot_of_kind k
slot_of (list fs) = 0

abbrev pub named : ℕ → ℕ
named zero = 0
named (suc n) = suc (suc n)

abbrev pub slots : Fields → ℕ
slots no = 0
slots (one f) = slot_of f
slots (more f fs) = named (slots fs)

-- such a node begins with its length and its count, and any other list with its count
abbrev pub beginning : ℕ → ℕ
beginning zero = 1
beginning (suc n) = 2

-- ---- what a row's numbers are counted by; a byte takes at most three
abbrev pub row_counts : Counts
row_counts = record { tree = length_tree; part = 0; unit = unit; head = head_length; beginning = λ fs. beginning (slots fs); each = slots; weight = 3 }
