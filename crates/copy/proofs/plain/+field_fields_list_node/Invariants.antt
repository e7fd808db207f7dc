-- What is left to copy gives what all gives; a node takes a level of height, and an element of a list a byte.
use Rattle.std.proofs.Common.{◌≡◌, ◌+◌, ◌-◌, ◌*◌, ◌≤◌, true, ◌++◌, length, drop}
use Rattle.rows.specs.Rows.{rows_of}
use Rattle.wire.specs.Grammar.{read_fields, read_node}
use Rattle.reader.specs.Code.{fields_of}
use Rattle.copy.specs.Copied.{row_fields, plain_fields}
use Rattle.copy.specs.Writing.{written}
use Rattle.copy.proofs.Parts.{Part}
use Rattle.copy.proofs.Pieces.{Left, leaves-off}
use Rattle.copy.proofs.plain.+field_fields_list_node.Given as goal

abbrev pub decreases-field : goal.decreases-field
decreases-field l = 3 * (l.height + (length l.bytes.now - l.from.end)) + 1

abbrev pub decreases-fields : goal.decreases-fields
decreases-fields l = 3 * (l.height + (length l.bytes.now - l.from.end)) + 2

abbrev pub decreases-list : goal.decreases-list
decreases-list l = 3 * (l.height + (length l.bytes.now - l.from.end))

abbrev pub decreases-node : goal.decreases-node
decreases-node l = 3 * (l.height + (length l.bytes.now - l.from.end))

abbrev pub invariant-fields-loop-f : goal.invariant-fields-loop-f
invariant-fields-loop-f l =
    (l.initial.copied.end ≤ l.copied.end) × (l.copied.end ≤ length l.bytes) × (l.initial.copied.to ≤ l.copied.to) × (plain_fields (fields_of (drop l.f-index l.shape)) ≡ true)
    × Left (read_node l.height) l.bytes l.copied.end l.copied.to (length l.rows) (drop l.f-index l.shape)
    × (leaves-off (read_node l.height) l.bytes l.copied.end l.copied.to l.rows (drop l.f-index l.shape) ≡ leaves-off (read_node l.height) l.bytes l.initial.copied.end l.initial.copied.to l.initial.rows l.shape)

abbrev pub invariant-list-loop-copied : goal.invariant-list-loop-copied
invariant-list-loop-copied l =
    (p : Part (read_fields (read_node l.height) (fields_of l.shape)) l.bytes l.from.end l.copied.end)
    × (l.from.end ≤ l.copied.end) × (l.copied.end ≤ length l.bytes) × (l.count ≤ l.copied.end) × (l.count ≡ length p.before)
    × (l.copied.to ≡ l.from.to + 1 + length (rows_of (row_fields (fields_of l.shape)) p.before))
    × (l.from.to + 1 + length (rows_of (row_fields (fields_of l.shape)) (p.before ++ p.behind)) ≤ length l.rows)
    × (l.rows ≡ written l.initial.rows (l.from.to + 1) (rows_of (row_fields (fields_of l.shape)) p.before))

abbrev pub decreases-list-loop-copied : goal.decreases-list-loop-copied
decreases-list-loop-copied l = length l.initial.bytes - l.copied.end
