-- What is left gives what all gives; a node takes a level of height, and an element of a list a byte.
use Rattle.std.proofs.Common.{◌≡◌, ◌+◌, ◌-◌, ◌*◌, ◌≤◌, length, drop}
use Rattle.spec.specs.Calls.{sum_of}
use Rattle.wire.specs.Read.{read_list}
use Rattle.wire.specs.Grammar.{list, read_fields, read_node}
use Rattle.reader.specs.Code.{items_of, fields_of, parts, smalls}
use Rattle.reader.specs.Found.{found}
use Rattle.reader.specs.Counts.{count_field, count_fields}
use Rattle.reader.proofs.count.+field_fields_list_node.Given as goal

abbrev pub decreases-field : goal.decreases-field
decreases-field g l = 3 * (l.height + (length l.bytes.now - l.at)) + 1

abbrev pub decreases-fields : goal.decreases-fields
decreases-fields g l = 3 * (l.height + (length l.bytes.now - l.at)) + 2

abbrev pub decreases-list : goal.decreases-list
decreases-list g l = 3 * (l.height + (length l.bytes.now - l.at))

abbrev pub decreases-node : goal.decreases-node
decreases-node g l = 3 * (l.height + (length l.bytes.now - l.at))

abbrev pub invariant-fields-loop-f : goal.invariant-fields-loop-f
invariant-fields-loop-f g l =
    let c = g.C.Counting.counts in
    (l.at ≤ l.end) × (l.end ≤ length l.bytes) × (c.weight * l.at + l.size ≤ c.weight * l.end + c.part * l.f-index)
    × (c.weight * l.at + l.size + c.part * smalls (fields_of l.shape) + c.part * parts (fields_of (drop l.f-index l.shape)) ≤ c.weight * l.end + c.part * parts (fields_of l.shape) + c.part * smalls (fields_of (drop l.f-index l.shape)))
    × (found (λ x. l.size + count_fields c l.unit (fields_of (drop l.f-index l.shape)) x) l.end (read_fields (read_node l.height) (fields_of (drop l.f-index l.shape)) (drop l.end l.bytes))
    ≡ found (count_fields c l.unit (fields_of l.shape)) l.at (read_fields (read_node l.height) (fields_of l.shape) (drop l.at l.bytes)))

abbrev pub invariant-list-loop-item : goal.invariant-list-loop-item
invariant-list-loop-item g l =
    let c = g.C.Counting.counts in
    (l.at ≤ l.end) × (l.end ≤ length l.bytes) × (c.weight * l.at + l.size ≤ c.weight * l.end + c.weight)
    × (found (λ xs. l.size + sum_of (λ x. c.each (items_of l.items) + count_fields c l.unit (items_of l.items) x) xs) l.end (read_list (read_fields (read_node l.height) (items_of l.items)) 0 (drop l.end l.bytes))
    ≡ found (count_field c l.unit (list (items_of l.items))) l.at (read_list (read_fields (read_node l.height) (items_of l.items)) 0 (drop l.at l.bytes)))

abbrev pub decreases-list-loop-item : goal.decreases-list-loop-item
decreases-list-loop-item g l = length l.initial.bytes - l.end
