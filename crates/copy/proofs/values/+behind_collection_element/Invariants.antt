-- A value in a set or record is a level of height lower; the node is filled from its front and from behind its slots.
use Rattle.std.proofs.Common.{◌≡◌, ◌+◌, ◌-◌, ◌*◌, ◌<◌, ◌≤◌, ◌++◌, length}
use Rattle.wire.specs.Grammar.{read_fields, read_node}
use Rattle.copy.specs.Placed.{element_fields, element_slot, element_behind, width_of}
use Rattle.copy.proofs.Filling.{Filling, slot-wide}
use Rattle.copy.proofs.values.+behind_collection_element.Given as goal

abbrev pub decreases-behind : goal.decreases-behind
decreases-behind l = 4 * l.height

abbrev pub decreases-element : goal.decreases-element
decreases-element l = 4 * l.height + (width_of l.slots - 1)

abbrev pub decreases-collection : goal.decreases-collection
decreases-collection l = 4 * l.height + 3

abbrev pub invariant-collection-loop-i : goal.invariant-collection-loop-i
invariant-collection-loop-i l =
    (l.from.end ≤ l.copied.end) × (l.copied.end < length l.bytes) × (l.from.to + 2 + width_of l.slots * l.i ≤ l.copied.to) × (l.copied.to ≤ length l.rows)
    × (f : Filling (element_slot l.slots) (element_behind l.slots) (width_of l.slots) (slot-wide l.slots) (read_fields (read_node l.height) (element_fields l.slots)) l.bytes l.from.end l.initial.rows l.from.to (width_of l.slots * l.count) l.copied.end l.rows (l.from.to + 2 + width_of l.slots * l.i) l.copied.to)
    × (l.i ≡ length f.part.before) × (l.count ≡ length (f.part.before ++ f.part.behind))
