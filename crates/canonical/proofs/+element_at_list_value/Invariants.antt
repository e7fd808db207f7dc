-- What is left says what all says; a set or a record takes a level of height.
use Rattle.std.proofs.Common.{◌≡◌, ◌+◌, ◌-◌, ◌*◌, ◌≤◌, length, drop}
use Rattle.reader.specs.Ends.{Got}
use Rattle.canonical.specs.Kept.{judged, read_item, read_items, item_key, is_kept, in_order}
use Rattle.canonical.proofs.Lists.{left}
use Rattle.canonical.proofs.+element_at_list_value.Given as goal

abbrev pub decreases-value : goal.decreases-value
decreases-value l = 3 * l.height

abbrev pub decreases-element_at : goal.decreases-element_at
decreases-element_at l = 3 * l.height + 1

abbrev pub decreases-list : goal.decreases-list
decreases-list l = 3 * l.height + 2

abbrev pub invariant-list-loop-end : goal.invariant-list-loop-end
invariant-list-loop-end l =
    (l.at ≤ l.end) × (l.end ≤ length l.bytes) × Got (read_items l.listed l.height (drop l.end l.bytes))
    × (left (read_item l.listed l.height) (item_key l.listed) (is_kept l.listed) l.bytes l.end l.last ≡ judged (in_order l.listed) l.at (read_items l.listed l.height (drop l.at l.bytes)))

abbrev pub decreases-list-loop-end : goal.decreases-list-loop-end
decreases-list-loop-end l = length l.initial.bytes - l.end
