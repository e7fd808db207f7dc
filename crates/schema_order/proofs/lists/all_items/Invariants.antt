-- What is left decides what all decides.
use Rattle.std.proofs.Common.{◌≡◌, ◌-◌, ◌<◌, ◌≤◌, Bool, length, drop}
use Rattle.spec.specs.Basics.{all}
use Rattle.reader.specs.Ends.{Got}
use Rattle.schema_order.specs.Places.{Item, read_many, list_at, DecidesItem}
use Rattle.schema_order.proofs.lists.all_items.Given as goal

abbrev pub invariant-loop-end : goal.invariant-loop-end
invariant-loop-end g l =
    record {
      inside : (l.at ≤ l.end) × (l.end < length l.bytes);
      stands : Got (read_many l.listed (drop l.end l.bytes));
      says : (T : Item l.listed → Bool) → DecidesItem (goal.F-post g l.test) l.bytes l.listed T → all T (list_at l.listed l.bytes l.end) ≡ all T (list_at l.listed l.bytes l.at);
    }

abbrev pub decreases-loop-end : goal.decreases-loop-end
decreases-loop-end g l = length l.initial.bytes - l.end
