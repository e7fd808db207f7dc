-- What is left decides what all decides, and ends where all ends.
use Rattle.std.proofs.Common.{◌≡◌, ◌-◌, ◌<◌, ◌≤◌, Bool, List, length, drop}
use Rattle.reader.specs.Ends.{Got, ending}
use Rattle.schema_order.specs.Places.{Item, read_many, list_at, Decides, each}
use Rattle.schema_order.proofs.lists.walk.Given as goal

abbrev pub invariant-loop-end : goal.invariant-loop-end
invariant-loop-end g l =
    record {
      inside : (l.at ≤ l.end) × (l.end < length l.bytes);
      stands : Got (read_many l.listed (drop l.end l.bytes));
      ends : ending l.end (read_many l.listed (drop l.end l.bytes)) ≡ ending l.at (read_many l.listed (drop l.at l.bytes));
      says : (T : Item l.listed → List (Item l.listed) → Bool) → Decides (goal.F-post g l.test) l.bytes l.listed T → each T (list_at l.listed l.bytes l.end) ≡ each T (list_at l.listed l.bytes l.at);
    }

abbrev pub decreases-loop-end : goal.decreases-loop-end
decreases-loop-end g l = length l.initial.bytes - l.end
