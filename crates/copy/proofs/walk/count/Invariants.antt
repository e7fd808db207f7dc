use Rattle.std.proofs.Common.{◌≡◌, ◌-◌, ◌<◌, ◌≤◌, length}
use Rattle.wire.specs.Grammar.{read_fields, read_node}
use Rattle.reader.specs.Code.{fields_of}
use Rattle.copy.proofs.Parts.{Part}
use Rattle.copy.proofs.walk.count.Given as goal

abbrev pub invariant-loop-end : goal.invariant-loop-end
invariant-loop-end l = (p : Part (read_fields (read_node l.height) (fields_of l.shape)) l.bytes l.at l.end) × (l.end < length l.bytes) × (l.count ≤ l.end) × (l.count ≡ length p.before)

abbrev pub decreases-loop-end : goal.decreases-loop-end
decreases-loop-end l = length l.initial.bytes - l.end
