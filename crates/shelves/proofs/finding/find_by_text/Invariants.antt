use Rattle.values.specs.Memory.{numbers}
use Rattle.std.proofs.Common.{◌≡◌, ◌+◌, ◌<◌, ◌≤◌, length, get_or, take}
use Rattle.values.specs.Held.{text_at}
use Rattle.shelves.specs.Items.{items_at, id_key}
use Rattle.shelves.proofs.Splits.{Under}
use Rattle.shelves.proofs.Laid.{place_of}
use Rattle.shelves.proofs.finding.find_by_text.Given as goal

abbrev pub invariant-loop-index : goal.invariant-loop-index
invariant-loop-index l =
    (l.at ≡ place_of l.from (items_at l.memory.store.now l.from l.count) l.index)
    × Under id_key (text_at (numbers l.memory) l.key) (take l.index (items_at l.memory.store.now l.from l.count))
    × (l.index < l.count → l.at + 2 + get_or l.memory.store.now l.at 0 ≤ length l.memory.store.now)
