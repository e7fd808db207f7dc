-- What is left gives what all gives.
use Rattle.std.proofs.Common.{◌≡◌, ◌+◌, ◌-◌, ◌*◌, ◌≤◌, length, drop}
use Rattle.spec.specs.Calls.{size_text}
use Rattle.wire.specs.Read.{read_elements, read_pattern}
use Rattle.reader.specs.Found.{found}
use Rattle.reader.proofs.scan.pattern.Given as goal

abbrev pub invariant-loop : goal.invariant-loop
invariant-loop l =
    (l.end ≤ length l.bytes) × (l.end ≡ l.at + 8 + 2 * l.counter)
    × (found (λ ps. 1 + l.counter + length ps) l.end (read_elements (l.long - l.counter) (drop l.end l.bytes)) ≡ found size_text l.at (read_pattern (drop l.at l.bytes)))
