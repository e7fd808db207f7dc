-- How many pairs were taken is how many numbers were written, and each is that of its two bytes.
use Rattle.std.proofs.Common.{◌≡◌, ℕ, ◌+◌, ◌*◌, ◌<◌, get_or, drop}
use Rattle.copy.proofs.leaves.widen_pairs.Given as goal

abbrev pub invariant-loop-i : goal.invariant-loop-i
invariant-loop-i l =
    (l.i-iterator.iter.size ≡ 2) × (l.i-iterator.iter.rest.now ≡ drop (2 * l.i-iterator.count) l.bytes)
    × ((i : ℕ) → i < l.i-iterator.count → get_or l.rows i 0 ≡ get_or l.bytes (2 * i) 0 * 256 + get_or l.bytes (2 * i + 1) 0)
