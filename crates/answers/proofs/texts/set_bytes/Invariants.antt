-- So far the bytes up to the index are those of the text.
use Rattle.std.proofs.Common.{◌≡◌, ℕ, ◌<◌, get_or}
use Rattle.answers.proofs.texts.set_bytes.Given as goal

abbrev pub invariant-loop-i : goal.invariant-loop-i
invariant-loop-i g l = (k : ℕ) → k < l.i → get_or l.room k 0 ≡ get_or (g.T.Text.bytes l.text) k 0
