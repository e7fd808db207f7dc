-- Whatever list of ids there was, what is left of it gives what all gives; and less is left with each id.
use Rattle.std.proofs.Common.{◌≡◌, ℕ, List, ◌++◌, length, string_bytes}
use Rattle.spec.specs.Basics.{Text}
use Rattle.spec.specs.Bytes.{encode_text, encode_list}
use Rattle.lines.proofs.Lists.{Ahead}
use Rattle.lines.proofs.ids.ids.Given as goal

abbrev pub invariant-loop-mark : goal.invariant-loop-mark
invariant-loop-mark l = (all : List Text) (rest : List ℕ) → l.answer ≡ encode_list encode_text all ++ rest → Ahead l.left (string_bytes l.line) (string_bytes l.initial.line) all rest

abbrev pub decreases-loop-mark : goal.decreases-loop-mark
decreases-loop-mark l = length l.left
