-- So far the bytes up to the index are appended.
use Rattle.std.proofs.Common.{◌≡◌, ◌++◌, take, string_bytes}
use Rattle.lines.specs.Quotes.{escapes}
use Rattle.lines.proofs.quotes.quoted.Given as goal

abbrev pub invariant-loop-b : goal.invariant-loop-b
invariant-loop-b l = string_bytes l.line ≡ string_bytes l.initial.line ++ escapes (take l.b-index l.id)
