-- The iterator stands at a place of the file that is reached over as many calls as are counted; each call takes eight bytes and more.
use Rattle.std.proofs.Common.{◌≡◌, ◌≤◌, length}
use Rattle.calls_file.specs.Walk.{Reached}
use Rattle.calls_file.proofs.count_calls.Given as goal

abbrev pub invariant-loop-call : goal.invariant-loop-call
invariant-loop-call l = record {
  same : l.call-iterator.file.now ≡ l.file;
  reached : Reached l.file l.count l.call-iterator.at;
  within : l.call-iterator.at ≤ length l.file;
  few : l.count ≤ l.call-iterator.at;
}
