-- The way through a file from call to call.
use Rattle.std.specs.Prelude.{◌≡◌, ℕ, ◌+◌, List, length, Ok, Err, Result}
use Rattle.calls_file.specs.declared.calls.CutOff.{CutOff}
use Rattle.calls_file.specs.Frames.{call, truncated, next_of}

-- a place that is reached from the file's beginning over so many calls
pub data Reached (file : List ℕ) : ℕ → ℕ → Type 0 where
  beginning : Reached file 0 0
  behind : {count at start end : ℕ} → Reached file count at → next_of at file ≡ call start end → Reached file (count + 1) end

-- either the end is reached over that many calls, or a place at which a call is cut off
abbrev pub Walked : List ℕ → Result ℕ CutOff → Type 0
Walked file (Ok count) = Reached file count (length file)
Walked file (Err cut) = ((count : ℕ) × Reached file count cut.at) × (next_of cut.at file ≡ truncated)
