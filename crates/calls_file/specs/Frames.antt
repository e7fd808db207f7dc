-- What stands at a place of a file: calls stand there as texts do, each behind its length.
use Rattle.std.specs.Prelude.{◌≡◌, ℕ, ◌+◌, ◌≤◌, cond, List, ◌++◌, length, take, drop, Some, None, Option, Ok, Err, Result, nat_le}
use Rattle.std.specs.Borrow.{Bor}
use Rattle.spec.specs.Bytes.{encode_text}
use Rattle.words.specs.Words.{big_endian}
use Rattle.calls_file.specs.declared.calls.CutOff.{CutOff}

-- a call, from the first place to the second; the end of the file; or a call that is cut off
pub data Next : Type 0 where
  call : ℕ → ℕ → Next
  finished : Next
  truncated : Next

-- At the end of the file, or behind it, there is no call. Where too few bytes are left for the length, or for as many as it says, the call is cut off.
abbrev pub next_of : ℕ → List ℕ → Next
next_of at file =
    cond (nat_le (length file) at) finished
    (cond (nat_le (at + 8) (length file))
    (cond (nat_le (at + 8 + big_endian (drop at file)) (length file)) (call (at + 8) (at + 8 + big_endian (drop at file))) truncated) truncated)

-- What an iterator at a place gives there, and at which place it is then. A call that is cut off is the last thing that it gives.
abbrev pub Gives : List ℕ → ℕ → Option (Result (Bor (List ℕ)) CutOff) → ℕ → Type 0
Gives file at (Some (Ok bytes)) to = (next_of at file ≡ call (at + 8) to) × (to ≡ at + 8 + length bytes.now) × (to ≤ length file) × (bytes.now ≡ take (length bytes.now) (drop (at + 8) file))
Gives file at (Some (Err cut)) to = (next_of at file ≡ truncated) × (cut.at ≡ at) × (at + 1 ≤ length file) × (to ≡ length file)
Gives file at None to = (next_of at file ≡ finished) × (length file ≤ at) × (to ≡ at)

-- it gives this call
abbrev pub GivesCall : List ℕ → Option (Result (Bor (List ℕ)) CutOff) → Type 0
GivesCall expected (Some (Ok bytes)) = bytes.now ≡ expected
GivesCall expected (Some (Err cut)) = ⊥
GivesCall expected None = ⊥

-- one step: the file stays, and a call that stands at the place, as `encode_text` writes it, is given
pub record Steps (file : List ℕ) (at : ℕ) (r : Option (Result (Bor (List ℕ)) CutOff)) (file' : List ℕ) (to : ℕ) : Type 0 where
  pub stays : file' ≡ file
  pub gives : Gives file at r to
  pub reads : (before expected rest : List ℕ) → file ≡ before ++ (encode_text expected ++ rest) → length before ≡ at → GivesCall expected r
