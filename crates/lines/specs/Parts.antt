-- What an answer's bytes begin with, and what is left behind it.
use Rattle.std.specs.Prelude.{◌≡◌, ◌≢◌, ℕ, Bool, List, ◌++◌, Ok, Err, Result}
use Rattle.std.specs.Borrow.{Bor}
use Rattle.spec.specs.Bytes.{encode_bool}
use Rattle.lines.specs.declared.failures.LineError.{LineError}
use Rattle.lines.specs.declared.failures.LineError.TheVariants.{NotAnAnswer}

-- a truth, or none stands there
abbrev pub TruthFirst : List ℕ → Result (Bool × Bor (List ℕ)) LineError → Type 0
TruthFirst bs (Ok p) = bs ≡ encode_bool p.0 ++ p.1.now
TruthFirst bs (Err e) = (e ≡ NotAnAnswer) × ((b : Bool) (rest : List ℕ) → bs ≢ encode_bool b ++ rest)
