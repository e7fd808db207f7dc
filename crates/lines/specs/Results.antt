-- What a result says: only memory may be missing, or else it is what it should be.
use Rattle.std.specs.Prelude.{◌≡◌, ℕ, List, ◌++◌, Ok, Err, Result}
use Rattle.std.specs.Borrow.{Bor}
use Rattle.spec.specs.Basics.{Text}
use Rattle.spec.specs.Bytes.{encode_text, encode_list}
use Rattle.lines.specs.declared.failures.LineError.{LineError}
use Rattle.lines.specs.declared.failures.LineError.TheVariants.{OutOfMemory}

abbrev pub OkOr : {X : Type 0} → Result X LineError → (X → Type 0) → Type 0
OkOr (Ok x) P = P x
OkOr (Err e) P = e ≡ OutOfMemory

-- Where the bytes begin with a list of ids, what is left behind it is found, and the line grows by what is said of the ids.
abbrev pub Lists : (List Text → List ℕ) → List ℕ → List ℕ → List ℕ → Result (Bor (List ℕ)) LineError → Type 0
Lists said answer line after r =
    (ids : List Text) (rest : List ℕ) → answer ≡ encode_list encode_text ids ++ rest → OkOr r (λ left. (left.now ≡ rest) × (after ≡ line ++ said ids))
