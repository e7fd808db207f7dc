-- What a result says, made into what follows from it.
use Rattle.std.proofs.Common.{Ok, Err, Result}
use Rattle.lines.specs.declared.failures.LineError.{LineError}
use Rattle.lines.specs.Results.{OkOr}

pub weaker : {X : Type 0} (r : Result X LineError) (P Q : X → Type 0) → ((x : X) → P x → Q x) → OkOr r P → OkOr r Q
weaker (Ok x) P Q f p = f x p
weaker (Err e) P Q f p = p
