-- What was read before at a place: that it was, and where it ends. Assumes nothing: these are definitions.
use Rattle.std.specs.Prelude.{ℕ, ◌+◌}
use Rattle.wire.specs.Read.{Read, got, stops}

-- it was read
abbrev pub Got : {X : Type 0} → Read X → Type 0
Got (got x n) = Unit {0}
Got (stops k) = ⊥

-- how many bytes it takes, or how many of them can be its beginning
abbrev pub long : {X : Type 0} → Read X → ℕ
long (got x n) = n
long (stops k) = k

-- where it ends, or ceases to be one
abbrev pub ending : {X : Type 0} → ℕ → Read X → ℕ
ending at R = at + long R
