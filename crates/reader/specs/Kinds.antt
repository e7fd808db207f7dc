-- The byte that a value of each kind begins with, and a type too. Assumes nothing: these are definitions.
use Rattle.std.specs.Prelude.{◌≡◌, ℕ, ◌<◌, Result, Ok, Err}
use Rattle.reader.specs.declared.value_kind.ValueKind.{ValueKind}
use Rattle.reader.specs.declared.value_kind.ValueKind.TheVariants.{Bool, Int, String, Entity, Set, Record}
use Rattle.reader.specs.declared.value_kind.NoValue.{NoValue}

abbrev pub byte_of : ValueKind → ℕ
byte_of Bool = 0
byte_of Int = 1
byte_of String = 2
byte_of Entity = 3
byte_of Set = 4
byte_of Record = 5

-- the kind that a byte tells, or it tells none
abbrev pub Tells : ℕ → Result ValueKind NoValue → Type 0
Tells b (Ok kind) = b ≡ byte_of kind
Tells b (Err e) = 5 < b
