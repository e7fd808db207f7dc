-- How much room is left behind what is written.
use Rattle.std.specs.Prelude.{◌≡◌, ℕ, ◌+◌, ◌<◌, Some, None, Option}

-- by what is said: how much of a room n bytes leave, or nothing where they don't fit
abbrev pub Left : ℕ → ℕ → Option ℕ → Type 0
Left room n (Some left) = left + n ≡ room
Left room n None = room < n
