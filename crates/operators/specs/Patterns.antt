-- How the next element of a pattern stands to the next byte of a text.
use Rattle.std.specs.Prelude.{ℕ, cond, List, [], ◌∷◌, ◌==◌}
use Rattle.operators.specs.declared.like.Step.{Step}
use Rattle.operators.specs.declared.like.Step.TheVariants.{Star, Same, Differs}

abbrev pub meets : ℕ → ℕ → Step
meets x y = cond (x == 256) Star (cond (x == y) Same Differs)

-- at the end of the pattern nothing is met
abbrev pub step_at : List ℕ → ℕ → Step
step_at [] y = Differs
step_at (x ∷ xs) y = meets x y
