-- Sums, differences and products of integers: where they fit 64 bits they are what the definitions say, which have integers 2^63 higher.
use Rattle.std.proofs.Common.{◌≡◌, ℤ, Option, Some, None, ◌+ℤ◌, ◌-ℤ◌, ◌*ℤ◌, ◌∙◌, FitsSigned, w64, rules}
use Rattle.std.specs.Option.{SomeIff}
use Rattle.spec.specs.Basics.{ok, error}
use Rattle.spec.specs.Evaluate.{of_int, arith_bounds_error, sum, difference, product}
use Rattle.values.specs.Held.{raised}
use Rattle.operators.specs.Code.{Counts}
use Rattle.operators.proofs.Operands.{product_by, product-by}

pub sum-counts : (i j : ℤ) (z : Option ℤ) → FitsSigned w64 i → FitsSigned w64 j → SomeIff z (FitsSigned w64 (i +ℤ j)) (i +ℤ j) → Counts z (sum (raised i) (raised j))
sum-counts i j (Some k) fi fj p = search rules
sum-counts i j None fi fj p = search rules

pub difference-counts : (i j : ℤ) (z : Option ℤ) → FitsSigned w64 i → FitsSigned w64 j → SomeIff z (FitsSigned w64 (i -ℤ j)) (i -ℤ j) → Counts z (difference (raised i) (raised j))
difference-counts i j (Some k) fi fj p = search rules
difference-counts i j None fi fj p = search rules

pub product-counts : (i j : ℤ) (z : Option ℤ) → FitsSigned w64 i → FitsSigned w64 j → SomeIff z (FitsSigned w64 (i *ℤ j)) (i *ℤ j) → Counts z (product (raised i) (raised j))
product-counts i j (Some k) fi fj p = let e : product_by (raised i) (raised j) ≡ ok (of_int (raised k)) = search rules in product-by (raised i) (raised j) ∙ e
product-counts i j None fi fj p = let e : product_by (raised i) (raised j) ≡ error arith_bounds_error = search rules in product-by (raised i) (raised j) ∙ e
