-- The set that a test has in memory is good.
use Rattle.std.proofs.Common.{◌≡◌, true, [], ◌∷◌, refl}
use Rattle.spec.specs.Basics.{less, ascending}
use Rattle.spec.specs.Values as s
use Rattle.spec.specs.Values.{int, prim, set, nil, cons}
use Rattle.spec.specs.Calls.{canonical}
use Rattle.values.specs.Held.{Good}
use Rattle.values.specs.declared.nodes.Value.TheVariants.{Set}
use Rattle.values.proofs.Means.{rows-mean}

abbrev two-numbers : s.Value
two-numbers = set (cons (prim (int 9223372036854775809)) (cons (prim (int 9223372036854775810)) nil))

two-in-order : canonical two-numbers ≡ true
unfolding ascending less
two-in-order = refl

pub the-set : Good 2 (6 ∷ (2 ∷ (1 ∷ (9223372036854775809 ∷ (1 ∷ (9223372036854775810 ∷ [])))))) (Set 0)
the-set = (rows-mean.0 two-numbers 1 _ 0 two-in-order refl refl).good
