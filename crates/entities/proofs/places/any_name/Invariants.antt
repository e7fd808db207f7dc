use Rattle.values.specs.Memory.{numbers}
use Rattle.std.proofs.Common.{◌-◌, Bool}
use Rattle.spec.specs.Basics.{any}
use Rattle.spec.specs.Values.{EntityUID}
use Rattle.entities.specs.Rows.{uids_at, UIDsIn, TestsBy}
use Rattle.entities.proofs.Ancestry.{Left}
use Rattle.entities.proofs.places.any_name.Given as goal

-- the names that are left give what all give
abbrev pub invariant-loop : goal.invariant-loop
invariant-loop g l =
    UIDsIn (numbers l.memory) l.p (l.n - l.counter)
    × ((f : EntityUID → Bool) → TestsBy (numbers l.memory) (goal.F-post g l.test) f → Left (numbers l.memory) f (any f (uids_at (numbers l.memory) l.first l.n)) l.p (l.n - l.counter))
