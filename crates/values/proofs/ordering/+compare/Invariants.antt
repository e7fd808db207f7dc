use Rattle.values.specs.Memory.{numbers}
use Rattle.std.proofs.Common.{◌≡◌, ℕ, ◌+◌, ◌*◌, List}
use Rattle.values.specs.Held.{count}
use Rattle.values.proofs.Runs.{along, ahead, elements-stand, attrs-stand}
use Rattle.values.proofs.ordering.+compare.Given as goal

abbrev pub decreases-compare : goal.decreases-compare
decreases-compare l = 3 * l.height

abbrev pub decreases-compare_kind : goal.decreases-compare_kind
decreases-compare_kind l = 3 * l.height + 2

abbrev pub decreases-compare_sets : goal.decreases-compare_sets
decreases-compare_sets l = 3 * l.height + 1

abbrev pub decreases-compare_records : goal.decreases-compare_records
decreases-compare_records l = 3 * l.height + 1

abbrev pub invariant-compare_sets-loop-i : goal.invariant-compare_sets-loop-i
invariant-compare_sets-loop-i l =
    let m : List ℕ = numbers l.memory in
    ahead (elements-stand l.height m l.p l.q) (count m l.p) (count m l.q) l.i ≡ along (elements-stand l.height m l.p l.q) 0 (count m l.p) (count m l.q)

abbrev pub invariant-compare_records-loop-i : goal.invariant-compare_records-loop-i
invariant-compare_records-loop-i l =
    let m : List ℕ = numbers l.memory in
    ahead (attrs-stand l.height m l.p l.q) (count m l.p) (count m l.q) l.i ≡ along (attrs-stand l.height m l.p l.q) 0 (count m l.p) (count m l.q)
