use Rattle.std.proofs.Common.{◌+◌, ◌*◌}
use Rattle.types.proofs.JoinRecords.{Joining}
use Rattle.types.proofs.joining.+joining.Given as goal

abbrev pub decreases-join : goal.decreases-join
decreases-join l = 3 * l.height

abbrev pub decreases-join_kind : goal.decreases-join_kind
decreases-join_kind l = 3 * l.height + 2

abbrev pub decreases-join_sets : goal.decreases-join_sets
decreases-join_sets l = 3 * l.height + 1

abbrev pub decreases-join_records : goal.decreases-join_records
decreases-join_records l = 3 * l.height + 1

-- the first attributes of the new record are what they should be
abbrev pub invariant-join_records-loop-i : goal.invariant-join_records-loop-i
invariant-join_records-loop-i l = Joining l.height l.store l.initial.work l.work l.a l.n l.p l.q l.i l.top
