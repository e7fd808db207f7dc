-- The height falls; the elements of a set and the attributes of a record wait until all have come to something.
use Rattle.std.proofs.Common.{◌≡◌, ◌+◌, ◌*◌, length}
use Rattle.evaluator.proofs.Elements.{SetSoFar}
use Rattle.evaluator.proofs.Named.{RecordSoFar}
use Rattle.evaluator.proofs.Works.{request_of, entities_of}
use Rattle.evaluator.proofs.expressions.+evaluation.Given as goal

abbrev pub decreases-eval : goal.decreases-eval
decreases-eval l = 5 * l.height + 1

abbrev pub decreases-eval_row : goal.decreases-eval_row
decreases-eval_row l = 5 * l.inputs.height

abbrev pub decreases-eval_form : goal.decreases-eval_form
decreases-eval_form l = 5 * l.inputs.height + 4

abbrev pub decreases-eval_if : goal.decreases-eval_if
decreases-eval_if l = 5 * l.inputs.height + 1

abbrev pub decreases-eval_logic : goal.decreases-eval_logic
decreases-eval_logic l = 5 * l.inputs.height + 1

abbrev pub decreases-eval_unary : goal.decreases-eval_unary
decreases-eval_unary l = 5 * l.inputs.height + 1

abbrev pub decreases-eval_binary : goal.decreases-eval_binary
decreases-eval_binary l = 5 * l.inputs.height + 1

abbrev pub decreases-eval_below : goal.decreases-eval_below
decreases-eval_below l = 5 * l.inputs.height + 2

abbrev pub decreases-eval_set : goal.decreases-eval_set
decreases-eval_set l = 5 * l.inputs.height + 3

abbrev pub decreases-eval_record : goal.decreases-eval_record
decreases-eval_record l = 5 * l.inputs.height + 3

abbrev pub invariant-eval_set-loop-k : goal.invariant-eval_set-loop-k
invariant-eval_set-loop-k l = record {
  same : l.work.numbers.ghost_name ≡ l.initial.work.numbers.ghost_name;
  long : length l.work.numbers.now ≡ length l.initial.work.numbers.now;
  so_far : SetSoFar l.inputs.store.now l.inputs.height l.first l.n (request_of l.inputs l.initial.work) (entities_of l.inputs) l.initial.work.numbers.now l.initial.work.top l.limit l.work.numbers.now l.work.top l.at l.k;
}

abbrev pub invariant-eval_record-loop-k : goal.invariant-eval_record-loop-k
invariant-eval_record-loop-k l = record {
  same : l.work.numbers.ghost_name ≡ l.initial.work.numbers.ghost_name;
  long : length l.work.numbers.now ≡ length l.initial.work.numbers.now;
  so_far : RecordSoFar l.inputs.store.now l.inputs.height l.first l.n (request_of l.inputs l.initial.work) (entities_of l.inputs) l.initial.work.numbers.now l.initial.work.top l.limit l.work.numbers.now l.work.top l.name l.k;
}
