-- The cycle of the evaluator, function by function.
use Rattle.std.proofs.Common.{◌≡◌, suc, ◌+◌, ◌-◌, ◌*◌, ◌≤◌, true, ◌++◌, length, take, Ok, Err, sym, refl, ap, ◌∙◌, subst, arith}
use Rattle.spec.specs.Exprs.{ite}
use Rattle.spec.specs.Evaluate.{just_bool, apply2, evaluate}
use Rattle.values.specs.Held.{decode, Good}
use Rattle.values.specs.Making.{up_to}
use Rattle.operators.specs.Code.{error_of, Says}
use Rattle.exprs.specs.Stored.{op_of, expr_at, GoodExpr}
use Rattle.entities.specs.Rows.{entities_at, request_at}
use Rattle.evaluator.specs.Evaluated.{UnaryIn, AnswersOf1}
use Rattle.evaluator.specs.Running.{made, comes_to, size_of, expr_of, logic}
use Rattle.evaluator.proofs.Steps.{by-outcome, inside-good, opened, formed, string-says, entity-says, var-says, ite-wrong, unary-in, unary-says, binary-says, second-fails, lent-beyond, lent-up-to, keeps_on}
use Rattle.evaluator.proofs.Works.{request_of, entities_of, moves-one, moves-two, room-left, asked-since, says-since, asked-then, then-says, taller, handed-on-as, left-operand, right-came, last-operand, seen, as-seen, Chosen, chosen-then, chosen-else, ite-chosen, bools-same, bools-other, logic-wrong, decided-says, logic-open}
use Rattle.std.proofs.lemmas.List.{length-take-le, take-take}
use Rattle.spec.specs.Values as s
use Rattle.spec.specs.Exprs.{set, record_of}
use Rattle.values.specs.Held.{behind_text}
use Rattle.values.specs.Making.{waiting_values, waiting_attrs, values_of, attrs_of}
use Rattle.values.specs.declared.nodes.Value.TheVariants as Value
use Rattle.exprs.specs.Stored.{exprs_from, attrs_from}
use Rattle.entities.specs.Code.{AnswersOf2}
use Rattle.evaluator.proofs.Steps.{of-request}
use Rattle.evaluator.proofs.Elements.{rows_long, set-next, set-begins, set-goes-on, set_fails, set-ends, made-says}
use Rattle.evaluator.proofs.Named.{attrs-long, record-next, record-begins, record-goes-on, record-fails, record-ends}
use Rattle.evaluator.proofs.expressions.+evaluation.Goals as goal
use Rattle.evaluator.proofs.expressions.+evaluation.Goals.{eval_if-then-b, eval_if-else-b}

-- ---- eval_row
pub eval_row-read-requires-clause-inside : goal.eval_row-read-requires-clause-inside
eval_row-read-requires-clause-inside t c = inside-good c.args.inputs.height c.args.inputs.store.now c.args.at c.requires.good.3

pub eval_row-eval_form-requires : goal.eval_row-eval_form-requires
eval_row-eval_form-requires t c =
    let o = opened c.args.inputs.height c.args.inputs.store.now c.args.at c.read.result c.read.ensures c.requires.good.3 in
    (omega arith, (o.1, (omega (arith, o.0, c.requires.room), c.requires.asked)))

pub eval_row-returns-clause-moves : goal.eval_row-returns-clause-moves
eval_row-returns-clause-moves t c =
    let o = opened c.args.inputs.height c.args.inputs.store.now c.args.at c.read.result c.read.ensures c.requires.good.3 in
    moves-one (size_of c.args.inputs c.args.at) o.0 c.eval_form.ensures.moves

pub eval_row-returns-clause-says : goal.eval_row-returns-clause-says
eval_row-returns-clause-says t c =
    formed c.args.inputs.height c.args.inputs.store.now c.args.at c.read.result (made c.args.inputs c.eval_form.new.work) c.eval_form.result (request_at (made c.args.inputs c.args.work.now) c.args.inputs.env.now.request) (entities_at c.args.inputs.store.now c.args.inputs.env.now.entities) c.if-inputs-eq0.false c.read.ensures c.eval_form.ensures.says

-- ---- eval_form
pub eval_form-returns-in-String-clause-says : goal.eval_form-returns-in-String-clause-says
eval_form-returns-in-String-clause-says t c =
    string-says (c.args.inputs.height + 65) (GoodExpr c.args.inputs.height c.args.inputs.store.now) (expr_at c.args.inputs.height c.args.inputs.store.now) c.args.inputs.store.now (take c.args.work.now.top c.args.work.now.numbers.now) c.args.e c.in-String.p (request_at (made c.args.inputs c.args.work.now) c.args.inputs.env.now.request) (entities_at c.args.inputs.store.now c.args.inputs.env.now.entities) c.in-String.is c.requires.good

pub eval_form-returns-in-Entity-clause-says : goal.eval_form-returns-in-Entity-clause-says
eval_form-returns-in-Entity-clause-says t c =
    entity-says (c.args.inputs.height + 65) (GoodExpr c.args.inputs.height c.args.inputs.store.now) (expr_at c.args.inputs.height c.args.inputs.store.now) c.args.inputs.store.now (take c.args.work.now.top c.args.work.now.numbers.now) c.args.e c.in-Entity.p (request_at (made c.args.inputs c.args.work.now) c.args.inputs.env.now.request) (entities_at c.args.inputs.store.now c.args.inputs.env.now.entities) c.in-Entity.is c.requires.good

pub eval_form-returns-in-Var-clause-says : goal.eval_form-returns-in-Var-clause-says
eval_form-returns-in-Var-clause-says t c =
    var-says c.args.inputs.height c.args.inputs.store.now (made c.args.inputs c.args.work.now) (expr_at c.args.inputs.height c.args.inputs.store.now) c.args.inputs.env.now c.args.e c.in-Var.v c.value_of.result (entities_at c.args.inputs.store.now c.args.inputs.env.now.entities) c.in-Var.is c.value_of.ensures c.requires.asked

-- ---- eval_if
pub eval_if-returns-in_default : goal.eval_if-returns-in_default
eval_if-returns-in_default t c = record {
  same = c.eval_row.ensures.same;
  moves = moves-one (2 + size_of c.args.inputs c.args.x + size_of c.args.inputs c.args.y + size_of c.args.inputs c.args.z) (omega arith) c.eval_row.ensures.moves;
  says = ite-wrong (c.args.inputs.height + 65) (made c.args.inputs c.eval_row.new.work) c.in_ok-b.field-0 (expr_of c.args.inputs c.args.x) (expr_of c.args.inputs c.args.y) (expr_of c.args.inputs c.args.z) (request_of c.args.inputs c.args.work.now) (entities_of c.args.inputs) c.in_default.not-Bool c.in_ok-b.ensures.says;
}

pub eval_if-eval_row-requires-2 : goal.eval_if-eval_row-requires-2
eval_if-eval_row-requires-2 t c =
    let C : Chosen c.args.inputs.store.now c.args.inputs.height c.args.y c.args.z c.in-Bool.b c.if-b.eval_row = elim c.if-b.branch [
      | eval_if-then-b w ↦ chosen-then c.args.inputs.store.now c.args.inputs.height c.args.y c.args.z c.in-Bool.b c.if-b.eval_row w.if-b.true w.eval_row-is c.requires.then
      | eval_if-else-b w ↦ chosen-else c.args.inputs.store.now c.args.inputs.height c.args.y c.args.z c.in-Bool.b c.if-b.eval_row w.if-b.false w.eval_row-is c.requires.other
    ] in
    (omega arith, ((C.row, (room-left c.args.work.now c.eval_row.new.work (size_of c.args.inputs c.args.x) (size_of c.args.inputs c.if-b.eval_row) _ (omega (arith, C.few)) c.requires.room c.eval_row.ensures.moves, asked-then c.args.inputs c.args.work.now c.eval_row.new.work (size_of c.args.inputs c.args.x) c.requires.asked c.eval_row.ensures.moves))))

pub eval_if-returns-clause-moves : goal.eval_if-returns-clause-moves
eval_if-returns-clause-moves t c =
    let C : Chosen c.args.inputs.store.now c.args.inputs.height c.args.y c.args.z c.in-Bool.b c.if-b.eval_row = elim c.if-b.branch [
      | eval_if-then-b w ↦ chosen-then c.args.inputs.store.now c.args.inputs.height c.args.y c.args.z c.in-Bool.b c.if-b.eval_row w.if-b.true w.eval_row-is c.requires.then
      | eval_if-else-b w ↦ chosen-else c.args.inputs.store.now c.args.inputs.height c.args.y c.args.z c.in-Bool.b c.if-b.eval_row w.if-b.false w.eval_row-is c.requires.other
    ] in
    moves-two (2 + size_of c.args.inputs c.args.x + size_of c.args.inputs c.args.y + size_of c.args.inputs c.args.z) (omega (arith, C.few)) c.eval_row.ensures.moves c.eval_row-2.ensures.moves

pub eval_if-returns-clause-says : goal.eval_if-returns-clause-says
eval_if-returns-clause-says t c =
    let C : Chosen c.args.inputs.store.now c.args.inputs.height c.args.y c.args.z c.in-Bool.b c.if-b.eval_row = elim c.if-b.branch [
      | eval_if-then-b w ↦ chosen-then c.args.inputs.store.now c.args.inputs.height c.args.y c.args.z c.in-Bool.b c.if-b.eval_row w.if-b.true w.eval_row-is c.requires.then
      | eval_if-else-b w ↦ chosen-else c.args.inputs.store.now c.args.inputs.height c.args.y c.args.z c.in-Bool.b c.if-b.eval_row w.if-b.false w.eval_row-is c.requires.other
    ] in
    let q = request_of c.args.inputs c.args.work.now in
    let es = entities_of c.args.inputs in
    let m = made c.args.inputs c.eval_row-2.new.work in
    let e = expr_of c.args.inputs c.if-b.eval_row in
    by-outcome (suc (c.args.inputs.height + 65)) m c.eval_row-2.result (evaluate (ite (expr_of c.args.inputs c.args.x) (expr_of c.args.inputs c.args.y) (expr_of c.args.inputs c.args.z)) q es) (evaluate e q es)
    (ite-chosen (c.args.inputs.height + 65) (made c.args.inputs c.eval_row.new.work) c.in_ok-b.field-0 c.args.inputs.height c.args.inputs.store.now c.args.x c.args.y c.args.z c.if-b.eval_row c.in-Bool.b q es c.in-Bool.is C c.in_ok-b.ensures.says)
    (taller c.args.inputs c.eval_row-2.new.work (c.args.inputs.height + 65) c.eval_row-2.result (evaluate e q es)
    (then-says c.args.inputs c.args.work.now c.eval_row.new.work (size_of c.args.inputs c.args.x) c.requires.asked c.eval_row.ensures.moves (c.args.inputs.height + 65) m c.eval_row-2.result e c.eval_row-2.ensures.says))

-- ---- eval_logic
pub eval_logic-returns-in_default : goal.eval_logic-returns-in_default
eval_logic-returns-in_default t c = record {
  same = c.eval_row.ensures.same;
  moves = moves-one (2 + size_of c.args.inputs c.args.x + size_of c.args.inputs c.args.y) (omega arith) c.eval_row.ensures.moves;
  says = logic-wrong (c.args.inputs.height + 65) (made c.args.inputs c.eval_row.new.work) c.in_ok-b.field-0 (expr_of c.args.inputs c.args.x) (expr_of c.args.inputs c.args.y) (request_of c.args.inputs c.args.work.now) (entities_of c.args.inputs) c.args.decides c.in_default.not-Bool c.in_ok-b.ensures.says;
}

pub eval_logic-returns-then-b-decides-clause-says : goal.eval_logic-returns-then-b-decides-clause-says
eval_logic-returns-then-b-decides-clause-says t c =
    decided-says (c.args.inputs.height + 65) (made c.args.inputs c.eval_row.new.work) c.in_ok-b.field-0 (expr_of c.args.inputs c.args.x) (expr_of c.args.inputs c.args.y) (request_of c.args.inputs c.args.work.now) (entities_of c.args.inputs) c.args.decides c.in-Bool.b c.in-Bool.is (bools-same c.in-Bool.b c.args.decides c.if-b-decides.true) c.in_ok-b.ensures.says

pub eval_logic-eval_row-w-requires : goal.eval_logic-eval_row-w-requires
eval_logic-eval_row-w-requires t c =
    (omega arith, ((c.requires.right, (room-left c.args.work.now c.eval_row.new.work (size_of c.args.inputs c.args.x) (size_of c.args.inputs c.args.y) _ (omega arith) c.requires.room c.eval_row.ensures.moves, asked-then c.args.inputs c.args.work.now c.eval_row.new.work (size_of c.args.inputs c.args.x) c.requires.asked c.eval_row.ensures.moves))))

pub eval_logic-returns-clause-moves : goal.eval_logic-returns-clause-moves
eval_logic-returns-clause-moves t c = moves-two (2 + size_of c.args.inputs c.args.x + size_of c.args.inputs c.args.y) (omega arith) c.eval_row.ensures.moves c.eval_row-w.ensures.moves

pub eval_logic-returns-clause-says : goal.eval_logic-returns-clause-says
eval_logic-returns-clause-says t c =
    let q = request_of c.args.inputs c.args.work.now in
    let es = entities_of c.args.inputs in
    let m = made c.args.inputs c.eval_row-w.new.work in
    let l = expr_of c.args.inputs c.args.x in
    let r = expr_of c.args.inputs c.args.y in
    let d = then-says c.args.inputs c.args.work.now c.eval_row.new.work (size_of c.args.inputs c.args.x) c.requires.asked c.eval_row.ensures.moves (c.args.inputs.height + 65) m c.eval_row-w.result r c.eval_row-w.ensures.says in
    by-outcome (suc (c.args.inputs.height + 65)) m c.just_bool.result (evaluate (logic c.args.decides l r) q es) (just_bool (evaluate r q es))
    (logic-open (c.args.inputs.height + 65) (made c.args.inputs c.eval_row.new.work) c.in_ok-b.field-0 l r q es c.args.decides c.in-Bool.b c.in-Bool.is (bools-other c.in-Bool.b c.args.decides c.if-b-decides.false) c.in_ok-b.ensures.says)
    (taller c.args.inputs c.eval_row-w.new.work (c.args.inputs.height + 65) c.just_bool.result (just_bool (evaluate r q es)) (c.just_bool.ensures (c.args.inputs.height + 65) m (evaluate r q es) d))

-- ---- eval_unary
pub eval_unary-view-requires-clause-asked : goal.eval_unary-view-requires-clause-asked
eval_unary-view-requires-clause-asked t c = asked-then c.args.inputs c.args.work.now c.eval_row.new.work (size_of c.args.inputs c.args.x) c.requires.asked c.eval_row.ensures.moves

pub eval_unary-apply_unary-requires-clause-texts : goal.eval_unary-apply_unary-requires-clause-texts
eval_unary-apply_unary-requires-clause-texts t c =
    seen (λ s m e. UnaryIn m c.args.op) c.args.inputs c.eval_row.new.work c.view.result c.view.ensures.store c.view.ensures.work c.view.ensures.env
    (unary-in c.args.inputs.store.now (take c.eval_row.new.work.top c.eval_row.new.work.numbers.now) c.args.op c.requires.texts)

pub eval_unary-apply_unary-requires-clause-good : goal.eval_unary-apply_unary-requires-clause-good
eval_unary-apply_unary-requires-clause-good t c =
    seen (λ s m e. Good (c.args.inputs.height + 66) m c.in_ok-v.v) c.args.inputs c.eval_row.new.work c.view.result c.view.ensures.store c.view.ensures.work c.view.ensures.env
    (last-operand c.args.inputs c.eval_row.new.work c.args.inputs.height c.in_ok-v.v (comes_to c.args.inputs c.args.work.now (expr_of c.args.inputs c.args.x)) c.in_ok-v.ensures.says).1

pub eval_unary-returns-clause-says : goal.eval_unary-returns-clause-says
eval_unary-returns-clause-says t c =
    let e = expr_of c.args.inputs c.args.x in
    let made-now = take c.eval_row.new.work.top c.eval_row.new.work.numbers.now in
    unary-says c.args.inputs.height c.args.inputs.store.now made-now c.args.op e (request_of c.args.inputs c.args.work.now) (entities_of c.args.inputs) c.in_ok-v.v c.apply_unary.result c.requires.texts
    (last-operand c.args.inputs c.eval_row.new.work c.args.inputs.height c.in_ok-v.v (comes_to c.args.inputs c.args.work.now e) c.in_ok-v.ensures.says)
    (as-seen (λ s m e. AnswersOf1 (c.args.inputs.height + 66) m (entities_at s e.entities) c.args.op c.in_ok-v.v c.apply_unary.result) c.args.inputs c.eval_row.new.work c.view.result c.view.ensures.store c.view.ensures.work c.view.ensures.env c.apply_unary.ensures)

-- ---- eval_binary
pub eval_binary-eval_row-right-requires : goal.eval_binary-eval_row-right-requires
eval_binary-eval_row-right-requires t c =
    (omega arith, ((c.requires.right, (room-left c.args.work.now c.eval_row-left.new.work (size_of c.args.inputs c.args.x) (size_of c.args.inputs c.args.y) _ (omega arith) c.requires.room c.eval_row-left.ensures.moves, asked-then c.args.inputs c.args.work.now c.eval_row-left.new.work (size_of c.args.inputs c.args.x) c.requires.asked c.eval_row-left.ensures.moves))))

pub eval_binary-view-requires-clause-asked : goal.eval_binary-view-requires-clause-asked
eval_binary-view-requires-clause-asked t c =
    let A = asked-then c.args.inputs c.args.work.now c.eval_row-left.new.work (size_of c.args.inputs c.args.x) c.requires.asked c.eval_row-left.ensures.moves in
    asked-then c.args.inputs c.eval_row-left.new.work c.eval_row-right.new.work (size_of c.args.inputs c.args.y) A c.eval_row-right.ensures.moves

pub eval_binary-apply_binary-requires-clause-left : goal.eval_binary-apply_binary-requires-clause-left
eval_binary-apply_binary-requires-clause-left t c =
    seen (λ s m e. Good (c.args.inputs.height + 66) m c.in-Ok-Ok.v) c.args.inputs c.eval_row-right.new.work c.view.result c.view.ensures.store c.view.ensures.work c.view.ensures.env
    (left-operand c.args.inputs c.args.work.now c.eval_row-left.new.work c.eval_row-right.new.work (size_of c.args.inputs c.args.x) (size_of c.args.inputs c.args.y) c.args.inputs.height (expr_of c.args.inputs c.args.x) c.requires.asked c.eval_row-left.ensures.moves c.eval_row-right.ensures.moves c.eval_row-left.result c.in-Ok-Ok.v c.in-Ok-Ok.is-0 c.eval_row-left.ensures.says).1

pub eval_binary-apply_binary-requires-clause-right : goal.eval_binary-apply_binary-requires-clause-right
eval_binary-apply_binary-requires-clause-right t c =
    let e = expr_of c.args.inputs c.args.y in
    seen (λ s m e. Good (c.args.inputs.height + 66) m c.in-Ok-Ok.w) c.args.inputs c.eval_row-right.new.work c.view.result c.view.ensures.store c.view.ensures.work c.view.ensures.env
    (last-operand c.args.inputs c.eval_row-right.new.work c.args.inputs.height c.in-Ok-Ok.w (comes_to c.args.inputs c.args.work.now e)
    (right-came c.args.inputs c.args.work.now c.eval_row-left.new.work c.eval_row-right.new.work (size_of c.args.inputs c.args.x) (size_of c.args.inputs c.args.y) c.args.inputs.height e c.requires.asked c.eval_row-left.ensures.moves c.eval_row-right.ensures.moves c.eval_row-right.result (Ok c.in-Ok-Ok.w) c.in-Ok-Ok.is-1 c.eval_row-right.ensures.says)).1

pub eval_binary-returns-in-Err-default-clause-moves : goal.eval_binary-returns-in-Err-default-clause-moves
eval_binary-returns-in-Err-default-clause-moves t c = moves-two (3 + size_of c.args.inputs c.args.x + size_of c.args.inputs c.args.y) (omega arith) c.eval_row-left.ensures.moves c.eval_row-right.ensures.moves

pub eval_binary-returns-in-Ok-Err-clause-moves : goal.eval_binary-returns-in-Ok-Err-clause-moves
eval_binary-returns-in-Ok-Err-clause-moves t c = moves-two (3 + size_of c.args.inputs c.args.x + size_of c.args.inputs c.args.y) (omega arith) c.eval_row-left.ensures.moves c.eval_row-right.ensures.moves

pub eval_binary-returns-in-Ok-Err-clause-says : goal.eval_binary-returns-in-Ok-Err-clause-says
eval_binary-returns-in-Ok-Err-clause-says t c =
    let l = expr_of c.args.inputs c.args.x in
    let r = expr_of c.args.inputs c.args.y in
    let L = left-operand c.args.inputs c.args.work.now c.eval_row-left.new.work c.eval_row-right.new.work (size_of c.args.inputs c.args.x) (size_of c.args.inputs c.args.y) c.args.inputs.height l c.requires.asked c.eval_row-left.ensures.moves c.eval_row-right.ensures.moves c.eval_row-left.result c.in-Ok-Err.field-0-0 c.in-Ok-Err.is-0 c.eval_row-left.ensures.says in
    let R = right-came c.args.inputs c.args.work.now c.eval_row-left.new.work c.eval_row-right.new.work (size_of c.args.inputs c.args.x) (size_of c.args.inputs c.args.y) c.args.inputs.height r c.requires.asked c.eval_row-left.ensures.moves c.eval_row-right.ensures.moves c.eval_row-right.result (Err c.in-Ok-Err.e) c.in-Ok-Err.is-1 c.eval_row-right.ensures.says in
    second-fails (comes_to c.args.inputs c.args.work.now l) (comes_to c.args.inputs c.args.work.now r) (decode (c.args.inputs.height + 66) (made c.args.inputs c.eval_row-right.new.work) c.in-Ok-Err.field-0-0) (error_of c.in-Ok-Err.e) (λ a b. apply2 (op_of c.args.op) a b (entities_of c.args.inputs)) L.0 R

pub eval_binary-returns-in-Ok-Ok-clause-moves : goal.eval_binary-returns-in-Ok-Ok-clause-moves
eval_binary-returns-in-Ok-Ok-clause-moves t c = moves-two (3 + size_of c.args.inputs c.args.x + size_of c.args.inputs c.args.y) (omega arith) c.eval_row-left.ensures.moves c.eval_row-right.ensures.moves

pub eval_binary-returns-in-Ok-Ok-clause-says : goal.eval_binary-returns-in-Ok-Ok-clause-says
eval_binary-returns-in-Ok-Ok-clause-says t c =
    let l = expr_of c.args.inputs c.args.x in
    let r = expr_of c.args.inputs c.args.y in
    let m = made c.args.inputs c.eval_row-right.new.work in
    binary-says c.args.inputs.height m (op_of c.args.op) l r (request_of c.args.inputs c.args.work.now) (entities_of c.args.inputs) c.in-Ok-Ok.v c.in-Ok-Ok.w c.apply_binary.result
    (left-operand c.args.inputs c.args.work.now c.eval_row-left.new.work c.eval_row-right.new.work (size_of c.args.inputs c.args.x) (size_of c.args.inputs c.args.y) c.args.inputs.height l c.requires.asked c.eval_row-left.ensures.moves c.eval_row-right.ensures.moves c.eval_row-left.result c.in-Ok-Ok.v c.in-Ok-Ok.is-0 c.eval_row-left.ensures.says)
    (last-operand c.args.inputs c.eval_row-right.new.work c.args.inputs.height c.in-Ok-Ok.w (comes_to c.args.inputs c.args.work.now r)
    (right-came c.args.inputs c.args.work.now c.eval_row-left.new.work c.eval_row-right.new.work (size_of c.args.inputs c.args.x) (size_of c.args.inputs c.args.y) c.args.inputs.height r c.requires.asked c.eval_row-left.ensures.moves c.eval_row-right.ensures.moves c.eval_row-right.result (Ok c.in-Ok-Ok.w) c.in-Ok-Ok.is-1 c.eval_row-right.ensures.says))
    (as-seen (λ s m e. AnswersOf2 (c.args.inputs.height + 66) m (entities_at s e.entities) (op_of c.args.op) c.in-Ok-Ok.v c.in-Ok-Ok.w c.apply_binary.result) c.args.inputs c.eval_row-right.new.work c.view.result c.view.ensures.store c.view.ensures.work c.view.ensures.env c.apply_binary.ensures)

-- ---- eval_below
pub eval_below-returns-clause-beyond : goal.eval_below-returns-clause-beyond
eval_below-returns-clause-beyond t c =
    lent-beyond c.args.work.now.numbers.now c.eval.new.work c.args.limit (c.eval.auto.work ∙ length-take-le c.args.limit c.args.work.now.numbers.now c.requires.fits)

pub eval_below-returns-clause-says : goal.eval_below-returns-clause-says
eval_below-returns-clause-says t c =
    let store = c.args.inputs.store.now in
    let work = c.args.work.now.numbers.now in
    let low = c.eval.new.work in
    let long : length low ≡ c.args.limit = c.eval.auto.work ∙ length-take-le c.args.limit work c.requires.fits in
    let before : c.args.work.now.top ≤ c.args.limit = omega (arith, c.requires.room) in
    let after : c.eval.new.top ≤ c.args.limit = omega (arith, c.requires.room, c.eval.ensures.moves.few, c.requires.good.1) in
    let same : up_to store (take c.args.limit work) c.args.work.now.top ≡ up_to store work c.args.work.now.top = ap (λ k. store ++ k) (take-take c.args.work.now.top c.args.limit work before) in
    let e = expr_at c.args.inputs.height store c.args.at in
    subst (λ m. Says (c.args.inputs.height + 65) m c.eval.result (comes_to c.args.inputs c.args.work.now e)) (sym (lent-up-to work low c.args.limit long store c.eval.new.top after))
    (of-request (c.args.inputs.height + 65) (up_to store low c.eval.new.top) c.eval.result e (request_of c.args.inputs c.args.work.now) (request_at (up_to store (take c.args.limit work) c.args.work.now.top) c.args.inputs.env.now.request) (entities_of c.args.inputs) (ap (λ m. request_at m c.args.inputs.env.now.request) same) c.eval.ensures.says)

-- ---- eval_set and eval_record
pub eval_set-eval_below-requires : goal.eval_set-eval_below-requires
eval_set-eval_below-requires t c =
    let l = rows_long (GoodExpr c.args.inputs.height c.args.inputs.store.now) c.args.inputs.store.now c.args.first c.args.n c.requires.good in
    let N = set-next c.loop-k.invariant.so_far c.loop-k-test.true in
    (omega arith, ((omega (arith, c.loop-k.invariant.long), (N.row, (omega (arith, l, c.requires.room, c.loop-k.invariant.so_far.few, c.loop-k.invariant.so_far.past, c.loop-k.invariant.so_far.rises, N.sized, N.long, N.row.1, c.loop-k-test.true, c.loop-k.invariant.long), asked-since c.args.inputs c.args.work.now c.loop-k.work c.loop-k.invariant.so_far.rises c.loop-k.invariant.so_far.keeps c.requires.asked)))))

pub eval_set-returns-in_err-v-clause-same : goal.eval_set-returns-in_err-v-clause-same
eval_set-returns-in_err-v-clause-same t c = c.eval_below.ensures.same ∙ c.loop-k.invariant.same

pub eval_set-returns-in_err-v-clause-moves : goal.eval_set-returns-in_err-v-clause-moves
eval_set-returns-in_err-v-clause-moves t c =
    let N = set-next c.loop-k.invariant.so_far c.loop-k-test.true in
    record {
      long = c.eval_below.ensures.moves.long ∙ c.loop-k.invariant.long;
      moved = record {
        rises = omega (arith, c.loop-k.invariant.so_far.rises, c.eval_below.ensures.moves.moved.rises);
        few = omega (arith, c.loop-k.invariant.so_far.few, c.eval_below.ensures.moves.moved.few, N.sized);
        keeps = keeps_on c.args.work.now.top c.loop-k.work.top c.args.work.now.numbers.now c.loop-k.work.numbers.now c.eval_below.new.work.numbers.now c.loop-k.invariant.so_far.rises c.loop-k.invariant.so_far.keeps c.eval_below.ensures.moves.moved.keeps;
      };
    }

pub eval_set-returns-in_err-v-clause-says : goal.eval_set-returns-in_err-v-clause-says
eval_set-returns-in_err-v-clause-says t c =
    let d = says-since c.args.inputs c.args.work.now c.loop-k.work c.loop-k.invariant.so_far.rises c.loop-k.invariant.so_far.keeps c.requires.asked (c.args.inputs.height + 65) (made c.args.inputs c.eval_below.new.work) (Err c.in_err-v.field-0.0) (expr_of c.args.inputs c.loop-k.at) c.in_err-v.ensures.says in
    handed-on-as (suc (c.args.inputs.height + 65)) (made c.args.inputs c.eval_below.new.work) c.from_residual.result c.in_err-v.field-0.0 _ c.from_residual.ensures.1
    (set_fails c.args.inputs.store.now c.args.inputs.height c.args.first c.args.n (request_of c.args.inputs c.args.work.now) (entities_of c.args.inputs) c.args.work.now.numbers.now c.args.work.now.top (length c.args.work.now.numbers.now - 2 * c.args.n) c.loop-k.work.numbers.now c.eval_below.new.work.numbers.now c.eval_below.new.work.numbers.now c.loop-k.work.top c.eval_below.new.work.top c.loop-k.at c.loop-k.k (Value.Bool true) c.loop-k.invariant.so_far c.loop-k-test.true (error_of c.in_err-v.field-0.0) d)

pub eval_set-loop-k-init : goal.eval_set-loop-k-init
eval_set-loop-k-init t c = record { same = refl; long = refl; so_far = set-begins c.args.inputs.store.now c.args.inputs.height c.args.first c.args.n (request_of c.args.inputs c.args.work.now) (entities_of c.args.inputs) c.args.work.now.numbers.now c.args.work.now.top (length c.args.work.now.numbers.now - 2 * c.args.n) c.requires.good }

pub eval_set-loop-k-preserved : goal.eval_set-loop-k-preserved
eval_set-loop-k-preserved t c =
    let l = rows_long (GoodExpr c.args.inputs.height c.args.inputs.store.now) c.args.inputs.store.now c.args.first c.args.n c.requires.good in
    let N = set-next c.loop-k.invariant.so_far c.loop-k-test.true in
    let d = says-since c.args.inputs c.args.work.now c.loop-k.work c.loop-k.invariant.so_far.rises c.loop-k.invariant.so_far.keeps c.requires.asked (c.args.inputs.height + 65) (made c.args.inputs c.eval_below.new.work) (Ok c.in_ok-v.v) (expr_of c.args.inputs c.loop-k.at) c.in_ok-v.ensures.says in
    record {
      same = c.eval_below.ensures.same ∙ c.loop-k.invariant.same;
      long = c.lay_element.auto.work ∙ (c.eval_below.ensures.moves.long ∙ c.loop-k.invariant.long);
      so_far = set-goes-on c.args.inputs.store.now c.args.inputs.height c.args.first c.args.n (request_of c.args.inputs c.args.work.now) (entities_of c.args.inputs) c.args.work.now.numbers.now c.args.work.now.top (length c.args.work.now.numbers.now - 2 * c.args.n) c.loop-k.work.numbers.now c.eval_below.new.work.numbers.now c.lay_element.new.work c.loop-k.work.top c.eval_below.new.work.top c.loop-k.at c.loop-k.k c.in_ok-v.v c.loop-k.invariant.so_far c.loop-k-test.true c.eval_below.ensures.moves.moved c.eval_below.ensures.beyond
          (omega (arith, l, c.requires.room, c.loop-k.invariant.so_far.few, c.loop-k.invariant.so_far.past, c.eval_below.ensures.moves.moved.few, N.sized, N.long, N.row.1, c.loop-k-test.true)) d c.lay_element.ensures;
    }

pub eval_set-make_set-set-requires-clause-room : goal.eval_set-make_set-set-requires-clause-room
eval_set-make_set-set-requires-clause-room t c =
    let l = rows_long (GoodExpr c.args.inputs.height c.args.inputs.store.now) c.args.inputs.store.now c.args.first c.args.n c.requires.good in
    omega (arith, l, c.requires.room, c.loop-k.invariant.so_far.few, c.loop-k.invariant.so_far.rises, c.loop-k-test.false, c.loop-k.auto.k-end, c.loop-k.invariant.long)

pub eval_set-make_set-set-requires-clause-fits : goal.eval_set-make_set-set-requires-clause-fits
eval_set-make_set-set-requires-clause-fits t c =
    let l = rows_long (GoodExpr c.args.inputs.height c.args.inputs.store.now) c.args.inputs.store.now c.args.first c.args.n c.requires.good in
    omega (arith, l, c.requires.room, c.loop-k.invariant.so_far.few, c.loop-k.invariant.so_far.rises, c.loop-k-test.false, c.loop-k.auto.k-end, c.loop-k.invariant.long)

pub eval_set-make_set-set-requires-clause-good : goal.eval_set-make_set-set-requires-clause-good
eval_set-make_set-set-requires-clause-good t c =
    λ j b. c.loop-k.invariant.so_far.good j (omega (arith, c.loop-k-test.false))

pub eval_set-returns-clause-same : goal.eval_set-returns-clause-same
eval_set-returns-clause-same t c = c.loop-k.invariant.same

pub eval_set-returns-clause-moves : goal.eval_set-returns-clause-moves
eval_set-returns-clause-moves t c =
    let l = rows_long (GoodExpr c.args.inputs.height c.args.inputs.store.now) c.args.inputs.store.now c.args.first c.args.n c.requires.good in
    record {
      long = c.make_set-set.auto.work ∙ c.loop-k.invariant.long;
      moved = record {
        rises = omega (arith, c.loop-k.invariant.so_far.rises, c.make_set-set.ensures.rises);
        few = omega (arith, l, c.loop-k.invariant.so_far.few, c.make_set-set.ensures.few, c.loop-k-test.false);
        keeps = keeps_on c.args.work.now.top c.loop-k.work.top c.args.work.now.numbers.now c.loop-k.work.numbers.now c.make_set-set.new.work c.loop-k.invariant.so_far.rises c.loop-k.invariant.so_far.keeps c.make_set-set.ensures.keeps;
      };
    }

pub eval_set-returns-clause-says : goal.eval_set-returns-clause-says
eval_set-returns-clause-says t c =
    made-says c.args.inputs.height (up_to c.args.inputs.store.now c.make_set-set.new.work c.make_set-set.new.top) c.make_set-set.result (s.set (values_of (waiting_values (c.args.inputs.height + 65) (up_to c.args.inputs.store.now c.loop-k.work.numbers.now c.loop-k.work.top) c.loop-k.work.numbers.now (length c.args.work.now.numbers.now - 2 * c.args.n) c.args.n))) (evaluate (set (exprs_from (expr_at c.args.inputs.height c.args.inputs.store.now) c.args.inputs.store.now c.args.first c.args.n)) (request_of c.args.inputs c.args.work.now) (entities_of c.args.inputs))
    (set-ends c.args.inputs.store.now c.args.inputs.height c.args.first c.args.n (request_of c.args.inputs c.args.work.now) (entities_of c.args.inputs) c.args.work.now.numbers.now c.args.work.now.top (length c.args.work.now.numbers.now - 2 * c.args.n) c.loop-k.work.numbers.now c.loop-k.work.top c.loop-k.at c.loop-k.k c.loop-k.invariant.so_far c.loop-k-test.false (omega (arith, c.loop-k.auto.k-end))) c.make_set-set.ensures.is

pub eval_record-eval_below-requires : goal.eval_record-eval_below-requires
eval_record-eval_below-requires t c =
    let l = attrs-long (GoodExpr c.args.inputs.height c.args.inputs.store.now) c.args.inputs.store.now c.args.first c.args.n c.requires.good in
    let N = record-next c.loop-k.invariant.so_far c.loop-k-test.true in
    (omega arith, ((omega (arith, c.loop-k.invariant.long), (N.row, (omega (arith, l, c.requires.room, c.loop-k.invariant.so_far.few, c.loop-k.invariant.so_far.past, c.loop-k.invariant.so_far.rises, N.sized, N.long, N.row.1, c.loop-k-test.true, c.loop-k.invariant.long), asked-since c.args.inputs c.args.work.now c.loop-k.work c.loop-k.invariant.so_far.rises c.loop-k.invariant.so_far.keeps c.requires.asked)))))

pub eval_record-returns-in_err-v-clause-same : goal.eval_record-returns-in_err-v-clause-same
eval_record-returns-in_err-v-clause-same t c = c.eval_below.ensures.same ∙ c.loop-k.invariant.same

pub eval_record-returns-in_err-v-clause-moves : goal.eval_record-returns-in_err-v-clause-moves
eval_record-returns-in_err-v-clause-moves t c =
    let N = record-next c.loop-k.invariant.so_far c.loop-k-test.true in
    record {
      long = c.eval_below.ensures.moves.long ∙ c.loop-k.invariant.long;
      moved = record {
        rises = omega (arith, c.loop-k.invariant.so_far.rises, c.eval_below.ensures.moves.moved.rises);
        few = omega (arith, c.loop-k.invariant.so_far.few, c.eval_below.ensures.moves.moved.few, N.sized);
        keeps = keeps_on c.args.work.now.top c.loop-k.work.top c.args.work.now.numbers.now c.loop-k.work.numbers.now c.eval_below.new.work.numbers.now c.loop-k.invariant.so_far.rises c.loop-k.invariant.so_far.keeps c.eval_below.ensures.moves.moved.keeps;
      };
    }

pub eval_record-returns-in_err-v-clause-says : goal.eval_record-returns-in_err-v-clause-says
eval_record-returns-in_err-v-clause-says t c =
    let d = says-since c.args.inputs c.args.work.now c.loop-k.work c.loop-k.invariant.so_far.rises c.loop-k.invariant.so_far.keeps c.requires.asked (c.args.inputs.height + 65) (made c.args.inputs c.eval_below.new.work) (Err c.in_err-v.field-0.0) (expr_of c.args.inputs (behind_text c.args.inputs.store.now c.loop-k.name)) c.in_err-v.ensures.says in
    handed-on-as (suc (c.args.inputs.height + 65)) (made c.args.inputs c.eval_below.new.work) c.from_residual.result c.in_err-v.field-0.0 _ c.from_residual.ensures.1
    (record-fails c.args.inputs.store.now c.args.inputs.height c.args.first c.args.n (request_of c.args.inputs c.args.work.now) (entities_of c.args.inputs) c.args.work.now.numbers.now c.args.work.now.top (length c.args.work.now.numbers.now - 3 * c.args.n) c.loop-k.work.numbers.now c.eval_below.new.work.numbers.now c.eval_below.new.work.numbers.now c.loop-k.work.top c.eval_below.new.work.top c.loop-k.name c.loop-k.k (Value.Bool true) c.loop-k.invariant.so_far c.loop-k-test.true (error_of c.in_err-v.field-0.0) d)

pub eval_record-loop-k-init : goal.eval_record-loop-k-init
eval_record-loop-k-init t c = record { same = refl; long = refl; so_far = record-begins c.args.inputs.store.now c.args.inputs.height c.args.first c.args.n (request_of c.args.inputs c.args.work.now) (entities_of c.args.inputs) c.args.work.now.numbers.now c.args.work.now.top (length c.args.work.now.numbers.now - 3 * c.args.n) c.requires.good }

pub eval_record-loop-k-preserved : goal.eval_record-loop-k-preserved
eval_record-loop-k-preserved t c =
    let l = attrs-long (GoodExpr c.args.inputs.height c.args.inputs.store.now) c.args.inputs.store.now c.args.first c.args.n c.requires.good in
    let N = record-next c.loop-k.invariant.so_far c.loop-k-test.true in
    let d = says-since c.args.inputs c.args.work.now c.loop-k.work c.loop-k.invariant.so_far.rises c.loop-k.invariant.so_far.keeps c.requires.asked (c.args.inputs.height + 65) (made c.args.inputs c.eval_below.new.work) (Ok c.in_ok-v.v) (expr_of c.args.inputs (behind_text c.args.inputs.store.now c.loop-k.name)) c.in_ok-v.ensures.says in
    record {
      same = c.eval_below.ensures.same ∙ c.loop-k.invariant.same;
      long = c.lay_attr.auto.work ∙ (c.eval_below.ensures.moves.long ∙ c.loop-k.invariant.long);
      so_far = record-goes-on c.args.inputs.store.now c.args.inputs.height c.args.first c.args.n (request_of c.args.inputs c.args.work.now) (entities_of c.args.inputs) c.args.work.now.numbers.now c.args.work.now.top (length c.args.work.now.numbers.now - 3 * c.args.n) c.loop-k.work.numbers.now c.eval_below.new.work.numbers.now c.lay_attr.new.work c.loop-k.work.top c.eval_below.new.work.top c.loop-k.name c.loop-k.k c.in_ok-v.v c.loop-k.invariant.so_far c.loop-k-test.true c.eval_below.ensures.moves.moved c.eval_below.ensures.beyond
          (omega (arith, l, c.requires.room, c.loop-k.invariant.so_far.few, c.loop-k.invariant.so_far.past, c.eval_below.ensures.moves.moved.few, N.sized, N.long, N.row.1, c.loop-k-test.true)) d c.lay_attr.ensures;
    }

pub eval_record-make_record-record-requires-clause-room : goal.eval_record-make_record-record-requires-clause-room
eval_record-make_record-record-requires-clause-room t c =
    let l = attrs-long (GoodExpr c.args.inputs.height c.args.inputs.store.now) c.args.inputs.store.now c.args.first c.args.n c.requires.good in
    omega (arith, l, c.requires.room, c.loop-k.invariant.so_far.few, c.loop-k.invariant.so_far.rises, c.loop-k-test.false, c.loop-k.auto.k-end, c.loop-k.invariant.long)

pub eval_record-make_record-record-requires-clause-fits : goal.eval_record-make_record-record-requires-clause-fits
eval_record-make_record-record-requires-clause-fits t c =
    let l = attrs-long (GoodExpr c.args.inputs.height c.args.inputs.store.now) c.args.inputs.store.now c.args.first c.args.n c.requires.good in
    omega (arith, l, c.requires.room, c.loop-k.invariant.so_far.few, c.loop-k.invariant.so_far.rises, c.loop-k-test.false, c.loop-k.auto.k-end, c.loop-k.invariant.long)

pub eval_record-make_record-record-requires-clause-texts : goal.eval_record-make_record-record-requires-clause-texts
eval_record-make_record-record-requires-clause-texts t c =
    λ j b. c.loop-k.invariant.so_far.texts j (omega (arith, c.loop-k-test.false))

pub eval_record-make_record-record-requires-clause-good : goal.eval_record-make_record-record-requires-clause-good
eval_record-make_record-record-requires-clause-good t c =
    λ j b. c.loop-k.invariant.so_far.good j (omega (arith, c.loop-k-test.false))

pub eval_record-returns-clause-same : goal.eval_record-returns-clause-same
eval_record-returns-clause-same t c = c.loop-k.invariant.same

pub eval_record-returns-clause-moves : goal.eval_record-returns-clause-moves
eval_record-returns-clause-moves t c =
    let l = attrs-long (GoodExpr c.args.inputs.height c.args.inputs.store.now) c.args.inputs.store.now c.args.first c.args.n c.requires.good in
    record {
      long = c.make_record-record.auto.work ∙ c.loop-k.invariant.long;
      moved = record {
        rises = omega (arith, c.loop-k.invariant.so_far.rises, c.make_record-record.ensures.rises);
        few = omega (arith, l, c.loop-k.invariant.so_far.few, c.make_record-record.ensures.few, c.loop-k-test.false);
        keeps = keeps_on c.args.work.now.top c.loop-k.work.top c.args.work.now.numbers.now c.loop-k.work.numbers.now c.make_record-record.new.work c.loop-k.invariant.so_far.rises c.loop-k.invariant.so_far.keeps c.make_record-record.ensures.keeps;
      };
    }

pub eval_record-returns-clause-says : goal.eval_record-returns-clause-says
eval_record-returns-clause-says t c =
    made-says c.args.inputs.height (up_to c.args.inputs.store.now c.make_record-record.new.work c.make_record-record.new.top) c.make_record-record.result (s.record_of (attrs_of (waiting_attrs (c.args.inputs.height + 65) (up_to c.args.inputs.store.now c.loop-k.work.numbers.now c.loop-k.work.top) c.loop-k.work.numbers.now (length c.args.work.now.numbers.now - 3 * c.args.n) c.args.n))) (evaluate (record_of (attrs_from (expr_at c.args.inputs.height c.args.inputs.store.now) c.args.inputs.store.now c.args.first c.args.n)) (request_of c.args.inputs c.args.work.now) (entities_of c.args.inputs))
    (record-ends c.args.inputs.store.now c.args.inputs.height c.args.first c.args.n (request_of c.args.inputs c.args.work.now) (entities_of c.args.inputs) c.args.work.now.numbers.now c.args.work.now.top (length c.args.work.now.numbers.now - 3 * c.args.n) c.loop-k.work.numbers.now c.loop-k.work.top c.loop-k.name c.loop-k.k c.loop-k.invariant.so_far c.loop-k-test.false (omega (arith, c.loop-k.auto.k-end))) c.make_record-record.ensures.is

pub eval_set-overflow_mul-limit : goal.eval_set-overflow_mul-limit
eval_set-overflow_mul-limit t c =
    let l = rows_long (GoodExpr c.args.inputs.height c.args.inputs.store.now) c.args.inputs.store.now c.args.first c.args.n c.requires.good in
    omega (arith, l, c.requires.room)

pub eval_set-overflow_sub-limit : goal.eval_set-overflow_sub-limit
eval_set-overflow_sub-limit t c =
    let l = rows_long (GoodExpr c.args.inputs.height c.args.inputs.store.now) c.args.inputs.store.now c.args.first c.args.n c.requires.good in
    omega (arith, l, c.requires.room)

pub eval_set-overflow_mul-k : goal.eval_set-overflow_mul-k
eval_set-overflow_mul-k t c = omega (arith, c.loop-k-test.true, rows_long (GoodExpr c.args.inputs.height c.args.inputs.store.now) c.args.inputs.store.now c.args.first c.args.n c.requires.good, c.requires.room)

pub eval_set-overflow_add-limit : goal.eval_set-overflow_add-limit
eval_set-overflow_add-limit t c =
    let l = rows_long (GoodExpr c.args.inputs.height c.args.inputs.store.now) c.args.inputs.store.now c.args.first c.args.n c.requires.good in
    omega (arith, l, c.loop-k-test.true, c.requires.room)

pub eval_set-lay_element-requires : goal.eval_set-lay_element-requires
eval_set-lay_element-requires t c =
    let l = rows_long (GoodExpr c.args.inputs.height c.args.inputs.store.now) c.args.inputs.store.now c.args.first c.args.n c.requires.good in
    omega (arith, l, c.loop-k-test.true, c.requires.room, c.loop-k.invariant.long, c.eval_below.ensures.moves.long)

pub eval_set-overflow_add-at : goal.eval_set-overflow_add-at
eval_set-overflow_add-at t c =
    let N = set-next c.loop-k.invariant.so_far c.loop-k-test.true in
    omega (arith, N.row.0)

pub eval_set-offset_bounds-inputs-at : goal.eval_set-offset_bounds-inputs-at
eval_set-offset_bounds-inputs-at t c =
    let N = set-next c.loop-k.invariant.so_far c.loop-k-test.true in
    omega (arith, N.row.0)

pub eval_set-bounds-inputs-at : goal.eval_set-bounds-inputs-at
eval_set-bounds-inputs-at t c =
    let N = set-next c.loop-k.invariant.so_far c.loop-k-test.true in
    omega (arith, N.row.0)

pub eval_set-overflow_add-at-in-loop-k : goal.eval_set-overflow_add-at-in-loop-k
eval_set-overflow_add-at-in-loop-k t c =
    let N = set-next c.loop-k.invariant.so_far c.loop-k-test.true in
    omega (arith, N.row.2)

pub eval_record-overflow_mul-limit : goal.eval_record-overflow_mul-limit
eval_record-overflow_mul-limit t c =
    let l = attrs-long (GoodExpr c.args.inputs.height c.args.inputs.store.now) c.args.inputs.store.now c.args.first c.args.n c.requires.good in
    omega (arith, l, c.requires.room)

pub eval_record-overflow_sub-limit : goal.eval_record-overflow_sub-limit
eval_record-overflow_sub-limit t c =
    let l = attrs-long (GoodExpr c.args.inputs.height c.args.inputs.store.now) c.args.inputs.store.now c.args.first c.args.n c.requires.good in
    omega (arith, l, c.requires.room)

pub eval_record-overflow_mul-k : goal.eval_record-overflow_mul-k
eval_record-overflow_mul-k t c = omega (arith, c.loop-k-test.true, attrs-long (GoodExpr c.args.inputs.height c.args.inputs.store.now) c.args.inputs.store.now c.args.first c.args.n c.requires.good, c.requires.room)

pub eval_record-overflow_add-limit : goal.eval_record-overflow_add-limit
eval_record-overflow_add-limit t c =
    let l = attrs-long (GoodExpr c.args.inputs.height c.args.inputs.store.now) c.args.inputs.store.now c.args.first c.args.n c.requires.good in
    omega (arith, l, c.loop-k-test.true, c.requires.room)

pub eval_record-lay_attr-requires : goal.eval_record-lay_attr-requires
eval_record-lay_attr-requires t c =
    let l = attrs-long (GoodExpr c.args.inputs.height c.args.inputs.store.now) c.args.inputs.store.now c.args.first c.args.n c.requires.good in
    omega (arith, l, c.loop-k-test.true, c.requires.room, c.loop-k.invariant.long, c.eval_below.ensures.moves.long)

pub eval_record-overflow_add-at : goal.eval_record-overflow_add-at
eval_record-overflow_add-at t c =
    let N = record-next c.loop-k.invariant.so_far c.loop-k-test.true in
    omega (arith, N.text)

pub eval_record-offset_bounds-inputs-name : goal.eval_record-offset_bounds-inputs-name
eval_record-offset_bounds-inputs-name t c =
    let N = record-next c.loop-k.invariant.so_far c.loop-k-test.true in
    omega (arith, N.text)

pub eval_record-bounds-inputs-name : goal.eval_record-bounds-inputs-name
eval_record-bounds-inputs-name t c =
    let N = record-next c.loop-k.invariant.so_far c.loop-k-test.true in
    omega (arith, N.text)

pub eval_record-overflow_add-at-in-loop-k : goal.eval_record-overflow_add-at-in-loop-k
eval_record-overflow_add-at-in-loop-k t c =
    let N = record-next c.loop-k.invariant.so_far c.loop-k-test.true in
    omega (arith, N.text)

pub eval_record-overflow_add-name : goal.eval_record-overflow_add-name
eval_record-overflow_add-name t c =
    let N = record-next c.loop-k.invariant.so_far c.loop-k-test.true in
    omega (arith, N.row.0)

pub eval_record-offset_bounds-inputs-at : goal.eval_record-offset_bounds-inputs-at
eval_record-offset_bounds-inputs-at t c =
    let N = record-next c.loop-k.invariant.so_far c.loop-k-test.true in
    omega (arith, N.row.0)

pub eval_record-bounds-inputs-at : goal.eval_record-bounds-inputs-at
eval_record-bounds-inputs-at t c =
    let N = record-next c.loop-k.invariant.so_far c.loop-k-test.true in
    omega (arith, N.row.0)

pub eval_record-overflow_add-name-in-loop-k : goal.eval_record-overflow_add-name-in-loop-k
eval_record-overflow_add-name-in-loop-k t c =
    let N = record-next c.loop-k.invariant.so_far c.loop-k-test.true in
    omega (arith, N.row.2)
