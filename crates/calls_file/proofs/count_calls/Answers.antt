-- The file's beginning is reached over no call, and the place behind a call over one more.
use Rattle.std.proofs.Common.{◌≡◌, ◌∙◌, ap, sym, subst, Some, rules, arith}
use Rattle.calls_file.specs.Frames.{Steps}
use Rattle.calls_file.specs.Walk.{Reached, beginning}
use Rattle.calls_file.proofs.Placed.{over}
use Rattle.calls_file.proofs.count_calls.Goals as goal

pub loop-call-init : goal.loop-call-init
loop-call-init c =
    let start : c.into_iter-call-iterator.result.at ≡ 0 = ap (λ s. s.at) c.into_iter-call-iterator.ensures.into_iter_gives ∙ c.new-call-items.ensures.beginning in
    record {
      same = search rules;
      reached = subst (λ n. Reached c.args.file.now 0 n) (sym start) beginning;
      within = omega arith;
      few = omega arith;
    }

pub loop-call-preserved : goal.loop-call-preserved
loop-call-preserved c =
    let it = c.loop-call.call-iterator in
    let after = c.next.new.self in
    let inv = c.loop-call.invariant in
    let step = subst (λ r. Steps it.file.now it.at (Some r) after.file.now after.at) c.in_ok-call.was c.in-Some.ensures.steps in
    let all = over c.args.file.now it.file.now after.file.now c.loop-call.count it.at after.at c.in_ok-call.field-0 inv.same inv.reached inv.few step in
    record { same = all.0; reached = all.1; within = all.2; few = all.3 }
