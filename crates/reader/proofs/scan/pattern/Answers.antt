use Rattle.std.proofs.Common.{◌≡◌, ◌+◌, ◌-◌, length, drop, Ok, ap, sym, ◌∙◌, arith}
use Rattle.std.proofs.lemmas.Result.{err_from_is_err_and}
use Rattle.wire.specs.Read.{read_elements}
use Rattle.reader.specs.Found.{found}
use Rattle.reader.proofs.Along.{pattern-no-word, pattern-behind, elements-none, elements-more, elements-within, elements-stop}
use Rattle.reader.proofs.scan.pattern.Goals as goal

pub returns-in_err-long : goal.returns-in_err-long
returns-in_err-long c =
    let p = err_from_is_err_and c.from_residual.result c.from_residual.ensures.1 in
    rw (p.1, p.2) record { reads = pattern-no-word c.args.bytes.now c.args.at _ c.in_err-long.ensures.reads; within = c.in_err-long.ensures.within }

pub loop-init : goal.loop-init
loop-init c =
    let z : c.in_ok-long.long - 0 ≡ c.in_ok-long.long = omega arith in
    (omega (arith, c.in_ok-long.ensures.within), omega arith, ap (λ n. found (λ ps. 1 + length ps) (c.args.at + 8) (read_elements n (drop (c.args.at + 8) c.args.bytes.now))) z ∙ pattern-behind c.args.bytes.now c.args.at c.in_ok-long.long c.in_ok-long.ensures.reads)

pub element-requires : goal.element-requires
element-requires c = c.loop.invariant.0

pub returns-in_err-end : goal.returns-in_err-end
returns-in_err-end c =
    let p = err_from_is_err_and c.from_residual-in_err-end.result c.from_residual-in_err-end.ensures.1 in
    rw (p.1, p.2) record {
      reads = elements-stop c.args.bytes.now c.loop.end (c.in_ok-long.long - c.loop.counter) (omega arith) _ _ c.in_err-end.ensures ∙ c.loop.invariant.2;
      within = elements-within c.args.bytes.now c.loop.end (c.in_ok-long.long - c.loop.counter) (omega arith) _ c.loop.invariant.0 c.in_err-end.ensures;
    }

pub loop-preserved : goal.loop-preserved
loop-preserved c =
    let w = elements-more c.args.bytes.now c.loop.end (c.in_ok-long.long - c.loop.counter) (omega arith) (1 + c.loop.counter) c.in_ok-end.end c.loop.invariant.0 c.in_ok-end.ensures in
    let n : c.in_ok-long.long - (c.loop.counter + 1) ≡ c.in_ok-long.long - c.loop.counter - 1 = omega arith in
    let m : 1 + (c.loop.counter + 1) ≡ 1 + c.loop.counter + 1 = omega arith in (
      w.1,
      omega (arith, w.0, c.loop.invariant.1),
      ap (λ k. found (λ ps. k + length ps) c.in_ok-end.end (read_elements (c.in_ok-long.long - (c.loop.counter + 1)) (drop c.in_ok-end.end c.args.bytes.now))) m
          ∙ ap (λ k. found (λ ps. 1 + c.loop.counter + 1 + length ps) c.in_ok-end.end (read_elements k (drop c.in_ok-end.end c.args.bytes.now))) n ∙ sym w.2 ∙ c.loop.invariant.2,
    )

pub overflow_add-result : goal.overflow_add-result
overflow_add-result c = omega (arith, c.loop.invariant.0, c.loop.invariant.1, c.loop.auto.counter-end)

pub returns : goal.returns
returns c =
    let all_read : c.loop.counter ≡ c.in_ok-long.long = omega (arith, c.loop.auto.counter-end, c.loop-test.false) in
    record {
      reads = ap (λ m. Ok (record { end = c.loop.end; size = m })) (omega (arith, all_read)) ∙ elements-none c.args.bytes.now c.loop.end (c.in_ok-long.long - c.loop.counter) (λ ps. 1 + c.loop.counter + length ps) (omega (arith, all_read)) ∙ c.loop.invariant.2;
      within = (omega (arith, c.loop.invariant.1), c.loop.invariant.0, omega (arith, c.loop.invariant.1, all_read));
    }
