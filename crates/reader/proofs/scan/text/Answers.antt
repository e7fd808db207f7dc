use Rattle.std.proofs.Common.{arith}
use Rattle.std.proofs.lemmas.Result.{err_from_is_err_and}
use Rattle.reader.proofs.Along.{text-no-word, text-cut, text-whole}
use Rattle.reader.proofs.scan.text.Goals as goal

pub returns-in_err-long : goal.returns-in_err-long
returns-in_err-long c =
    let p = err_from_is_err_and c.from_residual.result c.from_residual.ensures.1 in
    rw (p.1, p.2) record { reads = text-no-word c.args.bytes.now c.args.at _ c.in_err-long.ensures.reads; within = c.in_err-long.ensures.within }

pub returns-then-bytes-start : goal.returns-then-bytes-start
returns-then-bytes-start c = record { reads = text-cut c.args.bytes.now c.args.at _ c.in_ok-long.ensures.reads c.in_ok-long.ensures.within c.if-bytes-start.true; within = omega arith }

pub returns : goal.returns
returns c = record { reads = text-whole c.args.bytes.now c.args.at _ c.in_ok-long.ensures.reads c.if-bytes-start.false; within = omega (arith, c.in_ok-long.ensures.within) }
