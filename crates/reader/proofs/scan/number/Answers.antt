use Rattle.std.proofs.Common.{arith}
use Rattle.std.proofs.lemmas.Result.{err_from_is_err_and}
use Rattle.reader.proofs.Along.{word_ok, taken-err}
use Rattle.reader.proofs.scan.number.Goals as goal

pub returns : goal.returns
returns c = record { reads = rw (word_ok c.args.at _ _ c.in_ok-word.ensures.reads); within = omega (arith, c.in_ok-word.ensures.within) }

pub returns-in_err-word : goal.returns-in_err-word
returns-in_err-word c =
    let p = err_from_is_err_and c.from_residual.result c.from_residual.ensures.1 in
    rw (p.1, p.2) record { reads = taken-err _ c.args.at _ _ c.in_err-word.ensures.reads; within = c.in_err-word.ensures.within }
