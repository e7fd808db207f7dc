use Rattle.std.proofs.Common.{sym, ◌∙◌}
use Rattle.std.proofs.lemmas.Result.{err_from_is_err_and}
use Rattle.reader.proofs.Whole.{none_first, first_there, no_call, call_ok, call-behind, call-err}
use Rattle.reader.proofs.scan.scan.Goals as goal

pub returns-in_err-first : goal.returns-in_err-first
returns-in_err-first c =
    let p = err_from_is_err_and c.from_residual.result c.from_residual.ensures.1 in
    rw (p.1, p.2) (none_first c.args.bytes.now c.first.result _ c.first.ensures.value (sym c.ok_or.ensures.value ∙ c.in_err-first.was))

pub returns-in_default : goal.returns-in_default
returns-in_default c = no_call c.args.bytes.now _ (first_there c.args.bytes.now c.first.result _ c.first.ensures.value (sym c.ok_or.ensures.value ∙ c.in_ok-first.was)) c.in_default.ensures

pub returns-then-found-bytes : goal.returns-then-found-bytes
returns-then-found-bytes c = call-behind c.args.bytes.now _ (first_there c.args.bytes.now c.first.result _ c.first.ensures.value (sym c.ok_or.ensures.value ∙ c.in_ok-first.was)) c.in-Ok.call c.in-Ok.ensures _ c.fields.ensures c.in_ok-found.found c.in_ok-found.ensures.reads c.if-found-bytes.true

pub returns : goal.returns
returns c = call_ok c.args.bytes.now _ (first_there c.args.bytes.now c.first.result _ c.first.ensures.value (sym c.ok_or.ensures.value ∙ c.in_ok-first.was)) c.in-Ok.call c.in-Ok.ensures _ c.fields.ensures c.in_ok-found.found c.in_ok-found.ensures.reads c.if-found-bytes.false

pub returns-in_err-found : goal.returns-in_err-found
returns-in_err-found c =
    let p = err_from_is_err_and c.from_residual-in_err-found.result c.from_residual-in_err-found.ensures.1 in
    rw (p.1, p.2) (call-err c.args.bytes.now _ (first_there c.args.bytes.now c.first.result _ c.first.ensures.value (sym c.ok_or.ensures.value ∙ c.in_ok-first.was)) c.in-Ok.call c.in-Ok.ensures _ c.fields.ensures _ c.in_err-found.ensures.reads)
