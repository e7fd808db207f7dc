-- The decision, the two lists and what fits, one after the other.
use Rattle.std.proofs.Common.{◌≡◌, ◌∷◌, sym, ◌∙◌, rules}
use Rattle.std.proofs.lemmas.Result.{err_from_is_err_and}
use Rattle.lines.proofs.Firsts.{same-rest}
use Rattle.lines.proofs.decisions.decided.Goals as goal

pub returns-in_err-fits : goal.returns-in_err-fits
returns-in_err-fits c response request entities e =
    let p = err_from_is_err_and c.from_residual-in_err-fits.result c.from_residual-in_err-fits.ensures.1 in
    let split : c.args.answer.now ≡ c.in_ok-decision.decision.now ∷ c.in_ok-decision.reasons.now = search rules in
    let one = c.in_ok-errors.ensures response.determining_policies _ (same-rest _ _ _ _ (sym split ∙ same-rest 4 4 _ _ e)) in
    let two = c.in_ok-flags.ensures response.erroring_policies _ one.0 in
    rw p.1 (p.2 ∙ c.in_err-fits.ensures request entities two.0)
