use Rattle.laws.proofs.Authorization.{reasons-and-errors}
use Rattle.laws.proofs.reasons_and_errors.Goals as goal

pub returns : goal.returns
returns c = reasons-and-errors
