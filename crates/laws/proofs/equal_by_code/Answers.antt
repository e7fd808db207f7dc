use Rattle.laws.proofs.Codes.{equal-by-code}
use Rattle.laws.proofs.equal_by_code.Goals as goal

pub returns : goal.returns
returns c = equal-by-code
