use Rattle.laws.proofs.Lubs.{lub-is-least}
use Rattle.laws.proofs.lub_is_least.Goals as goal

pub returns : goal.returns
returns c = lub-is-least
