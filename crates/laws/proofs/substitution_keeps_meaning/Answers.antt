use Rattle.laws.proofs.Substitution.{substitution-keeps-meaning}
use Rattle.laws.proofs.substitution_keeps_meaning.Goals as goal

pub returns : goal.returns
returns c = substitution-keeps-meaning
