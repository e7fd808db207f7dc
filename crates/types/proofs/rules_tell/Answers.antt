use Rattle.types.proofs.Rules as rules
use Rattle.types.proofs.rules_tell.Goals as goal

pub returns : goal.returns
returns c = rules.rules-tell
