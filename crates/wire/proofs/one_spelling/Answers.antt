use Rattle.wire.proofs.Reading.{one-spelling}
use Rattle.wire.proofs.one_spelling.Goals as goal

pub returns : goal.returns
returns c = one-spelling
