use Rattle.wire.proofs.Reading.{reads-back}
use Rattle.wire.proofs.reads_back.Goals as goal

pub returns : goal.returns
returns c = reads-back
