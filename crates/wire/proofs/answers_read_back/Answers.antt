use Rattle.wire.proofs.Answered.{answers-read-back}
use Rattle.wire.proofs.answers_read_back.Goals as goal

pub returns : goal.returns
returns c = answers-read-back
