use Rattle.values.proofs.Made.{work-grows}
use Rattle.values.proofs.work_grows.Goals as goal

pub returns : goal.returns
returns c = work-grows
