use Rattle.store.proofs.Rooms.{never-runs-out}
use Rattle.store.proofs.memory_never_runs_out.Goals as goal

pub returns : goal.returns
returns c = never-runs-out
