use Rattle.copy.proofs.BySize.{room-by-size}
use Rattle.copy.proofs.room_by_size.Goals as goal

pub returns : goal.returns
returns c = room-by-size
