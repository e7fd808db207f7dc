use Rattle.laws.proofs.Older.{like-by-fuel}
use Rattle.laws.proofs.like_by_fuel.Goals as goal

pub returns : goal.returns
returns c = like-by-fuel
