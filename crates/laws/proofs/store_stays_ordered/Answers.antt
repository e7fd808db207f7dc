use Rattle.laws.proofs.Stores.{store-stays-ordered}
use Rattle.laws.proofs.store_stays_ordered.Goals as goal

pub returns : goal.returns
returns c = store-stays-ordered
