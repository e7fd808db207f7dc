use Rattle.rows.proofs.Bounds.{store-fits-memory}
use Rattle.rows.proofs.store_fits_memory.Goals as goal

pub returns : goal.returns
returns c = store-fits-memory
