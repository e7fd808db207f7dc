use Rattle.laws.proofs.Older.{same-by-parts}
use Rattle.laws.proofs.same_by_parts.Goals as goal

pub returns : goal.returns
returns c = same-by-parts
