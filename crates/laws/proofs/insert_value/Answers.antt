use Rattle.laws.proofs.Older.{insert-value}
use Rattle.laws.proofs.insert_value.Goals as goal

pub returns : goal.returns
returns c = insert-value
