use Rattle.laws.proofs.Older.{insert-attr}
use Rattle.laws.proofs.insert_attr.Goals as goal

pub returns : goal.returns
returns c = insert-attr
