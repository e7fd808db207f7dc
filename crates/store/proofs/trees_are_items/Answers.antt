use Rattle.store.proofs.AsItems.{trees-are-items}
use Rattle.store.proofs.trees_are_items.Goals as goal

pub returns : goal.returns
returns c = trees-are-items
