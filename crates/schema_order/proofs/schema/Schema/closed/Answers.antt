use Rattle.std.proofs.Common.{rules}
use Rattle.schema_order.specs.declared.lists.Listed.TheVariants.{Uids}
use Rattle.schema_order.specs.Places.{list_at, closed_to}
use Rattle.schema_order.proofs.schema.Schema.closed.Goals as goal

pub returns : goal.returns
returns c = c.all_items.ensures (closed_to (list_at Uids c.args.self.now.bytes.now c.args.above)) (λ item b g p. search rules)
