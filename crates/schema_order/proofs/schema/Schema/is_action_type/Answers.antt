use Rattle.std.proofs.Common.{rules}
use Rattle.spec.specs.Basics.{same}
use Rattle.schema_order.specs.Places.{text_at}
use Rattle.schema_order.proofs.schema.Schema.is_action_type.Goals as goal

pub returns : goal.returns
returns c = c.any_item.ensures (λ a. same (text_at c.args.self.now.bytes.now c.args.name) a.uid.ty) (λ item b g p. search rules)
