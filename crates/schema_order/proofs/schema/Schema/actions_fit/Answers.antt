use Rattle.std.proofs.Common.{rules}
use Rattle.spec.specs.Validate.{well_formed_action}
use Rattle.schema_order.specs.Schemas.{schema_in}
use Rattle.schema_order.proofs.schema.Schema.actions_fit.Goals as goal

pub returns : goal.returns
returns c = c.all_items.ensures (well_formed_action (schema_in c.args.self.now)) (λ item b g p. search rules)
