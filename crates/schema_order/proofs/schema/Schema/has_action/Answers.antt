use Rattle.std.proofs.Common.{◌∙◌}
use Rattle.spec.specs.Types.{action_key}
use Rattle.schema_order.proofs.Lookups.{find-any, by-uid}
use Rattle.schema_order.proofs.schema.Schema.has_action.Goals as goal

pub returns : goal.returns
returns c = c.among.ensures ∙ by-uid action_key c.args.self.now.bytes.now c.args.uid _ c.requires ∙ find-any action_key _ _
