use Rattle.std.proofs.Common.{◌∙◌}
use Rattle.spec.specs.Types.{entity_type_key}
use Rattle.schema_order.proofs.Lookups.{find-any}
use Rattle.schema_order.proofs.schema.Schema.has_type.Goals as goal

pub returns : goal.returns
returns c = c.among.ensures ∙ find-any entity_type_key _ _
