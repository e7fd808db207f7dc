use Rattle.std.proofs.Common.{◌∙◌}
use Rattle.schema_order.proofs.Lookups.{action-type-got, action-type}
use Rattle.schema_order.proofs.known.is_of_type.Goals as goal

pub same_text-requires : goal.same_text-requires
same_text-requires c = (c.requires.0, action-type-got c.args.bytes.now c.args.action c.requires.1)

pub returns : goal.returns
returns c = c.same_text.ensures ∙ action-type c.args.bytes.now c.args.action _ c.requires.1
