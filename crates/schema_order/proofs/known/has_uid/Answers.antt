use Rattle.std.proofs.Common.{◌∙◌}
use Rattle.spec.specs.Values.{code_uid}
use Rattle.schema_order.proofs.Lookups.{by-uid}
use Rattle.schema_order.proofs.known.has_uid.Goals as goal

pub returns : goal.returns
returns c = c.among.ensures ∙ by-uid code_uid c.args.bytes.now c.args.uid _ c.requires.0
