-- The schema that a call sets. Assumes nothing: these are definitions.
use Rattle.spec.specs.Types.{Schema}
use Rattle.schema_order.specs.declared.schema.Schema.{Schema as InBytes}
use Rattle.schema_order.specs.Places.{schema_at}

abbrev pub schema_in : InBytes → Schema
schema_in s = schema_at s.bytes.now s.actions
