use Rattle.std.proofs.Common.{◌∙◌}
use Rattle.schema_order.proofs.Opened.{and-two}
use Rattle.schema_order.proofs.Whole.{stands_at, schema-is, well-at}
use Rattle.schema_order.proofs.well_formed.Goals as goal

pub list_end-actions-requires : goal.list_end-actions-requires
list_end-actions-requires c = (schema-is c.args.bytes.now c.requires).0.0

pub rises-types_rise-requires : goal.rises-types_rise-requires
rises-types_rise-requires c = (schema-is c.args.bytes.now c.requires).0.0

pub rises-actions_rise-requires : goal.rises-actions_rise-requires
rises-actions_rise-requires c = (stands_at c.args.bytes.now c.requires _ c.list_end-actions.ensures.0).1

pub returns : goal.returns
returns c =
    and-two _ _ _ _ (and-two _ _ _ _ c.rises-types_rise.ensures c.rises-actions_rise.ensures) (and-two _ _ _ _ c.entries_fit-types_fit.ensures c.actions_fit.ensures)
    ∙ well-at c.args.bytes.now c.requires _ c.list_end-actions.ensures.0

pub invariant_of-schema : goal.invariant_of-schema
invariant_of-schema c = record { stands = stands_at c.args.bytes.now c.requires _ c.list_end-actions.ensures.0 }
