use Rattle.std.proofs.Common.{arith}
use Rattle.wire.specs.Grammar.{type, read_node}
use Rattle.schema_order.proofs.Items.{got-at, got-as, ends_as, attribute-end}
use Rattle.schema_order.proofs.Parts.{attribute-parts}
use Rattle.schema_order.proofs.lists.item_end.Goals as goal

pub text_end-requires : goal.text_end-requires
text_end-requires c = got-as _ _ _ c.in-Names.is c.requires.1

pub node_end-requires-clause-stands : goal.node_end-requires-clause-stands
node_end-requires-clause-stands c = got-as _ _ _ c.in-Uids.is c.requires.1

pub node_end-requires-in-Entries-clause-stands : goal.node_end-requires-in-Entries-clause-stands
node_end-requires-in-Entries-clause-stands c = got-as _ _ _ c.in-Entries.is c.requires.1

pub node_end-requires-in-Actions-clause-stands : goal.node_end-requires-in-Actions-clause-stands
node_end-requires-in-Actions-clause-stands c = got-as _ _ _ c.in-Actions.is c.requires.1

pub text_end-requires-in-Attributes : goal.text_end-requires-in-Attributes
text_end-requires-in-Attributes c = (attribute-parts _ c.args.bytes.now c.args.at (got-as _ _ _ c.in-Attributes.is c.requires.1)).name

pub node_end-requires-in-Attributes-clause-stands : goal.node_end-requires-in-Attributes-clause-stands
node_end-requires-in-Attributes-clause-stands c =
    let p = attribute-parts _ c.args.bytes.now c.args.at (got-as _ _ _ c.in-Attributes.is c.requires.1) in
    got-at (read_node c.in-Attributes.height type) c.args.bytes.now _ _ c.text_end-in-Attributes.ensures.is p.body

pub returns-in-Names : goal.returns-in-Names
returns-in-Names c = ends_as _ _ _ _ _ _ c.in-Names.is (c.text_end.ensures.is, omega (arith, c.text_end.ensures.within), c.text_end.ensures.within.1)

pub returns-in-Uids : goal.returns-in-Uids
returns-in-Uids c = ends_as _ _ _ _ _ _ c.in-Uids.is (c.node_end.ensures.is, c.node_end.ensures.within.0, c.node_end.ensures.within.1)

pub returns-in-Entries : goal.returns-in-Entries
returns-in-Entries c = ends_as _ _ _ _ _ _ c.in-Entries.is (c.node_end-in-Entries.ensures.is, c.node_end-in-Entries.ensures.within.0, c.node_end-in-Entries.ensures.within.1)

pub returns-in-Actions : goal.returns-in-Actions
returns-in-Actions c = ends_as _ _ _ _ _ _ c.in-Actions.is (c.node_end-in-Actions.ensures.is, c.node_end-in-Actions.ensures.within.0, c.node_end-in-Actions.ensures.within.1)

pub returns-in-Attributes : goal.returns-in-Attributes
returns-in-Attributes c =
    let w = c.node_end-in-Attributes.ensures in
    let v = c.text_end-in-Attributes.ensures in
    let g = got-as _ _ _ c.in-Attributes.is c.requires.1 in
    ends_as _ _ _ _ _ _ c.in-Attributes.is (attribute-end c.args.bytes.now c.args.at _ c.text_end-in-Attributes.result _ g v.is w.is, omega (arith, v.within, w.within), w.within.1)
