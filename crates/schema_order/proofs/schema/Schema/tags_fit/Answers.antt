use Rattle.std.proofs.Common.{arith}
use Rattle.wire.specs.Grammar.{type, read_node}
use Rattle.schema_order.specs.Schemas.{schema_in}
use Rattle.schema_order.proofs.Steps
use Rattle.schema_order.proofs.Forms
use Rattle.schema_order.proofs.schema.Schema.tags_fit.Goals as goal

pub bounds-self-at : goal.bounds-self-at
bounds-self-at c = Steps.inside (read_node 65 type) c.args.self.now.bytes.now c.args.at c.requires

pub returns-then-self-at-ne1 : goal.returns-then-self-at-ne1
returns-then-self-at-ne1 c = Forms.no-tags c.args.self.now.bytes.now c.args.at (schema_in c.args.self.now) c.requires c.if-self-at-ne1.true

pub overflow_add-at : goal.overflow_add-at
overflow_add-at c = omega (arith, Steps.inside (read_node 65 type) c.args.self.now.bytes.now c.args.at c.requires)

pub node_end-requires-clause-stands : goal.node_end-requires-clause-stands
node_end-requires-clause-stands c = (Steps.first-got (read_node 65 type) c.args.self.now.bytes.now c.args.at c.requires c.if-self-at-ne1.false)

pub bounds-self-node_end : goal.bounds-self-node_end
bounds-self-node_end c = (Steps.step (read_node 65 type) c.args.self.now.bytes.now c.args.at c.requires c.if-self-at-ne1.false _ (c.node_end.ensures.is, c.node_end.ensures.within.0, c.node_end.ensures.within.1)).more

pub returns-then-self-node_end-eq1 : goal.returns-then-self-node_end-eq1
returns-then-self-node_end-eq1 c = Forms.more-tags c.args.self.now.bytes.now c.args.at (schema_in c.args.self.now) c.requires c.if-self-at-ne1.false _ (c.node_end.ensures.is, c.node_end.ensures.within.0, c.node_end.ensures.within.1) c.if-self-node_end-eq1.true

pub type_fits-requires : goal.type_fits-requires
type_fits-requires c = (Steps.first-got (read_node 65 type) c.args.self.now.bytes.now c.args.at c.requires c.if-self-at-ne1.false)

pub returns : goal.returns
returns c = Forms.one_tag c.args.self.now.bytes.now c.args.at (schema_in c.args.self.now) c.requires c.if-self-at-ne1.false _ (c.node_end.ensures.is, c.node_end.ensures.within.0, c.node_end.ensures.within.1) c.if-self-node_end-eq1.false _ c.type_fits.ensures
