use Rattle.std.proofs.Common.{◌∙◌, arith}
use Rattle.schema_order.specs.Places.{read_item, key}
use Rattle.schema_order.proofs.Steps
use Rattle.schema_order.proofs.lists.follows.Goals as goal

pub bounds-bytes-next : goal.bounds-bytes-next
bounds-bytes-next c = Steps.inside (read_item c.args.listed) c.args.bytes.now c.args.next c.requires.1

pub returns-then-bytes-next-ne1 : goal.returns-then-bytes-next-ne1
returns-then-bytes-next-ne1 c = Steps.none_before (read_item c.args.listed) c.args.bytes.now c.args.next c.requires.1 (key c.args.listed) _ c.if-bytes-next-ne1.true

pub overflow_add-next : goal.overflow_add-next
overflow_add-next c = omega (arith, Steps.inside (read_item c.args.listed) c.args.bytes.now c.args.next c.requires.1)

pub less_key-requires : goal.less_key-requires
less_key-requires c = (c.requires.0, Steps.first-got (read_item c.args.listed) c.args.bytes.now c.args.next c.requires.1 c.if-bytes-next-ne1.false)

pub returns : goal.returns
returns c = c.less_key.ensures ∙ Steps.head-before (read_item c.args.listed) c.args.bytes.now c.args.next c.requires.1 (key c.args.listed) _ c.if-bytes-next-ne1.false
