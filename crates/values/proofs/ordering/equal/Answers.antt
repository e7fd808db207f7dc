use Rattle.values.specs.Memory.{numbers}
use Rattle.values.specs.Held.{decode}
use Rattle.values.proofs.Orders.{same-is}
use Rattle.values.proofs.ordering.equal.Goals as goal

pub returns : goal.returns
returns c = let e = same-is (decode c.args.height (numbers c.args.memory.now) c.args.v) (decode c.args.height (numbers c.args.memory.now) c.args.w) in cc
