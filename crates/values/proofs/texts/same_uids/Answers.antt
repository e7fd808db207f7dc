use Rattle.values.specs.Memory.{numbers}
use Rattle.values.specs.Held.{uid_at}
use Rattle.values.proofs.Orders.{same-uid-is}
use Rattle.values.proofs.texts.same_uids.Goals as goal

pub returns : goal.returns
returns c = let e = same-uid-is (uid_at (numbers c.args.memory.now) c.args.p) (uid_at (numbers c.args.memory.now) c.args.q) in cc
