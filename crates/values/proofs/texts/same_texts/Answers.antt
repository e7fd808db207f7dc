use Rattle.values.specs.Memory.{numbers}
use Rattle.values.specs.Held.{text_at}
use Rattle.values.proofs.Orders.{same-text-is}
use Rattle.values.proofs.texts.same_texts.Goals as goal

pub returns : goal.returns
returns c = let e = same-text-is (text_at (numbers c.args.memory.now) c.args.p) (text_at (numbers c.args.memory.now) c.args.q) in cc
