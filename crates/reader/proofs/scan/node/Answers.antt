use Rattle.std.proofs.Common.{length}
use Rattle.reader.proofs.Steps.{sizes-within}
use Rattle.reader.proofs.scan.node.Goals as goal

pub returns : goal.returns
returns c = record { reads = c.node.ensures.reads; within = sizes-within 0 0 c.args.at (length c.args.bytes.now) _ c.node.ensures.within }
