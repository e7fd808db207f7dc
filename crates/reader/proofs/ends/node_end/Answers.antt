use Rattle.wire.specs.Sizes.{size_tree}
use Rattle.reader.specs.Code.{kind_of}
use Rattle.reader.proofs.Stood.{found-end}
use Rattle.reader.proofs.ends.node_end.Goals as goal

pub returns : goal.returns
returns c =
    record { is = found-end (size_tree (kind_of c.args.kind)) c.args.at c.in-Ok.tree _ c.requires.stands c.in-Ok.ensures.reads; within = (c.in-Ok.ensures.within.0, c.in-Ok.ensures.within.1) }
