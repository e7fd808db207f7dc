use Rattle.wire.specs.Sizes.{size_fields}
use Rattle.reader.specs.Code.{fields_of}
use Rattle.reader.proofs.Stood.{found-end}
use Rattle.reader.proofs.ends.fields_end.Goals as goal

pub returns : goal.returns
returns c =
    record { is = found-end (size_fields (fields_of c.args.shape.now)) c.args.at c.in-Ok.last _ c.requires.stands c.in-Ok.ensures.reads; within = (c.in-Ok.ensures.within.0, c.in-Ok.ensures.within.1) }
