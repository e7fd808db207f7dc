use Rattle.std.proofs.Common.{length}
use Rattle.reader.specs.Code.{fields_of, parts, smalls}
use Rattle.reader.proofs.Steps.{sizes-read, sizes-within}
use Rattle.reader.proofs.scan.fields.Goals as goal

pub returns : goal.returns
returns c =
    let fs = fields_of c.args.shape.now in
    record { reads = sizes-read fs c.args.at _ _ c.fields.ensures.reads; within = sizes-within (parts fs) (smalls fs) c.args.at (length c.args.bytes.now) _ c.fields.ensures.within }
