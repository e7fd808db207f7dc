use Rattle.std.proofs.Common.{arith}
use Rattle.spec.specs.Calls.{size_text}
use Rattle.reader.proofs.Stood.{text-inside, text-room, found-end}
use Rattle.reader.proofs.ends.text_end.Goals as goal

pub text-requires : goal.text-requires
text-requires c = omega (arith, text-inside c.args.bytes.now c.args.at c.requires)

pub returns : goal.returns
returns c =
    let e = found-end size_text c.args.at c.in-Ok.text _ c.requires c.in-Ok.ensures.reads in
    record { is = e; within = (omega (arith, e, text-room c.args.bytes.now c.args.at c.requires), c.in-Ok.ensures.within.1) }
