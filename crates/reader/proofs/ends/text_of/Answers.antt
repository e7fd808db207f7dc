use Rattle.std.proofs.Common.{arith}
use Rattle.reader.proofs.Stood.{text-inside, text-spelt}
use Rattle.reader.proofs.ends.text_of.Goals as goal

pub overflow_add-result : goal.overflow_add-result
overflow_add-result c = omega (arith, text-inside c.args.bytes.now c.args.at c.requires)

pub returns : goal.returns
returns c = text-spelt c.args.bytes.now c.args.at c.requires c.text_end.result c.text_end.ensures.is
