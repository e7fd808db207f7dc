use Rattle.std.proofs.Common.{◌∙◌, arith}
use Rattle.spec.specs.Values.{to_attrs}
use Rattle.spec.specs.Calls.{canonical_record}
use Rattle.canonical.proofs.Parts.{record_is, got-turn, judged-turn}
use Rattle.canonical.proofs.record.Goals as goal

pub overflow_sub-height : goal.overflow_sub-height
overflow_sub-height c = omega (arith, (record_is c.args.bytes.now c.args.at c.args.height c.requires.1).0)

pub list-requires : goal.list-requires
list-requires c = let w = record_is c.args.bytes.now c.args.at c.args.height c.requires.1 in (c.requires.0, got-turn to_attrs 0 _ _ w.1 c.requires.1)

pub returns-clause-is : goal.returns-clause-is
returns-clause-is c = c.list.ensures.is ∙ judged-turn canonical_record to_attrs c.args.at 0 c.args.at _ _ (omega arith) (record_is c.args.bytes.now c.args.at c.args.height c.requires.1).1
