use Rattle.std.proofs.Common.{}
use Rattle.values.specs.Memory.{numbers}
use Rattle.values.specs.Held.{element_at}
use Rattle.values.proofs.Runs.{lies_in}
use Rattle.values.proofs.sets.compare_element.Goals as goal

pub element_of-requires-clause-lies : goal.element_of-requires-clause-lies
element_of-requires-clause-lies c =
    lies_in c.args.height (numbers c.args.memory.now) (element_at (numbers c.args.memory.now) c.args.p c.args.k) c.args.memory.now.small (c.requires.whole.each c.args.k c.requires.under)
