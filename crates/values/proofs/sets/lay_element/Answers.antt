use Rattle.values.proofs.OneMore.{laid}
use Rattle.values.proofs.sets.lay_element.Goals as goal

pub returns : goal.returns
returns c = laid c.args.work.now c.lay.new.work c.args.at c.from-slot.result.tag c.from-slot.result.load c.args.v c.lay.ensures c.from-slot.ensures.1
