use Rattle.values.proofs.OneMore.{laid-attr}
use Rattle.values.proofs.records.lay_attr.Goals as goal

pub returns : goal.returns
returns c = laid-attr c.args.work.now c.lay.new.work c.args.at c.args.key c.from-slot.result.tag c.from-slot.result.load c.args.v c.lay.ensures c.from-slot.ensures.1
