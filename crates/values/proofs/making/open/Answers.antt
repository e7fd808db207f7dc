use Rattle.std.proofs.Common.{subst}
use Rattle.values.specs.Making.{Written}
use Rattle.values.proofs.OneMore.{opened}
use Rattle.values.proofs.making.open.Goals as goal

pub returns : goal.returns
returns c = opened c.args.work.now c.lay.new.work c.args.at c.args.top c.args.numbers.now c.requires.fits c.requires.room (subst (λ p. Written p c.lay.new.work c.args.at c.args.numbers.now) c.copy_within.ensures.after c.lay.ensures)
