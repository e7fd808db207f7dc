use Rattle.std.proofs.Common.{◌-◌, arith}
use Rattle.values.specs.Making.{up_to, waiting_values}
use Rattle.values.proofs.Fill.{fill_start, fill-good, fill_step, fill_end, set-stands}
use Rattle.values.proofs.sets.make_set.Goals as goal

pub loop-k-init : goal.loop-k-init
loop-k-init c = fill_start c.args.height c.args.store.now c.args.work.now c.lay.new.work c.args.top.now c.args.from c.args.n c.lay.ensures (omega (arith, c.lay.auto.work)) (omega arith)

pub insert-requires-clause-good : goal.insert-requires-clause-good
insert-requires-clause-good c =
    fill-good c.args.height c.args.store.now c.args.work.now c.loop-k.work c.args.top.now c.loop-k.top c.args.from c.args.n c.loop-k.k
    c.loop-k-test.true c.loop-k.invariant c.value.result c.value.ensures (c.requires.good (c.loop-k.k - 1) (omega arith))

pub loop-k-preserved : goal.loop-k-preserved
loop-k-preserved c =
    fill_step c.args.height c.args.store.now c.args.work.now c.loop-k.work c.args.top.now c.loop-k.top c.args.from c.args.n c.loop-k.k
    c.loop-k-test.true c.loop-k.invariant c.insert.new.work c.insert.result c.value.result (omega arith) c.requires.room c.value.ensures c.insert.ensures

pub returns : goal.returns
returns c = record {
  rises = omega (arith, c.loop-k.invariant.made.ends);
  few = omega (arith, c.loop-k.invariant.few);
  keeps = c.loop-k.invariant.keeps;
  beyond = c.loop-k.invariant.beyond;
  is = set-stands c.args.height c.args.store.now c.loop-k.work c.args.top.now c.loop-k.top (waiting_values c.args.height (up_to c.args.store.now c.args.work.now c.args.top.now) c.args.work.now c.args.from c.args.n)
      c.loop-k.invariant.made (fill_end c.args.height c.args.store.now c.args.work.now c.loop-k.work c.args.top.now c.loop-k.top c.args.from c.args.n c.loop-k.k (omega arith) c.loop-k.invariant);
}
