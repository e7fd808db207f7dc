use Rattle.std.proofs.Common.{◌-◌, refl, arith}
use Rattle.values.specs.Making.{up_to, waiting_attrs}
use Rattle.values.proofs.Fill.{fill-attrs-start, fill-text, fill-attr, fill-attrs-step, fill-attrs-end, record-stands}
use Rattle.values.proofs.records.make_record.Goals as goal

pub loop-k-init : goal.loop-k-init
loop-k-init c = fill-attrs-start c.args.height c.args.store.now c.args.work.now c.lay.new.work c.args.top.now c.args.from c.args.n c.lay.ensures (omega (arith, c.lay.auto.work)) (omega arith)

pub insert_attr-requires-clause-text : goal.insert_attr-requires-clause-text
insert_attr-requires-clause-text c =
    fill-text c.args.height c.args.store.now c.args.work.now c.loop-k.work c.args.top.now c.loop-k.top c.args.from c.args.n c.loop-k.k
    c.loop-k-test.true c.loop-k.invariant _ refl (c.requires.texts (c.loop-k.k - 1) (omega arith))

pub insert_attr-requires-clause-good : goal.insert_attr-requires-clause-good
insert_attr-requires-clause-good c =
    fill-attr c.args.height c.args.store.now c.args.work.now c.loop-k.work c.args.top.now c.loop-k.top c.args.from c.args.n c.loop-k.k
    c.loop-k-test.true c.loop-k.invariant c.value.result c.value.ensures (c.requires.good (c.loop-k.k - 1) (omega arith))

pub loop-k-preserved : goal.loop-k-preserved
loop-k-preserved c =
    fill-attrs-step c.args.height c.args.store.now c.args.work.now c.loop-k.work c.args.top.now c.loop-k.top c.args.from c.args.n c.loop-k.k
    c.loop-k-test.true c.loop-k.invariant c.insert_attr.new.work c.insert_attr.result _ c.value.result (omega arith) c.requires.room refl c.value.ensures c.insert_attr.ensures

pub returns : goal.returns
returns c = record {
  rises = omega (arith, c.loop-k.invariant.made.ends);
  few = omega (arith, c.loop-k.invariant.few);
  keeps = c.loop-k.invariant.keeps;
  beyond = c.loop-k.invariant.beyond;
  is = record-stands c.args.height c.args.store.now c.loop-k.work c.args.top.now c.loop-k.top (waiting_attrs c.args.height (up_to c.args.store.now c.args.work.now c.args.top.now) c.args.work.now c.args.from c.args.n)
      c.loop-k.invariant.made (fill-attrs-end c.args.height c.args.store.now c.args.work.now c.loop-k.work c.args.top.now c.loop-k.top c.args.from c.args.n c.loop-k.k (omega arith) c.loop-k.invariant);
}
