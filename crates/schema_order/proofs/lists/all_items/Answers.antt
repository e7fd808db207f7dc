use Rattle.std.proofs.Common.{refl, ◌∙◌, arith}
use Rattle.schema_order.specs.Places.{read_item}
use Rattle.schema_order.proofs.Steps
use Rattle.schema_order.proofs.lists.all_items.Goals as goal

pub loop-end-init : goal.loop-end-init
loop-end-init g c = record { inside = (omega arith, Steps.inside (read_item c.args.listed) c.args.bytes.now c.args.at c.requires.stands); stands = c.requires.stands; says = λ T d. refl }

pub test-requires : goal.test-requires
test-requires g c = c.requires.can _ (Steps.first-got (read_item c.args.listed) c.args.bytes.now c.loop-end.end c.loop-end.invariant.stands c.loop-end-test.true)

pub returns-then-not-test : goal.returns-then-not-test
returns-then-not-test g c = λ T d.
    let r = read_item c.args.listed in
    let i = c.loop-end.invariant in
    let h = Steps.first-got r c.args.bytes.now c.loop-end.end i.stands c.loop-end-test.true in
    Steps.all-no r c.args.bytes.now c.loop-end.end i.stands T c.loop-end-test.true _ (d _ _ h c.test.ensures) c.if-not-test.true ∙ i.says T d

pub item_end-end-requires : goal.item_end-end-requires
item_end-end-requires g c = (omega (arith, c.loop-end.invariant.inside), Steps.first-got (read_item c.args.listed) c.args.bytes.now c.loop-end.end c.loop-end.invariant.stands c.loop-end-test.true)

pub loop-end-preserved : goal.loop-end-preserved
loop-end-preserved g c =
    let r = read_item c.args.listed in
    let i = c.loop-end.invariant in
    let h = Steps.first-got r c.args.bytes.now c.loop-end.end i.stands c.loop-end-test.true in
    let s = Steps.step r c.args.bytes.now c.loop-end.end i.stands c.loop-end-test.true c.item_end-end.result c.item_end-end.ensures in
    record {
      inside = (omega (arith, i.inside, c.item_end-end.ensures), s.more);
      stands = s.rest;
      says = λ T d. Steps.all-on r c.args.bytes.now c.loop-end.end i.stands T c.loop-end-test.true c.item_end-end.result c.item_end-end.ensures _ (d _ _ h c.test.ensures) c.if-not-test.false ∙ i.says T d;
    }

pub returns : goal.returns
returns g c = λ T d.
    let i = c.loop-end.invariant in
    Steps.all_end (read_item c.args.listed) c.args.bytes.now c.loop-end.end i.stands T c.loop-end-test.false ∙ i.says T d
