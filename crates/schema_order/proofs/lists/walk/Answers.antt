use Rattle.std.proofs.Common.{◌+◌, true, false, cond, drop, Some, None, sym, refl, ap, ◌∙◌, arith}
use Rattle.reader.specs.Ends.{ending}
use Rattle.schema_order.specs.Places.{IsElement, read_item, read_many}
use Rattle.schema_order.proofs.Steps
use Rattle.schema_order.proofs.lists.walk.Goals as goal

pub loop-end-init : goal.loop-end-init
loop-end-init g c = record { inside = (omega arith, Steps.inside (read_item c.args.listed) c.args.bytes.now c.args.at c.requires.stands); stands = c.requires.stands; ends = refl; says = λ T d. refl }

pub item_end-next-requires : goal.item_end-next-requires
item_end-next-requires g c = (omega (arith, c.loop-end.invariant.inside), Steps.first-got (read_item c.args.listed) c.args.bytes.now c.loop-end.end c.loop-end.invariant.stands c.loop-end-test.true)

pub test-requires : goal.test-requires
test-requires g c =
    let s = Steps.step (read_item c.args.listed) c.args.bytes.now c.loop-end.end c.loop-end.invariant.stands c.loop-end-test.true c.item_end-next.result c.item_end-next.ensures in
    let h : IsElement c.args.bytes.now c.args.listed (c.loop-end.end + 1) c.item_end-next.result = (Steps.first-got (read_item c.args.listed) c.args.bytes.now c.loop-end.end c.loop-end.invariant.stands c.loop-end-test.true, c.item_end-next.ensures, s.rest) in
    c.requires.can _ _ h

pub returns-then-not-test-clause-is : goal.returns-then-not-test-clause-is
returns-then-not-test-clause-is g c = λ T d.
    let r = read_item c.args.listed in
    let i = c.loop-end.invariant in
    let s = Steps.step r c.args.bytes.now c.loop-end.end i.stands c.loop-end-test.true c.item_end-next.result c.item_end-next.ensures in
    let h : IsElement c.args.bytes.now c.args.listed (c.loop-end.end + 1) c.item_end-next.result = (Steps.first-got r c.args.bytes.now c.loop-end.end i.stands c.loop-end-test.true, c.item_end-next.ensures, s.rest) in
    let no = sym (i.says T d) ∙ Steps.each-on r c.args.bytes.now c.loop-end.end i.stands T c.loop-end-test.true c.item_end-next.result c.item_end-next.ensures false (sym c.if-not-test.true ∙ d _ _ _ h c.test.ensures) in
    sym (ap (λ b. cond b (Some (ending c.args.at (read_many c.args.listed (drop c.args.at c.args.bytes.now)))) None) no)

pub loop-end-preserved : goal.loop-end-preserved
loop-end-preserved g c =
    let r = read_item c.args.listed in
    let i = c.loop-end.invariant in
    let s = Steps.step r c.args.bytes.now c.loop-end.end i.stands c.loop-end-test.true c.item_end-next.result c.item_end-next.ensures in
    let h : IsElement c.args.bytes.now c.args.listed (c.loop-end.end + 1) c.item_end-next.result = (Steps.first-got r c.args.bytes.now c.loop-end.end i.stands c.loop-end-test.true, c.item_end-next.ensures, s.rest) in
    record {
      inside = (omega (arith, i.inside, c.item_end-next.ensures), s.more);
      stands = s.rest;
      ends = sym s.ends ∙ i.ends;
      says = λ T d. sym (Steps.each-on r c.args.bytes.now c.loop-end.end i.stands T c.loop-end-test.true c.item_end-next.result c.item_end-next.ensures true (sym c.if-not-test.false ∙ d _ _ _ h c.test.ensures)) ∙ i.says T d;
    }

pub returns-clause-is : goal.returns-clause-is
returns-clause-is g c = λ T d.
    let r = read_item c.args.listed in
    let i = c.loop-end.invariant in
    let yes = sym (i.says T d) ∙ Steps.each-none r c.args.bytes.now c.loop-end.end i.stands T c.loop-end-test.false in
    ap (λ n. Some n) (sym (ap (ending c.loop-end.end) (Steps.none r c.args.bytes.now c.loop-end.end i.stands c.loop-end-test.false)) ∙ i.ends)
    ∙ sym (ap (λ b. cond b (Some (ending c.args.at (read_many c.args.listed (drop c.args.at c.args.bytes.now)))) None) yes)
