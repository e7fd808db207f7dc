-- Each id takes nine bytes and its own.
use Rattle.std.proofs.Common.{length, ap, arith, rules}
use Rattle.values.specs.Memory.{numbers}
use Rattle.answer_places.proofs.Lists.{id-there, from_first, from_last, next-long}
use Rattle.answer_places.proofs.pieces.room_behind.Goals as goal

pub loop-place-init : goal.loop-place-init
loop-place-init c = let first = ap length (from_first (numbers c.args.memory.now) c.args.ids) in search rules

pub returns-in_err-checked_sub : goal.returns-in_err-checked_sub
returns-in_err-checked_sub c =
    let m = numbers c.args.memory.now in
    let next = next-long m c.args.ids c.loop-place.place c.requires (omega arith) c.loop-place-test.true in
    search rules

pub held-requires-clause-there : goal.held-requires-clause-there
held-requires-clause-there c = id-there (numbers c.args.memory.now) c.args.ids c.loop-place.place c.requires (omega arith) c.loop-place-test.true

pub returns-in_err-left : goal.returns-in_err-left
returns-in_err-left c =
    let m = numbers c.args.memory.now in
    let next = next-long m c.args.ids c.loop-place.place c.requires (omega arith) c.loop-place-test.true in
    let size = ap length c.held.ensures.is in
    search rules

pub loop-place-preserved : goal.loop-place-preserved
loop-place-preserved c =
    let m = numbers c.args.memory.now in
    let next = next-long m c.args.ids c.loop-place.place c.requires (omega arith) c.loop-place-test.true in
    let size = ap length c.held.ensures.is in
    search rules

pub returns : goal.returns
returns c = let last = ap length (from_last (numbers c.args.memory.now) c.args.ids c.loop-place.place (omega arith)) in search rules
