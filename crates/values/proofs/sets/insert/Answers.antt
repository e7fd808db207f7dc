use Rattle.std.proofs.Common.{Ok, Err, refl, arith}
use Rattle.values.proofs.Made.{set-made, good-later, spotted-made}
use Rattle.values.proofs.OneMore.{inserted, inserted-there}
use Rattle.values.proofs.sets.insert.Goals as goal

pub seek-requires : goal.seek-requires
seek-requires c = record {
  whole = (set-made c.args.height c.args.store.now c.args.work.now c.args.a c.args.top c.requires.made).good;
  value = good-later c.args.store.now c.args.work.now c.args.work.now c.args.a c.args.top c.args.height c.args.v (omega (arith, c.requires.made.ends)) refl c.requires.good;
}

pub returns-in_default : goal.returns-in_default
returns-in_default c =
    inserted-there c.args.height c.args.store.now c.args.work.now c.args.a c.args.top c.in_default.field-0 c.args.v c.requires.made
    (spotted-made c.args.height c.args.store.now c.args.work.now c.args.a c.args.top c.args.v (Ok c.in_default.field-0) c.requires.made c.requires.good c.in_default.ensures)

pub returns : goal.returns
returns c =
    inserted c.args.height c.args.store.now c.args.work.now c.open.new.work c.args.a c.args.top c.in-Err.k c.from-slot.result.tag c.from-slot.result.load c.args.v
    c.requires.made c.requires.good c.from-slot.ensures.1
    (spotted-made c.args.height c.args.store.now c.args.work.now c.args.a c.args.top c.args.v (Err c.in-Err.k) c.requires.made c.requires.good c.in-Err.ensures)
    c.open.ensures c.open.auto.work c.requires.room
