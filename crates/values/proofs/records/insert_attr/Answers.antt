use Rattle.std.proofs.Common.{Ok, Err, arith}
use Rattle.values.proofs.Made.{record-made, text_in-later, spotted-record}
use Rattle.values.proofs.Fields.{attribute-there, attribute-new}
use Rattle.values.proofs.records.insert_attr.Goals as goal

pub seek_name-requires : goal.seek_name-requires
seek_name-requires c = record {
  whole = (record-made c.args.height c.args.store.now c.args.work.now c.args.a c.args.top c.requires.made).good;
  text = text_in-later c.args.store.now c.args.work.now c.args.a c.args.top c.args.key (omega (arith, c.requires.made.ends)) c.requires.text;
}

pub returns-in-Ok : goal.returns-in-Ok
returns-in-Ok c =
    attribute-there c.args.height c.args.store.now c.args.work.now c.args.a c.args.top c.in-Ok.k c.args.key c.from-slot.result.tag c.from-slot.result.load c.args.v
    c.requires.made c.requires.good c.from-slot.ensures.1
    (spotted-record c.args.height c.args.store.now c.args.work.now c.args.a c.args.top c.args.key (Ok c.in-Ok.k) c.requires.made c.requires.text c.in-Ok.ensures)
    c.lay.new.work c.lay.ensures c.lay.auto.work

pub returns-in-Err : goal.returns-in-Err
returns-in-Err c =
    attribute-new c.args.height c.args.store.now c.args.work.now c.open.new.work c.args.a c.args.top c.in-Err.k c.args.key c.from-slot.result.tag c.from-slot.result.load c.args.v
    c.requires.made c.requires.text c.requires.good c.from-slot.ensures.1
    (spotted-record c.args.height c.args.store.now c.args.work.now c.args.a c.args.top c.args.key (Err c.in-Err.k) c.requires.made c.requires.text c.in-Err.ensures)
    c.open.ensures c.open.auto.work c.requires.room
