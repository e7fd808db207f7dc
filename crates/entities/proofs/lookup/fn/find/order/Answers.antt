use Rattle.entities.proofs.Names.{row-fits, row-name}
use Rattle.entities.proofs.lookup.fn.find.order.Goals as goal

pub place-requires : goal.place-requires
place-requires c =
    let m = c.captures.memory.now in
    let f = row-fits m.store.now m.work.now c.captures.entities c.requires.all c.args.k c.requires.under m.small in
    record { there = f.0; fits = f.1 }

pub compare_uids-requires : goal.compare_uids-requires
compare_uids-requires c =
    let m = c.captures.memory.now in
    record { right = row-name m.store.now m.work.now c.captures.entities c.requires.all c.captures.uid c.args.k c.place.result c.requires.under c.place.ensures; left = c.requires.name }
