use Rattle.shelves.proofs.Halves.{seen}
use Rattle.shelves.proofs.finding.fn.find_by_uid.order.Goals as goal

pub compare_uids-requires : goal.compare_uids-requires
compare_uids-requires c =
    let m = c.captures.memory.now in
    let t = c.captures.table in
    record { right = (seen m.store.now m.work.now t.from t.count c.captures.key c.requires.tabled.shelf c.args.k c.requires.under c.place_at.result c.place_at.ensures.is).0; left = c.requires.key }
