use Rattle.shelves.proofs.Halves.{it, gap, last}
use Rattle.shelves.proofs.finding.find_by_uid.Goals as goal

pub returns-in-Ok : goal.returns-in-Ok
returns-in-Ok c =
    let m = c.args.memory.now in
    let t = c.args.table in
    let f = c.in-Ok.ensures.found in
    it m.store.now m.work.now t.from t.count c.args.key c.requires.tabled.shelf c.in-Ok.index f.0 f.1 c.place_at-at.result c.place_at-at.ensures.is c.extent_at.result c.extent_at.ensures.numbers c.extent_at.ensures.size

pub returns-then-index-table : goal.returns-then-index-table
returns-then-index-table c =
    let m = c.args.memory.now in
    let t = c.args.table in
    let f = c.in-Err.ensures.absent in
    gap m.store.now m.work.now t.from t.count c.args.key c.requires.tabled.shelf c.in-Err.index f.0 f.2 f.1 c.args.end
    (last m.store.now m.work.now t.from t.count c.args.key c.requires.tabled.shelf c.in-Err.index c.args.end c.if-index-table.true c.requires.ends)

pub returns-else-index-table : goal.returns-else-index-table
returns-else-index-table c =
    let m = c.args.memory.now in
    let t = c.args.table in
    let f = c.in-Err.ensures.absent in
    gap m.store.now m.work.now t.from t.count c.args.key c.requires.tabled.shelf c.in-Err.index f.0 f.2 f.1 c.place_at-at-else-index-table.result c.place_at-at-else-index-table.ensures.is
