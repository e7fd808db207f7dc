use Rattle.store.proofs.EntityChanges.{tabled, ends, found}
use Rattle.store.proofs.entities.find_entity.Goals as goal

pub find_by_uid-requires : goal.find_by_uid-requires
find_by_uid-requires c =
    let m = c.args.memory.now.store.now in
    let t = c.table_of.ensures in
    record {
      tabled = tabled m c.requires.good _ c.header_of-header.ensures.says _ t.from t.places t.count;
      ends = ends m c.requires.good _ c.header_of-header.ensures.says _ t.from t.places t.count;
      key = c.requires.key;
    }

pub returns : goal.returns
returns c =
    let t = c.table_of.ensures in
    found c.args.memory.now.store.now c.requires.good _ c.header_of-header.ensures.says _ t.from t.places t.count _ _ c.find_by_uid.ensures
