use Rattle.std.proofs.Common.{◌<◌, arith}
use Rattle.store.proofs.EntityChanges.{tabled, entry-is}
use Rattle.store.proofs.entities.entity_at.Goals as goal

pub place_at-at-requires : goal.place_at-at-requires
place_at-at-requires c =
    record {
      tabled = tabled c.args.store.now c.requires.good _ c.header_of-header.ensures.says _ c.table_of.ensures.from c.table_of.ensures.places c.table_of.ensures.count;
      under = omega (arith, c.requires.under, c.table_of.ensures.count, c.header_of-header.ensures.says.entity-count-is);
    }

pub returns : goal.returns
returns c =
    let l : c.args.k < c.table_of.result.count = omega (arith, c.requires.under, c.table_of.ensures.count, c.header_of-header.ensures.says.entity-count-is) in
    entry-is c.args.store.now c.requires.good _ c.header_of-header.ensures.says _ c.table_of.ensures.from c.table_of.ensures.places c.table_of.ensures.count c.args.k l _ c.place_at-at.ensures.is _ c.entry_at.ensures
