use Rattle.std.proofs.Common.{◌∙◌, rules}
use Rattle.shelves.specs.Items.{uid_key, UidIn}
use Rattle.shelves.proofs.Walks.{table_fits, table_is, place-fits}
use Rattle.shelves.proofs.finding.place_at.Goals as goal

pub place-requires : goal.place-requires
place-requires c =
    let b = place-fits uid_key UidIn c.args.store.now c.args.table.from c.args.table.places c.args.table.count c.requires.tabled c.args.k c.requires.under in
    record {
      there = table_fits uid_key UidIn c.args.store.now c.args.table.from c.args.table.places c.args.table.count c.requires.tabled c.args.k c.requires.under;
      fits = search rules;
    }

pub returns : goal.returns
returns c =
    let b = place-fits uid_key UidIn c.args.store.now c.args.table.from c.args.table.places c.args.table.count c.requires.tabled c.args.k c.requires.under in
    record {
      is = c.place.ensures ∙ table_is uid_key UidIn c.args.store.now c.args.table.from c.args.table.places c.args.table.count c.requires.tabled c.args.k c.requires.under;
      fits = rw c.place.ensures b;
    }
