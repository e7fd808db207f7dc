use Rattle.std.proofs.Common.{◌+◌, ◌-◌, length, take, drop, ap, ap₂, ◌∙◌, arith}
use borrow.Rule.Slice.PartMut.{put_mid}
use Rattle.shelves.specs.Moves.{tabled_with}
use Rattle.shelves.specs.Spots.{there, taken}
use Rattle.store.specs.Places.{reopened}
use Rattle.store.proofs.EntityChanges.{changes, insert-needs, under-long, with-after, room}
use Rattle.store.proofs.entities.room_for_entity.Goals as goal

pub overflow_add-new : goal.overflow_add-new
overflow_add-new c =
    let w = changes c.args.store.now c.requires.good _ c.header_of-header.ensures.says c.args.spot c.args.row_length c.args.size c.requires.comes in
    omega (arith, w.0.used-new, w.0.within, w.0.limit)

pub with-requires : goal.with-requires
with-requires c =
    let w = changes c.args.store.now c.requires.good _ c.header_of-header.ensures.says c.args.spot c.args.row_length c.args.size c.requires.comes in
    let q = ap (λ e. e.numbers) c.taken.ensures in
    let z = ap (λ e. e.size) c.taken.ensures in
    record {
      size = omega (arith, w.0.size-le);
      used = omega (arith, w.0.within);
      size_fits = omega (arith, w.0.size-new);
      used_fits = omega (arith, w.0.within, w.0.used-new, w.0.limit);
    }

pub insert_place-requires : goal.insert_place-requires
insert_place-requires c =
    let t = c.table_of-table.ensures in
    let n = insert-needs c.args.store.now c.requires.good _ c.header_of-header.ensures.says c.args.spot c.args.row_length c.args.size c.count.result c.requires.comes c.count.ensures c.table_of-table.result.places t.places in
    record {
      within = omega (arith, n.within, t.count);
      old = omega (arith, n.old, t.count);
      room = omega (arith, n.room, t.count);
      behind = λ j a b. n.behind j a (omega (arith, b, t.count));
    }

pub reopen-requires : goal.reopen-requires
reopen-requires c =
    let w = changes c.args.store.now c.requires.good _ c.header_of-header.ensures.says c.args.spot c.args.row_length c.args.size c.requires.comes in
    let l = under-long c.args.store.now c.requires.good _ c.header_of-header.ensures.says c.table_of-table.result.places c.table_of-table.ensures.places _ c.insert_place.auto.places in
    let a = ap (λ s. s.at) c.splice.ensures in
    let b = ap (λ s. s.old) c.splice.ensures in
    let d = ap (λ s. s.new) c.splice.ensures in
    record {
      header = omega (arith, l, w.0.low, w.0.within, w.0.used_le);
      within = omega (arith, w.0.within);
      old = omega (arith, l, w.0.used_le);
      new = omega (arith, l, w.0.within, w.0.used-new, w.0.used-long);
    }

pub begin_item-requires : goal.begin_item-requires
begin_item-requires c =
    let w = changes c.args.store.now c.requires.good _ c.header_of-header.ensures.says c.args.spot c.args.row_length c.args.size c.requires.comes in
    let l = under-long c.args.store.now c.requires.good _ c.header_of-header.ensures.says c.table_of-table.result.places c.table_of-table.ensures.places _ c.insert_place.auto.places in
    omega (arith, l, c.reopen.auto.store, w.0.within, w.0.used-new, w.0.used-long)

pub returns : goal.returns
returns c =
    let m = c.args.store.now in
    let h = c.header_of-header.result in
    let b = c.table_of-table.result.places in
    let t = c.table_of-table.ensures in
    room m c.requires.good h c.header_of-header.ensures.says c.args.spot c.args.row_length c.args.size c.count.result c.requires.comes c.count.ensures b t.places _ c.insert_place.auto.places
    (c.insert_place.ensures
    ∙ ap₂ (λ f n. tabled_with (take (length m - b) (drop b m)) c.args.spot.index (there c.args.spot) n (c.args.spot.at - f) (taken c.args.spot).numbers (2 + c.args.row_length)) t.from t.count)
    _ _ _
    (c.reopen.ensures
    ∙ ap₂ (λ a s. reopened (put_mid b (length m - b) m c.insert_place.new.places) a s.at s.old s.new h.used)
    (with-after m c.requires.good h c.header_of-header.ensures.says c.args.spot c.args.row_length c.args.size c.count.result c.taken.result c.with.result c.taken.ensures c.with.ensures) c.splice.ensures)
    c.reopen.auto.store c.begin_item.ensures.is c.begin_item.ensures.to (c.begin_item.auto.store ∙ c.reopen.auto.store)
