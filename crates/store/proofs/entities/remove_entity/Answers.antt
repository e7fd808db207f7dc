use Rattle.std.proofs.Common.{◌-◌, length, take, drop, ap, ap₂, ◌∙◌, arith}
use borrow.Rule.Slice.PartMut.{put_mid}
use Rattle.shelves.specs.Moves.{tabled_without}
use Rattle.shelves.specs.Spots.{taken}
use Rattle.shelves.proofs.Spotted.{there_some}
use Rattle.store.specs.Places.{reopened}
use Rattle.store.proofs.EntityChanges.{changes-without, remove-needs, under-long, without-after, gone}
use Rattle.store.proofs.entities.remove_entity.Goals as goal

pub overflow_sub-after : goal.overflow_sub-after
overflow_sub-after c =
    let one = there_some c.args.spot c.requires.goes.some in
    let w = changes-without c.args.store.now c.requires.good _ c.header_of-header.ensures.says c.args.spot c.requires.goes.place one in
    omega (arith, w.2)

pub with-requires : goal.with-requires
with-requires c =
    let one = there_some c.args.spot c.requires.goes.some in
    let w = (changes-without c.args.store.now c.requires.good _ c.header_of-header.ensures.says c.args.spot c.requires.goes.place one).0 in
    let q = ap (λ e. e.numbers) c.taken.ensures in
    let z = ap (λ e. e.size) c.taken.ensures in
    record { size = omega (arith, w.size-le); used = omega (arith, w.within); size_fits = omega (arith, w.size_small, w.limit); used_fits = omega (arith, w.within, w.used_le, w.used-new, w.limit) }

pub remove_place-requires : goal.remove_place-requires
remove_place-requires c =
    let one = there_some c.args.spot c.requires.goes.some in
    let t = c.table_of-table.ensures in
    let n = remove-needs c.args.store.now c.requires.good _ c.header_of-header.ensures.says c.args.spot c.requires.goes.place one c.table_of-table.result.places t.places in
    record { under = omega (arith, n.under, t.count); old = omega (arith, n.old, t.count); behind = λ j a b. n.behind j a (omega (arith, b, t.count)) }

pub reopen-requires : goal.reopen-requires
reopen-requires c =
    let one = there_some c.args.spot c.requires.goes.some in
    let w = (changes-without c.args.store.now c.requires.good _ c.header_of-header.ensures.says c.args.spot c.requires.goes.place one).0 in
    let l = under-long c.args.store.now c.requires.good _ c.header_of-header.ensures.says c.table_of-table.result.places c.table_of-table.ensures.places _ c.remove_place.auto.places in
    let a = ap (λ s. s.at) c.splice.ensures in
    let b = ap (λ s. s.old) c.splice.ensures in
    let d = ap (λ s. s.new) c.splice.ensures in
    record { header = omega (arith, l, w.low, w.within, w.used_le); within = omega (arith, w.within); old = omega (arith, l, w.used_le); new = omega (arith, l, w.within, w.used_le) }

pub returns : goal.returns
returns c =
    let m = c.args.store.now in
    let h = c.header_of-header.result in
    let b = c.table_of-table.result.places in
    let t = c.table_of-table.ensures in
    λ u f.
    gone m c.requires.good h c.header_of-header.ensures.says c.args.spot c.requires.goes.place (there_some c.args.spot c.requires.goes.some) b t.places _ c.remove_place.auto.places
    (c.remove_place.ensures ∙ ap (λ n. tabled_without (take (length m - b) (drop b m)) c.args.spot.index n (taken c.args.spot).numbers) t.count) u f _
    (c.reopen.ensures
    ∙ ap₂ (λ a s. reopened (put_mid b (length m - b) m c.remove_place.new.places) a s.at s.old s.new h.used)
    (without-after m c.requires.good h c.header_of-header.ensures.says c.args.spot c.taken.result c.with.result c.taken.ensures c.with.ensures) c.splice.ensures)
