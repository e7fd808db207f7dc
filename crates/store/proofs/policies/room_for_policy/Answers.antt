use Rattle.std.proofs.Common.{ap, ap₂, ◌∙◌, arith}
use Rattle.store.specs.Places.{reopened}
use Rattle.store.proofs.PolicyChanges.{changes, with-after, room}
use Rattle.store.proofs.policies.room_for_policy.Goals as goal

pub overflow_add-new : goal.overflow_add-new
overflow_add-new c =
    let w = changes c.args.store.now c.requires.good _ c.header_of-header.ensures.says c.args.spot c.args.row_length c.args.size c.requires.comes in
    omega (arith, w.0.used-new, w.0.within, w.0.limit)

pub overflow_sub-after : goal.overflow_sub-after
overflow_sub-after c =
    let w = changes c.args.store.now c.requires.good _ c.header_of-header.ensures.says c.args.spot c.args.row_length c.args.size c.requires.comes in
    let q = ap (λ e. e.numbers) c.taken-old.ensures in
    omega (arith, w.1)

pub overflow_add-after : goal.overflow_add-after
overflow_add-after c =
    let w = changes c.args.store.now c.requires.good _ c.header_of-header.ensures.says c.args.spot c.args.row_length c.args.size c.requires.comes in
    let q = ap (λ e. e.numbers) c.taken-old.ensures in
    omega (arith, w.1, w.0.used-new, w.0.limit, c.header_of-header.ensures.says.entities-is, c.header_of-header.ensures.says.used-is)

pub with-requires : goal.with-requires
with-requires c =
    let w = changes c.args.store.now c.requires.good _ c.header_of-header.ensures.says c.args.spot c.args.row_length c.args.size c.requires.comes in
    let q = ap (λ e. e.numbers) c.taken-old.ensures in
    let z = ap (λ e. e.size) c.taken-old.ensures in
    record {
      size = omega (arith, w.0.size-le);
      used = omega (arith, w.0.within);
      size_fits = omega (arith, w.0.size-new);
      used_fits = omega (arith, w.0.within, w.0.used-new, w.0.limit);
    }

pub reopen-requires : goal.reopen-requires
reopen-requires c =
    let w = changes c.args.store.now c.requires.good _ c.header_of-header.ensures.says c.args.spot c.args.row_length c.args.size c.requires.comes in
    let a = ap (λ s. s.at) c.splice.ensures in
    let b = ap (λ s. s.old) c.splice.ensures in
    let d = ap (λ s. s.new) c.splice.ensures in
    record {
      header = omega (arith, w.0.low, w.0.within, w.0.used_le);
      within = omega (arith, w.0.within);
      old = w.0.used_le;
      new = omega (arith, w.0.within, w.0.used-new, w.0.used-long);
    }

pub begin_item-requires : goal.begin_item-requires
begin_item-requires c =
    let w = changes c.args.store.now c.requires.good _ c.header_of-header.ensures.says c.args.spot c.args.row_length c.args.size c.requires.comes in
    omega (arith, c.reopen.auto.store, w.0.within, w.0.used-new, w.0.used-long)

pub returns : goal.returns
returns c =
    let m = c.args.store.now in
    let h = c.header_of-header.result in
    room m c.requires.good h c.header_of-header.ensures.says c.args.spot c.args.row_length c.args.size c.count.result c.requires.comes c.count.ensures _ _ _
    (c.reopen.ensures
    ∙ ap₂ (λ a s. reopened m a s.at s.old s.new h.used) (with-after m c.requires.good h c.header_of-header.ensures.says c.args.spot c.args.row_length c.args.size c.count.result c.taken-old.result c.with.result c.taken-old.ensures c.with.ensures) c.splice.ensures)
    c.reopen.auto.store c.begin_item.ensures.is c.begin_item.ensures.to (c.begin_item.auto.store ∙ c.reopen.auto.store)
