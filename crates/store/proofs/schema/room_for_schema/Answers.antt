use Rattle.std.proofs.Common.{◌-◌, ap, ◌∙◌, arith}
use Rattle.store.specs.Places.{reopened}
use Rattle.store.proofs.SchemaChanges.{changes, after-is, room}
use Rattle.store.proofs.schema.room_for_schema.Goals as goal

pub reopen-requires : goal.reopen-requires
reopen-requires c =
    let w = changes c.args.store.now c.requires.good _ c.header_of-header.ensures.says c.args.row_length c.args.size c.requires.comes in
    record {
      header = omega (arith, w.low, w.within, w.ends, w.used_le);
      within = omega (arith, w.low, w.within, w.ends);
      old = w.used_le;
      new = omega (arith, w.low, w.within, w.ends, w.used-new, w.used-long);
    }

pub returns : goal.returns
returns c =
    let m = c.args.store.now in
    let h = c.header_of-header.result in
    room m c.requires.good h c.header_of-header.ensures.says c.args.row_length c.args.size c.requires.comes _
    (c.reopen.ensures ∙ ap (λ a. reopened m a 10 (h.policies - 10) c.args.row_length h.used) (after-is m c.requires.good h c.header_of-header.ensures.says c.args.row_length c.args.size c.requires.comes c.with.result c.with.ensures))
    c.reopen.auto.store
