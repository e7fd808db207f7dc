use Rattle.std.proofs.Common.{ap, ap₂, ◌∙◌, arith}
use Rattle.shelves.proofs.Spotted.{there_some}
use Rattle.store.specs.Places.{reopened}
use Rattle.store.proofs.PolicyChanges.{changes-without, without-after, gone}
use Rattle.store.proofs.policies.remove_policy.Goals as goal

pub overflow_sub-after : goal.overflow_sub-after
overflow_sub-after c =
    let one = there_some c.args.spot c.requires.goes.some in
    let w = changes-without c.args.store.now c.requires.good _ c.header_of-header.ensures.says c.args.spot c.requires.goes.place one in
    let q = ap (λ e. e.numbers) c.taken-old.ensures in
    omega (arith, w.1)

pub overflow_sub-after-2 : goal.overflow_sub-after-2
overflow_sub-after-2 c =
    let one = there_some c.args.spot c.requires.goes.some in
    let w = changes-without c.args.store.now c.requires.good _ c.header_of-header.ensures.says c.args.spot c.requires.goes.place one in
    omega (arith, w.2)

pub with-requires : goal.with-requires
with-requires c =
    let one = there_some c.args.spot c.requires.goes.some in
    let w = (changes-without c.args.store.now c.requires.good _ c.header_of-header.ensures.says c.args.spot c.requires.goes.place one).0 in
    let q = ap (λ e. e.numbers) c.taken-old.ensures in
    let z = ap (λ e. e.size) c.taken-old.ensures in
    record { size = omega (arith, w.size-le); used = omega (arith, w.within); size_fits = omega (arith, w.size_small, w.limit); used_fits = omega (arith, w.within, w.used_le, w.used-new, w.limit) }

pub reopen-requires : goal.reopen-requires
reopen-requires c =
    let one = there_some c.args.spot c.requires.goes.some in
    let w = (changes-without c.args.store.now c.requires.good _ c.header_of-header.ensures.says c.args.spot c.requires.goes.place one).0 in
    let a = ap (λ s. s.at) c.splice.ensures in
    let b = ap (λ s. s.old) c.splice.ensures in
    let d = ap (λ s. s.new) c.splice.ensures in
    record { header = omega (arith, w.low, w.within, w.used_le); within = omega (arith, w.within); old = w.used_le; new = omega (arith, w.within, w.used_le) }

pub returns : goal.returns
returns c =
    let m = c.args.store.now in
    let h = c.header_of-header.result in
    λ t f.
    gone m c.requires.good h c.header_of-header.ensures.says c.args.spot c.requires.goes.place (there_some c.args.spot c.requires.goes.some) t f _
    (c.reopen.ensures
    ∙ ap₂ (λ a s. reopened m a s.at s.old s.new h.used) (without-after m c.requires.good h c.header_of-header.ensures.says c.args.spot c.taken-old.result c.with.result c.taken-old.ensures c.with.ensures) c.splice.ensures)
