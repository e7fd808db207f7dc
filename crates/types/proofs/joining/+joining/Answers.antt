use Rattle.std.proofs.Common.{◌≡◌, suc, ◌+◌, ◌≤◌, true, length, get_or, sym, refl, ap, subst, arith}
use Rattle.spec.specs.Basics.{is_some}
use Rattle.spec.specs.Types.{lub}
use Rattle.types.specs.Held.{decode, Good, made}
use Rattle.types.specs.Joining.{Joined}
use Rattle.types.proofs.Walks.{under}
use Rattle.types.proofs.Joins.{first-stays, second-stays-set, second-stays-record, set-joined}
use Rattle.types.proofs.JoinRecords.{turn, again, whole}
use Rattle.types.proofs.joining.+joining.Goals as goal

pub join-join_kind-requires : goal.join-join_kind-requires
join-join_kind-requires t c =
    let e = under c.args.height c.if-height-eq0.false in (
      omega arith,
      (
        c.requires.fits,
        (
          subst (λ h. c.args.top.now + made h c.args.work.now c.args.v ≤ length c.args.work.now) e c.requires.room,
          (
            subst (λ h. Good h c.args.store.now c.args.work.now 0 c.args.top.now c.args.v) e c.requires.left,
            (
              subst (λ h. Good h c.args.store.now c.args.work.now 0 c.args.top.now c.args.u) e c.requires.right,
              subst (λ h. is_some (lub (decode h c.args.store.now c.args.work.now c.args.v) (decode h c.args.store.now c.args.work.now c.args.u)) ≡ true) e c.requires.exists,
            ),
          ),
        ),
      ),
    )

pub join_kind-returns-in_default-u-2 : goal.join_kind-returns-in_default-u-2
join_kind-returns-in_default-u-2 t c =
    let e = c.in-MadeSet.is in
    subst (λ x. Joined (suc c.args.height) c.args.store.now c.args.work.now c.args.work.now c.args.top.now c.args.top.now x c.args.u c.args.u) (sym e) (second-stays-set c.args.height c.args.store.now c.args.work.now c.args.top.now c.requires.fits c.in-MadeSet.p c.args.u c.in_default-u-2.not-MadeSet c.requires.right (subst (λ x. is_some (lub (decode (suc c.args.height) c.args.store.now c.args.work.now x) (decode (suc c.args.height) c.args.store.now c.args.work.now c.args.u)) ≡ true) e c.requires.exists))

pub join_kind-returns-in_default-u-3 : goal.join_kind-returns-in_default-u-3
join_kind-returns-in_default-u-3 t c =
    let e = c.in-MadeRecord.is in
    subst (λ x. Joined (suc c.args.height) c.args.store.now c.args.work.now c.args.work.now c.args.top.now c.args.top.now x c.args.u c.args.u) (sym e) (second-stays-record c.args.height c.args.store.now c.args.work.now c.args.top.now c.requires.fits c.in-MadeRecord.p c.args.u c.in_default-u-3.not-MadeRecord c.requires.right (subst (λ x. is_some (lub (decode (suc c.args.height) c.args.store.now c.args.work.now x) (decode (suc c.args.height) c.args.store.now c.args.work.now c.args.u)) ≡ true) e c.requires.exists))

pub join_kind-returns-in_default : goal.join_kind-returns-in_default
join_kind-returns-in_default t c = first-stays c.args.height c.args.store.now c.args.work.now c.args.top.now c.requires.fits c.args.v c.args.u c.in_default.not-Bool c.in_default.not-MadeSet c.in_default.not-MadeRecord c.requires.left c.requires.exists

pub join_records-join-z-requires : goal.join_records-join-z-requires
join_records-join-z-requires t c =
    let x = turn c.args.height c.args.store.now c.args.work.now c.args.top.now (get_or c.args.work.now c.args.p 0) c.args.p c.args.q refl c.requires.left c.requires.right c.requires.exists c.requires.room c.loop-i.work c.loop-i.i c.loop-i.top c.loop-i.invariant c.loop-i-test.true c.loop-i.auto.work c.made_type-x.result c.made_type-y.result c.made_type-x.ensures c.made_type-y.ensures in
    (omega arith, (c.loop-i.invariant.fits, (x.space, (x.left.good, (x.right.good, x.goes)))))

pub join_records-loop-i-preserved : goal.join_records-loop-i-preserved
join_records-loop-i-preserved t c = again c.args.height c.args.store.now c.args.work.now c.args.top.now (get_or c.args.work.now c.args.p 0) c.args.p c.args.q refl c.requires.left c.requires.right c.requires.exists c.requires.room c.loop-i.work c.loop-i.i c.loop-i.top c.loop-i.invariant c.loop-i-test.true c.loop-i.auto.work c.join-z.new.work c.lay_attr.new.work c.join-z.new.top _ c.made_type-x.result c.made_type-y.result c.join-z.result c.made_type-x.ensures c.made_type-y.ensures refl c.lay_attr.auto.work c.join-z.ensures c.lay_attr.ensures

pub join_records-returns : goal.join_records-returns
join_records-returns t c = whole c.args.height c.args.store.now c.args.work.now c.args.top.now (get_or c.args.work.now c.args.p 0) c.args.p c.args.q refl c.requires.left c.requires.right c.requires.exists c.requires.room c.loop-i.work _ c.loop-i.i c.loop-i.top c.loop-i.invariant (omega (arith, c.loop-i.auto.i-end, c.loop-i-test.false)) refl

pub join_sets-returns : goal.join_sets-returns
join_sets-returns t c = set-joined c.args.height c.args.store.now c.args.work.now c.join-z.new.work c.lay.new.work c.args.top.now c.join-z.new.top c.args.p c.args.q c.made_type-x.result c.made_type-y.result c.join-z.result c.made_type-x.ensures c.made_type-y.ensures (omega (arith, c.join-z.auto.work, c.join-z.ensures.few, c.requires.room, ap (made c.args.height c.args.work.now) c.made_type-x.ensures)) c.lay.auto.work c.join-z.ensures c.lay.ensures
