use Rattle.std.proofs.Common.{length, sym, refl, ◌∙◌, arith}
use Rattle.spec.specs.Types as s
use Rattle.types.specs.Held.{decode}
use Rattle.types.proofs.Frame.{wider}
use Rattle.types.proofs.Rules.{joins-tells}
use Rattle.types.proofs.Joins.{not_there}
use Rattle.types.proofs.joining.lub.Goals as goal

pub match_types-requires : goal.match_types-requires
match_types-requires c = record {
  left = wider c.args.store.now c.args.work.now 0 0 c.args.top.now (length c.args.work.now) (omega arith) c.requires.fits c.args.height c.args.v c.requires.left;
  right = wider c.args.store.now c.args.work.now 0 0 c.args.top.now (length c.args.work.now) (omega arith) c.requires.fits c.args.height c.args.u c.requires.right;
}

pub returns-then-not-match_types : goal.returns-then-not-match_types
returns-then-not-match_types c = (refl, refl, not_there (s.lub (decode c.args.height c.args.store.now c.args.work.now c.args.v) (decode c.args.height c.args.store.now c.args.work.now c.args.u)) (joins-tells (decode c.args.height c.args.store.now c.args.work.now c.args.v) (decode c.args.height c.args.store.now c.args.work.now c.args.u) ∙ sym c.if-not-match_types.ensures))

pub join-requires : goal.join-requires
join-requires c = record {
  fits = c.requires.fits;
  room = c.requires.room;
  left = c.requires.left;
  right = c.requires.right;
  exists = joins-tells (decode c.args.height c.args.store.now c.args.work.now c.args.v) (decode c.args.height c.args.store.now c.args.work.now c.args.u) ∙ sym c.if-not-match_types.ensures;
}
