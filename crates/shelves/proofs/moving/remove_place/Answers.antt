use Rattle.std.proofs.Common.{◌≡◌, ◌+◌, ◌^◌, ◌<◌, ◌≤◌, ap, ◌∙◌, arith}
use Rattle.shelves.specs.Moves.{tabled_without}
use Rattle.shelves.specs.Spots.{taken}
use Rattle.shelves.proofs.Tables.{without_is, without-holds}
use Rattle.shelves.proofs.moving.remove_place.Goals as goal

pub raise-requires : goal.raise-requires
raise-requires c =
    let s = c.args.spot in
    let old : c.taken.result.numbers ≡ (taken s).numbers = ap (λ e. e.numbers) c.taken.ensures in
    without-holds c.args.places.now _ s.index c.args.count _ c.resize.ensures c.requires.under c.requires.old (omega arith)
    (λ x. (c.taken.result.numbers ≤ x) × (x + 0 < 2 ^ 64)) (λ j a b. let p = c.requires.behind j a b in (omega arith, omega (arith, p.1)))

pub returns : goal.returns
returns c =
    without_is c.args.places.now _ c.args.spot.index c.args.count _ c.resize.ensures c.requires.under c.requires.old (omega arith) _ c.taken.result.numbers c.raise.ensures
    ∙ ap (λ e. tabled_without c.args.places.now c.args.spot.index c.args.count e.numbers) c.taken.ensures
