use Rattle.std.proofs.Common.{◌≡◌, ℕ, ◌+◌, ◌-◌, ap, ap₂, ◌∙◌, arith, rules}
use Rattle.shelves.specs.Moves.{tabled_with}
use Rattle.shelves.specs.Spots.{taken}
use Rattle.shelves.proofs.Spotted.{there_small}
use Rattle.shelves.proofs.moving.insert_place.Goals as goal

pub insert_place_at-requires : goal.insert_place_at-requires
insert_place_at-requires c =
    let s = c.args.spot in
    let one = there_small s in
    let gone = c.count.ensures in
    let old : c.taken.result.numbers ≡ (taken s).numbers = ap (λ e. e.numbers) c.taken.ensures in
    (omega arith, (omega arith, (c.requires.old, (omega arith, (λ j a b. let p = c.requires.behind j (omega arith) b in (omega arith, p.1))))))

pub returns : goal.returns
returns c =
    let s = c.args.spot in
    let at : c.saturating_sub-place.result ≡ s.at - c.args.table.from = search rules in
    c.insert_place_at.ensures
    ∙ ap (λ x. tabled_with c.args.places.now s.index c.count.result c.args.table.count x c.taken.result.numbers c.args.new) at
    ∙ ap₂ (λ g e. tabled_with c.args.places.now s.index g c.args.table.count (s.at - c.args.table.from) e.numbers c.args.new) c.count.ensures c.taken.ensures
