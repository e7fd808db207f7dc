use Rattle.std.proofs.Common.{subst, sym}
use Rattle.std.proofs.lemmas.Option.{MatchOption-at_some}
use Rattle.store.specs.Sections.{sections}
use Rattle.store.specs.Places.{Says}
use Rattle.store.proofs.Reading.{says_first, bounds}
use Rattle.store.proofs.layout.header_of.Goals as goal

pub returns : goal.returns
returns c =
    let first = MatchOption-at_some _ _ c.unwrap-numbers.result c.unwrap-numbers.ensures c.first_chunk.ensures.cases in
    record { says = subst (Says (sections c.args.store.now)) (sym c.from.ensures) (says_first c.args.store.now c.requires c.unwrap-numbers.result.now first.same); bounds = bounds _ c.requires.ordered }
