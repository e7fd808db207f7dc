use Rattle.std.proofs.Common.{◌≡◌, rules, ap, ◌∙◌}
use Rattle.std.specs.Option.{is_some}
use Rattle.schema_order.specs.Places.{before, key, key_at, list_at}
use Rattle.schema_order.proofs.Steps.{each-rises, before-holds, walked}
use Rattle.schema_order.proofs.lists.rises.Goals as goal

pub returns : goal.returns
returns c =
    let l = c.args.listed in
    let bs = c.args.bytes.now in
    c.is_some.ensures
    ∙ ap is_some (c.walk.ensures.is (λ x rest. before (key l) (key l x) rest) (λ item next b h p. let t : b ≡ before (key l) (key_at l bs item) (list_at l bs next) = search rules in t ∙ before-holds (key l) (list_at l bs next) _ h.0))
    ∙ walked _ _ ∙ each-rises (key l) _
