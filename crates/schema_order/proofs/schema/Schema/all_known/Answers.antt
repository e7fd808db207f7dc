use Rattle.std.proofs.Common.{◌≡◌, [], rules, ◌∙◌}
use Rattle.spec.specs.Types.{known_type}
use Rattle.schema_order.specs.Places.{text_at}
use Rattle.schema_order.specs.Schemas.{schema_in}
use Rattle.schema_order.proofs.Steps.{what-holds}
use Rattle.schema_order.proofs.schema.Schema.all_known.Goals as goal

pub returns : goal.returns
returns c =
    let T = known_type (schema_in c.args.self.now) in
    c.all_items.ensures T (λ item b g p. let t : b ≡ T (text_at c.args.self.now.bytes.now item) = search rules in t ∙ what-holds T [] _ g)
