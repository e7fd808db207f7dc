use Rattle.std.proofs.Common.{◌≡◌, [], rules, ◌∙◌}
use Rattle.spec.specs.Values.{EntityUID}
use Rattle.spec.specs.Basics.{is_some}
use Rattle.spec.specs.Types.{find_action}
use Rattle.schema_order.specs.Places.{uid_at}
use Rattle.schema_order.specs.Schemas.{schema_in}
use Rattle.schema_order.proofs.Steps.{what-holds}
use Rattle.schema_order.proofs.schema.Schema.all_actions.Goals as goal

pub returns : goal.returns
returns c =
    let T = λ (u : EntityUID). is_some (find_action u (schema_in c.args.self.now)) in
    c.all_items.ensures T (λ item b g p. let t : b ≡ T (uid_at c.args.self.now.bytes.now item) = search rules in t ∙ what-holds T (record { ty = []; eid = [] }) _ g)
