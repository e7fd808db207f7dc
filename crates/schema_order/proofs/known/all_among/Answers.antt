use Rattle.std.proofs.Common.{◌≡◌, [], rules, ◌∙◌}
use Rattle.spec.specs.Values.{EntityUID}
use Rattle.spec.specs.Basics.{any}
use Rattle.spec.specs.Values.{same_uid}
use Rattle.schema_order.specs.declared.lists.Listed.TheVariants.{Uids}
use Rattle.schema_order.specs.Places.{uid_at, list_at}
use Rattle.schema_order.proofs.Steps.{what-holds}
use Rattle.schema_order.proofs.known.all_among.Goals as goal

pub returns : goal.returns
returns c =
    let T = λ (u : EntityUID). any (same_uid u) (list_at Uids c.args.bytes.now c.args.others) in
    c.all_items.ensures T (λ item b g p. let t : b ≡ T (uid_at c.args.bytes.now item) = search rules in t ∙ what-holds T (record { ty = []; eid = [] }) _ g)
