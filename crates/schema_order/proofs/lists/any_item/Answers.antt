use Rattle.std.proofs.Common.{not, rules, ap, ◌∙◌}
use Rattle.schema_order.proofs.Steps.{all-any, not-holds}
use Rattle.schema_order.proofs.lists.any_item.Goals as goal

pub returns : goal.returns
returns g c = λ T d. ap not (c.all_items.ensures (λ x. not (T x)) (λ item b h p. not-holds b T _ h (d item (not b) h (search rules)))) ∙ all-any T _
