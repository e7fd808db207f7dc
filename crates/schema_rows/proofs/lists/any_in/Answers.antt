use Rattle.std.proofs.Common.{is_some, ap, ◌∙◌}
use Rattle.schema_rows.specs.Lists.{list_at}
use Rattle.schema_rows.proofs.Steps.{any-find}
use Rattle.schema_rows.proofs.lists.any_in.Goals as goal

pub returns : goal.returns
returns g c t a = c.is_some.ensures ∙ ap is_some (c.find_in.ensures.first t a) ∙ any-find t (list_at (λ e. e) (g.T.Listed.behind c.args.store.now) c.args.store.now c.args.p)
