use Rattle.std.proofs.Common.{ℕ, ◌+◌, Bool, List, ◌&&◌, get_or, ap, ◌∙◌, rules}
use Rattle.spec.specs.Basics.{any, same}
use Rattle.values.specs.Held.{text_at, uid_at}
use Rattle.schema_rows.specs.Lists.{list_at, behind_uid}
use Rattle.schema_rows.specs.Entries.{action_ancestors}
use Rattle.schema_rows.proofs.Steps.{any-places}
use Rattle.schema_rows.proofs.entries.is_below.Goals as goal

pub returns : goal.returns
returns c =
    let m : List ℕ = c.args.store.now in
    let p : ℕ = c.action_at.result.ancestors in
    let u = text_at m c.args.u in
    let t : ℕ → Bool = λ e. same u (text_at m e) in
    c.any_in.ensures t (λ e b l p. search rules)
    ∙ any-places (λ v. same u v.ty) (uid_at m) (behind_uid m) (get_or m p 0) (p + 1)
    ∙ ap (λ k. any (λ v. same u v.ty) (list_at (uid_at m) (behind_uid m) m k)) c.action_at.ensures.ancestors
    ∙ ap (λ b. b && any (λ v. same u v.ty) (list_at (uid_at m) (behind_uid m) m (action_ancestors m c.args.e))) c.if-not-same_names.ensures
