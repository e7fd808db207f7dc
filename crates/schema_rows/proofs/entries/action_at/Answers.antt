use Rattle.std.proofs.Common.{ℕ, List, true, [], sym, refl, ap, ◌∙◌, subst}
use Rattle.values.specs.Held.{behind_text}
use Rattle.types.specs.Held.{AttrIn, next_at}
use Rattle.schema_rows.specs.Lists.{behind_list, behind_uid, ListIn, TextsIn, UIDsIn}
use Rattle.schema_rows.specs.Entries.{action_context}
use Rattle.schema_rows.proofs.Places.{attrs-list}
use Rattle.schema_rows.proofs.entries.action_at.Goals as goal

pub skip_list-resources-requires : goal.skip_list-resources-requires
skip_list-resources-requires c =
    let m : List ℕ = c.args.store.now in
    let q0 = c.skip-principals.ensures in
    subst (TextsIn m) (sym q0) c.requires.principals

pub skip_list-ancestors-requires : goal.skip_list-ancestors-requires
skip_list-ancestors-requires c =
    let m : List ℕ = c.args.store.now in
    let q0 = c.skip-principals.ensures in
    let q1 = c.skip_list-resources.ensures ∙ ap (behind_list (behind_text m) m) q0 in
    subst (TextsIn m) (sym q1) c.requires.resources

pub skip_list-context-requires : goal.skip_list-context-requires
skip_list-context-requires c =
    let m : List ℕ = c.args.store.now in
    let q0 = c.skip-principals.ensures in
    let q1 = c.skip_list-resources.ensures ∙ ap (behind_list (behind_text m) m) q0 in
    let q2 = c.skip_list-ancestors.ensures ∙ ap (behind_list (behind_text m) m) q1 in
    subst (UIDsIn m) (sym q2) c.requires.ancestors

pub skip_list-next-requires : goal.skip_list-next-requires
skip_list-next-requires c =
    let m : List ℕ = c.args.store.now in
    let q0 = c.skip-principals.ensures in
    let q1 = c.skip_list-resources.ensures ∙ ap (behind_list (behind_text m) m) q0 in
    let q2 = c.skip_list-ancestors.ensures ∙ ap (behind_list (behind_text m) m) q1 in
    let q3 = c.skip_list-context.ensures ∙ ap (behind_list (behind_uid m) m) q2 in
    subst (ListIn (AttrIn true m [] 0) (next_at true m) m) (sym q3) (attrs-list m (action_context m c.args.e) c.requires.context)

pub returns : goal.returns
returns c =
    let m : List ℕ = c.args.store.now in
    let q0 = c.skip-principals.ensures in
    let q1 = c.skip_list-resources.ensures ∙ ap (behind_list (behind_text m) m) q0 in
    let q2 = c.skip_list-ancestors.ensures ∙ ap (behind_list (behind_text m) m) q1 in
    let q3 = c.skip_list-context.ensures ∙ ap (behind_list (behind_uid m) m) q2 in
    let q4 = c.skip_list-next.ensures ∙ ap (behind_list (next_at true m) m) q3 in
    record { uid = refl; principals = q0; resources = q1; ancestors = q2; context = q3; next = q4 }
