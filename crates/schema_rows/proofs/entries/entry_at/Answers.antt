use Rattle.std.proofs.Common.{ℕ, List, true, [], sym, refl, ap, ◌∙◌, subst}
use Rattle.values.specs.Held.{behind_text}
use Rattle.types.specs.Held.{AttrIn, TypeRowIn, next_at, behind_row}
use Rattle.schema_rows.specs.Lists.{behind_list, ListIn, TextsIn}
use Rattle.schema_rows.specs.Entries.{entry_attrs, entry_tags}
use Rattle.schema_rows.proofs.Places.{attrs-list, types-list}
use Rattle.schema_rows.proofs.entries.entry_at.Goals as goal

pub skip_list-attrs-requires : goal.skip_list-attrs-requires
skip_list-attrs-requires c =
    let m : List ℕ = c.args.store.now in
    let q0 = c.skip-ancestors.ensures in
    subst (TextsIn m) (sym q0) c.requires.ancestors

pub skip_list-tags-requires : goal.skip_list-tags-requires
skip_list-tags-requires c =
    let m : List ℕ = c.args.store.now in
    let q0 = c.skip-ancestors.ensures in
    let q1 = c.skip_list-attrs.ensures ∙ ap (behind_list (behind_text m) m) q0 in
    subst (ListIn (AttrIn true m [] 0) (next_at true m) m) (sym q1) (attrs-list m (entry_attrs m c.args.e) c.requires.attrs)

pub skip_list-next-requires : goal.skip_list-next-requires
skip_list-next-requires c =
    let m : List ℕ = c.args.store.now in
    let q0 = c.skip-ancestors.ensures in
    let q1 = c.skip_list-attrs.ensures ∙ ap (behind_list (behind_text m) m) q0 in
    let q2 = c.skip_list-tags.ensures ∙ ap (behind_list (next_at true m) m) q1 in
    subst (ListIn (TypeRowIn m) (behind_row m) m) (sym q2) (types-list m (entry_tags m c.args.e) c.requires.tags)

pub returns : goal.returns
returns c =
    let m : List ℕ = c.args.store.now in
    let q0 = c.skip-ancestors.ensures in
    let q1 = c.skip_list-attrs.ensures ∙ ap (behind_list (behind_text m) m) q0 in
    let q2 = c.skip_list-tags.ensures ∙ ap (behind_list (next_at true m) m) q1 in
    let q3 = c.skip_list-next.ensures ∙ ap (behind_list (behind_row m) m) q2 in
    record { name = refl; ancestors = q0; attrs = q1; tags = q2; next = q3 }
