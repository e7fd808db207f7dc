use Rattle.std.proofs.Common.{◌≡◌, ℕ, List, ◌++◌, drop, sym, refl, ap, ◌∙◌}
use Rattle.store.specs.Sections.{Sections, header, sections, layout, Ordered, Good, Holds}
use Rattle.store.specs.Changes.{with_counts}
use Rattle.store.specs.Places.{header_row, Says}
use Rattle.store.specs.declared.layout.Header.{Header}
use Rattle.store.proofs.Reading.{held_after, header_is, rest_at}
use Rattle.store.proofs.layout.set_counts.Goals as goal

counted : (m m' : List ℕ) (h : Header) → Good m → Says (sections m) h → (unfit missing : ℕ) → m' ≡ header_row (record h { unfit = unfit; missing = missing }) ++ drop 10 m → Holds m' (with_counts unfit missing (sections m))
counted m m' h g says unfit missing e =
    let s : Sections = with_counts unfit missing (sections m) in
    let h' : Header = record h { unfit = unfit; missing = missing } in
    let o = g.ordered in
    let k : Ordered s = record {
      policies-ordered = o.policies-ordered;
      entities-ordered = o.entities-ordered;
      policies-kept = o.policies-kept;
      entities-kept = o.entities-kept;
      schema-bounded = o.schema-bounded;
      small = o.small;
      least = o.least;
      limit = o.limit;
    } in
    let now : Says s h' = record {
      capacity-is = says.capacity-is;
      size_is = says.size_is;
      policies-is = says.policies-is;
      entities-is = says.entities-is;
      used-is = says.used-is;
      policy-count-is = says.policy-count-is;
      entity-count-is = says.entity-count-is;
      schema-size-is = says.schema-size-is;
      unfit-is = refl;
      missing-is = refl;
    } in
    held_after s m m' g.behind (e ∙ ap (λ l. l ++ drop 10 m) (header_is s h' now) ∙ ap (λ l. header s ++ drop 10 l) g.is ∙ ap (layout s) (sym (rest_at (sections m) g.rest m g.is))) k g.table g.fits

pub returns : goal.returns
returns c = counted c.args.store.now _ _ c.requires c.header_of-header.ensures.says c.args.unfit c.args.missing c.write_header.ensures
