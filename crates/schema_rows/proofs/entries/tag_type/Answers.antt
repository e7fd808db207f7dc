use Rattle.std.proofs.Common.{◌≡◌, ℕ, suc, ◌+◌, ◌<◌, [], get_or, sym, ap, ◌∙◌, subst, arith}
use mathlib.Core.Option.{some}
use Rattle.spec.specs.Basics.{first}
use Rattle.types.specs.Held.{behind_row, Good, decode}
use Rattle.schema_rows.specs.Lists.{list_at}
use Rattle.schema_rows.specs.Entries.{type_depth, type_at, TypeIn, TypesIn}
use Rattle.schema_rows.proofs.Steps.{all_here, list-step}
use Rattle.schema_rows.proofs.entries.tag_type.Goals as goal

above : (n : ℕ) → (n ≡ 0 → ⊥) → 0 < n
above n h = omega (arith, h)

pub row_type-requires : goal.row_type-requires
row_type-requires c = (all_here (TypeIn c.args.store.now) (behind_row c.args.store.now) (get_or c.args.store.now c.args.entry.tags 0) (c.args.entry.tags + 1) (above (get_or c.args.store.now c.args.entry.tags 0) c.if-store-entry-eq0.false) (subst (TypesIn c.args.store.now) (sym c.requires.is.tags) c.requires.good.tags).each).0

pub returns : goal.returns
returns c =
    let t = c.args.entry.tags in
    let g = (all_here (TypeIn c.args.store.now) (behind_row c.args.store.now) (get_or c.args.store.now c.args.entry.tags 0) (c.args.entry.tags + 1) (above (get_or c.args.store.now c.args.entry.tags 0) c.if-store-entry-eq0.false) (subst (TypesIn c.args.store.now) (sym c.requires.is.tags) c.requires.good.tags).each) in
    let l = above (get_or c.args.store.now t 0) c.if-store-entry-eq0.false in (
      subst (Good (suc type_depth) c.args.store.now [] 0 0) (sym c.row_type.ensures) g.1,
      ap (λ k. first (list_at (type_at c.args.store.now) (behind_row c.args.store.now) c.args.store.now k)) (sym c.requires.is.tags) ∙ ap first (list-step (type_at c.args.store.now) (behind_row c.args.store.now) (get_or c.args.store.now t 0) (t + 1) l) ∙ ap (λ v. some (decode (suc type_depth) c.args.store.now [] v)) (sym c.row_type.ensures),
    )
