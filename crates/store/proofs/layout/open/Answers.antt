use Rattle.std.proofs.Common.{◌≡◌, ℕ, ◌≤◌, List, [], ◌∷◌, ◌++◌, length, drop, set, sym, refl, ap, ◌∙◌, subst, arith}
use Rattle.std.proofs.lemmas.List.{length-drop, drop-drop}
use Rattle.spec.specs.Basics.{ascending}
use Rattle.store.specs.Sections.{header, empty, table_at, store_numbers, Ordered, Holds}
use Rattle.store.proofs.Reading.{held_after}
use Rattle.store.proofs.layout.open.Goals as goal

two : (l : List ℕ) → 2 ≤ length l → set (set l 0 0) 1 0 ≡ 0 ∷ (0 ∷ drop 2 l)
two [] h = absurd (omega arith)
two (a ∷ []) h = absurd (omega arith)
two (a ∷ (b ∷ l)) h = refl

nothing : (capacity : ℕ) → 1 ≤ capacity → capacity ≤ 16777216 → Ordered (empty capacity)
unfolding ascending
nothing capacity a b = record {
  policies-ordered = refl;
  entities-ordered = refl;
  policies-kept = tt;
  entities-kept = tt;
  schema-bounded = omega arith;
  small = omega arith;
  least = a;
  limit = b;
}

opened : (m : List ℕ) (capacity : ℕ) → 1 ≤ capacity → capacity ≤ 16777216 → store_numbers capacity ≤ length m → Holds (set (set (header (empty capacity) ++ drop 10 m) 10 0) 11 0) (empty capacity)
opened m capacity a b f =
    let l = length-drop 10 m in
    held_after (empty capacity) m _ (drop (table_at capacity) m) (ap (λ l. header (empty capacity) ++ l) (two (drop 10 m) (omega arith) ∙ ap (λ l. 0 ∷ (0 ∷ l)) (drop-drop 2 10 m))) (nothing capacity a b) refl f

pub returns : goal.returns
returns c =
    subst (λ l. Holds (set (set l 10 0) 11 0) (empty c.args.capacity)) (sym c.write_header.ensures) (opened c.args.store.now c.args.capacity c.requires.least c.requires.limit c.requires.fits)
