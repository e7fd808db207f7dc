-- What a store takes fits into its memory.
use Rattle.std.proofs.Common.{◌*◌, ◌≤◌, List, [], ◌∷◌, length, arith}
use Rattle.std.proofs.lemmas.List.{length-append}
use Rattle.shelves.specs.Items.{Item, laid, sizes, Each}
use Rattle.store.specs.Sections.{Kept, MemoryNeverRunsOut}

pub bounded : (KeyIn : Item → Type 0) (xs : List Item) → Each (Kept KeyIn) xs → (2 * length (laid xs) ≤ 9 * sizes xs) × (2 * length xs ≤ sizes xs)
bounded KeyIn [] h = (omega arith, omega arith)
bounded KeyIn (x ∷ xs) h =
    let r = bounded KeyIn xs h.1 in
    let k = h.0 in
    let l = length-append x.row (laid xs) in
    (omega arith, omega arith)

pub never-runs-out : MemoryNeverRunsOut
never-runs-out s p e c z =
    let a = bounded _ s.policies p in
    let b = bounded _ s.entities e in
    (omega arith, omega arith)
