-- What moves as an item comes or goes. Assumes nothing: these are definitions.
use Rattle.std.specs.Prelude.{ℕ, ◌+◌, ◌-◌, List, ◌∷◌, ◌++◌, map, take, drop}
use Rattle.std.proofs.Math.Seq.{paste}

-- the old numbers at a place become new many, and the others up to used move
abbrev pub moved : List ℕ → ℕ → ℕ → ℕ → ℕ → List ℕ
moved m at old new used = paste m (at + new) (drop (at + old) m) (used - (at + old))

-- each number loses old and gains new
abbrev pub raised : ℕ → ℕ → List ℕ → List ℕ
raised old new xs = map (λ x. x - old + new) xs

-- of a table of count numbers: those behind the k-th and so many more
abbrev pub rest : List ℕ → ℕ → ℕ → List ℕ
rest t k count = take (count - k) (drop k t)

-- a table as an item comes at k, in place of none or one: it begins at o, and those behind it move
abbrev pub tabled_with : List ℕ → ℕ → ℕ → ℕ → ℕ → ℕ → ℕ → List ℕ
tabled_with t k gone count o old new = take k t ++ (o ∷ (raised old new (rest t (k + gone) count) ++ drop (k + 1 + (count - (k + gone))) t))

-- a table as the k-th item goes
abbrev pub tabled_without : List ℕ → ℕ → ℕ → ℕ → List ℕ
tabled_without t k count old = take k t ++ (raised old 0 (rest t (k + 1) count) ++ drop (k + (count - (k + 1))) t)
