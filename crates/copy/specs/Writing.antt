-- A row written among others, of something that stands in bytes. Assumes nothing: these are definitions.
use Rattle.std.specs.Prelude.{◌≡◌, ℕ, ◌+◌, ◌≤◌, List, ◌++◌, length, take, drop}
use Rattle.wire.specs.Read.{Read, got, stops}
use Rattle.copy.specs.declared.leaves.Copied.{Copied}

-- ys in place of what is at a place; all else is as it was
abbrev pub written : List ℕ → ℕ → List ℕ → List ℕ
written xs to ys = take to xs ++ (ys ++ drop (to + length ys) xs)

-- the rows when it is done, how far the bytes were read, and how far the rows were written
pub record Done : Type 0 where
  pub rows : List ℕ
  pub end : ℕ
  pub to : ℕ

abbrev pub done : List ℕ → Copied → Done
done xs r = record { rows = xs; end = r.end; to = r.to }

abbrev pub after : {X : Type 0} → (X → List ℕ) → List ℕ → ℕ → ℕ → Read X → Done
after f xs to at (got x n) = record { rows = written xs to (f x); end = at + n; to = to + length (f x) }
after f xs to at (stops k) = record { rows = xs; end = at + k; to = to }

-- it is read there, and there is room for its row
pub record Room {X : Type 0} (f : X → List ℕ) (R : Read X) (to len : ℕ) : Type 0 where
  pub what : X
  pub long : ℕ
  pub is : R ≡ got what long
  pub fits : to + length (f what) ≤ len

-- what was copied lies among the bytes, and its row among the rows
pub record Inside (at blen to rlen : ℕ) (r : Copied) : Type 0 where
  pub forth : at ≤ r.end
  pub ends : r.end ≤ blen
  pub on : to ≤ r.to
  pub fits : r.to ≤ rlen
