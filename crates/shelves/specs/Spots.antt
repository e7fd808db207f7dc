-- Where an item is among others, or where it would be. Assumes nothing: these are definitions.
use Rattle.std.specs.Prelude.{◌≡◌, ℕ, ◌+◌, ◌≤◌, List, ◌∷◌, ◌++◌, length, take, drop, Some, None, Option, slice_index}
use Rattle.spec.specs.Basics.{Text, first, insert, remove, find}
use Rattle.shelves.specs.Items.{Item, laid, sizes}
use Rattle.shelves.specs.declared.finding.Extent.{Extent}
use Rattle.shelves.specs.declared.finding.Spot.{Spot}
use Rattle.shelves.specs.declared.finding.Entry.{Entry}

-- one, if an item is there, and else none
abbrev pub there_of : Option Extent → ℕ
there_of (Some e) = 1
there_of None = 0

abbrev pub there : Spot → ℕ
there s = there_of s.item

-- what it takes, or nothing
abbrev pub taken_of : Option Extent → Extent
taken_of (Some e) = e
taken_of None = record { numbers = 0; size = 0 }

abbrev pub taken : Spot → Extent
taken s = taken_of s.item

abbrev pub before : Spot → List Item → List Item
before s xs = take s.index xs

abbrev pub here : Spot → List Item → List Item
here s xs = take (there s) (drop s.index xs)

abbrev pub behind : Spot → List Item → List Item
behind s xs = drop (s.index + there s) xs

-- a spot among items that begin at a place: behind so many of them, and how much the item takes that is there, or nothing
pub record Place (from : ℕ) (xs : List Item) (s : Spot) : Type 0 where
  pub within : s.index + there s ≤ length xs
  pub at-is : s.at ≡ from + length (laid (before s xs))
  pub old-is : (taken s).numbers ≡ length (laid (here s xs))
  pub size_is : (taken s).size ≡ sizes (here s xs)

-- the spot of a key: what has the key, what one more with the key leaves, how large all are then, and what is left without it
pub record Found (key : Item → Text) (from : ℕ) (xs : List Item) (t : Text) (s : Spot) : Type 0 where
  pub place : Place from xs s
  pub finds : find key t xs ≡ first (here s xs)
  pub puts : (i : Item) → key i ≡ t → insert key i xs ≡ before s xs ++ (i ∷ behind s xs)
  pub weighs : (i : Item) → key i ≡ t → sizes (insert key i xs) + (taken s).size ≡ sizes xs + i.size
  pub removes : remove key t xs ≡ before s xs ++ behind s xs

-- ---- an item as it lies
pub record EntryAt (m : List ℕ) (at : ℕ) (e : Entry) : Type 0 where
  pub row_is : e.row ≡ at + 2
  pub long-is : e.long ≡ slice_index m at
  pub size_is : e.size ≡ slice_index m (at + 1)
  pub next-is : e.next ≡ at + 2 + slice_index m at

-- the k-th of the items from a place on
pub record EntryOf (m : List ℕ) (from : ℕ) (xs : List Item) (k : ℕ) (e : Entry) : Type 0 where
  pub one : Item
  pub is : drop k xs ≡ one ∷ drop (k + 1) xs
  pub more : List ℕ
  pub lies : drop e.row m ≡ one.row ++ more
  pub long-is : e.long ≡ length one.row
  pub size_is : e.size ≡ one.size
  pub row_is : e.row ≡ from + length (laid (take k xs)) + 2
  pub next-is : e.next ≡ from + length (laid (take (k + 1) xs))
  pub within : e.next ≤ length m
