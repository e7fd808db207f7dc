-- Items that lie in memory one after the other, in the order of their keys. An item is the length of its row, its size, and the row, at whose begin its key lies.
-- Assumes nothing: these are definitions.
use Rattle.std.specs.Prelude.{◌≡◌, ℕ, zero, suc, ◌+◌, true, List, [], ◌∷◌, ◌++◌, length, take, drop, slice_index}
use Rattle.spec.specs.Basics.{Text, ascending}
use Rattle.spec.specs.Values.{code_uid}
use Rattle.spec.specs.Calls.{sum_of}
use Rattle.rows.specs.Rows.{rows_of}
use Rattle.values.specs.Held.{text_at, TextIn, uid_at, UIDIn}

pub record Item : Type 0 where
  pub size : ℕ
  pub row : List ℕ

-- ---- how items stand in memory
abbrev pub numbers : Item → List ℕ
numbers i = length i.row ∷ (i.size ∷ i.row)

abbrev pub laid : List Item → List ℕ
laid xs = rows_of numbers xs

-- and how they are read back: n of them, each by its length
unfoldable pub items_in : ℕ → List ℕ → List Item
items_in zero m = []
items_in (suc n) m = record { size = slice_index m 1; row = take (slice_index m 0) (drop 2 m) } ∷ items_in n (drop (2 + slice_index m 0) m)

abbrev pub items_at : List ℕ → ℕ → ℕ → List Item
items_at m p n = items_in n (drop p m)

abbrev pub sizes : List Item → ℕ
sizes xs = sum_of (λ i. i.size) xs

-- where each begins, counted from where the first begins
abbrev pub offsets : ℕ → List Item → List ℕ
offsets o [] = []
offsets o (i ∷ is) = o ∷ offsets (o + length (numbers i)) is

-- ---- keys: a text, or the name of an entity
abbrev pub id_key : Item → Text
id_key i = text_at i.row 0

abbrev pub IdIn : Item → Type 0
IdIn i = TextIn i.row 0

abbrev pub uid_key : Item → Text
uid_key i = code_uid (uid_at i.row 0)

abbrev pub UidIn : Item → Type 0
UidIn i = UIDIn i.row 0

-- ---- what holds of each
abbrev pub Each : (Item → Type 0) → List Item → Type 0
Each P [] = Unit {0}
Each P (i ∷ is) = P i × Each P is

-- items lie from a place on, in the order of a key, each key once, and each key lies in its row
pub record Shelf (key : Item → Text) (KeyIn : Item → Type 0) (m : List ℕ) (from count : ℕ) : Type 0 where
  pub rest : List ℕ
  pub is : drop from m ≡ laid (items_at m from count) ++ rest
  pub ordered : ascending key (items_at m from count) ≡ true
  pub keys : Each KeyIn (items_at m from count)

-- and a table at another place says where each begins
pub record Tabled (key : Item → Text) (KeyIn : Item → Type 0) (m : List ℕ) (from table count : ℕ) : Type 0 where
  pub shelf : Shelf key KeyIn m from count
  pub behind : List ℕ
  pub offsets_are : drop table m ≡ offsets 0 (items_at m from count) ++ behind
