-- Sets and records that are made at the top of the work memory: place a of the work has the node's 0, then its count, then its entries up to the top t.
-- All that the node holds lies below it.
use Rattle.std.specs.declared.cmp.Ordering.{Ordering}
use Rattle.std.specs.declared.cmp.Ordering.TheVariants.{Less, Equal, Greater}
use Rattle.std.specs.Prelude.{◌≡◌, ℕ, zero, suc, ◌+◌, ◌*◌, ◌<◌, ◌≤◌, List, [], ◌∷◌, ◌++◌, length, take, slice_index, slice_index_or, Result, Ok, Err}
use Rattle.spec.specs.Basics.{Text, insert_all, name}
use Rattle.spec.specs.Values as s
use Rattle.spec.specs.Values.{Values, Attrs, to_values, to_attrs, code}
use Rattle.laws.specs.Bridges.{with_value, with_attr}
use Rattle.values.specs.Order.{order_row, order_value}
use Rattle.values.specs.Held.{value_of, decode, Good, run, run_attrs, text_at, TextIn, Stands}
use Rattle.values.specs.declared.nodes.Value.{Value}
use Rattle.values.specs.declared.nodes.Value.TheVariants.{Bool as B, Int, String, Entity, Set, Record}

-- the memory up to a place of the work
abbrev pub up_to : List ℕ → List ℕ → ℕ → List ℕ
up_to store work t = store ++ take t work

-- what stands for a value stands for it as the work memory grows, and to any greater height
abbrev pub WorkGrows : Type 0
WorkGrows =
    (store w₁ w₂ : List ℕ) (t₁ t₂ h₁ h₂ : ℕ) (v : Value) (x : s.Value) → t₁ ≤ t₂ → h₁ ≤ h₂ → take t₁ w₂ ≡ take t₁ w₁ → Stands h₁ (up_to store w₁ t₁) v x → Stands h₂ (up_to store w₂ t₂) v x

-- ---- where something is, or where it belongs
-- among n in order: o k is how it stands to the k-th
abbrev pub Spotted : (ℕ → Ordering) → ℕ → Result ℕ ℕ → Type 0
Spotted o n (Ok k) = (k < n) × (o k ≡ Equal) × ((j : ℕ) → j < k → o j ≡ Greater)
Spotted o n (Err k) = (k ≤ n) × (k < n → o k ≡ Less) × ((j : ℕ) → j < k → o j ≡ Greater)

-- a search by halves: what is below lo is too small, what is from hi on too large
pub record Seeking (o : ℕ → Ordering) (n lo hi : ℕ) : Type 0 where
  pub within : lo ≤ hi
  pub ends : hi ≤ n
  pub below : (j : ℕ) → j < lo → o j ≡ Greater
  pub above : (j : ℕ) → hi ≤ j → j < n → o j ≡ Less

-- ---- what stands in an entry
abbrev pub tag_of : Value → ℕ
tag_of (B b) = 0
tag_of (Int z) = 1
tag_of (String p) = 2
tag_of (Entity p) = 3
tag_of (Set p) = 4
tag_of (Record p) = 5

-- numbers at a place, and nothing else
pub record Written (w w' : List ℕ) (at : ℕ) (xs : List ℕ) : Type 0 where
  pub before : take at w' ≡ take at w
  pub here : (j : ℕ) → j < length xs → slice_index w' (at + j) ≡ slice_index xs j
  pub beyond : (i : ℕ) → at + length xs ≤ i → slice_index w' i ≡ slice_index w i

-- the same, with what lay from there up to t behind them
pub record Opened (w w' : List ℕ) (at t : ℕ) (xs : List ℕ) : Type 0 where
  pub before : take at w' ≡ take at w
  pub here : (j : ℕ) → j < length xs → slice_index w' (at + j) ≡ slice_index xs j
  pub behind : (i : ℕ) → at ≤ i → i < t → slice_index w' (i + length xs) ≡ slice_index w i
  pub beyond : (i : ℕ) → t + length xs ≤ i → slice_index w' i ≡ slice_index w i

-- ---- a set that is being made
abbrev pub kept : List ℕ → ℕ → ℕ → Value
kept w a k = value_of 0 (slice_index w (a + 2 + 2 * k)) (slice_index w (a + 2 + 2 * k + 1))

abbrev pub meant : ℕ → List ℕ → List ℕ → ℕ → ℕ → s.Value
meant h store w a k = decode h (up_to store w a) (kept w a k)

abbrev pub gathered : ℕ → List ℕ → List ℕ → ℕ → Values
gathered h store w a = run (meant h store w a) 0 (slice_index w (a + 1))

pub record Made (h : ℕ) (store w : List ℕ) (a t : ℕ) : Type 0 where
  pub flag : slice_index_or w a 0 ≡ 0
  pub ends : a + 2 + 2 * slice_index w (a + 1) ≡ t
  pub fits : t ≤ length w
  pub each : (k : ℕ) → k < slice_index w (a + 1) → Good h (up_to store w a) (kept w a k)
  pub rising : (i j : ℕ) → i < j → j < slice_index w (a + 1) → order_value (meant h store w a i) (meant h store w a j) ≡ Less

-- what one more value does to it
pub record Inserted (h : ℕ) (store w w' : List ℕ) (a t t' : ℕ) (v : Value) : Type 0 where
  pub rises : t ≤ t'
  pub few : t' ≤ t + 2
  pub keeps : take a w' ≡ take a w
  pub beyond : (i : ℕ) → t + 2 ≤ i → slice_index w' i ≡ slice_index w i
  pub made : Made h store w' a t'
  pub holds : gathered h store w' a ≡ with_value (decode h (up_to store w a) v) (gathered h store w a)

-- ---- a record that is being made
abbrev pub named : List ℕ → ℕ → ℕ → ℕ
named w a k = slice_index w (a + 2 + 3 * k)

abbrev pub kept_attr : List ℕ → ℕ → ℕ → Value
kept_attr w a k = value_of 0 (slice_index w (a + 2 + 3 * k + 1)) (slice_index w (a + 2 + 3 * k + 2))

abbrev pub gathered_attrs : ℕ → List ℕ → List ℕ → ℕ → Attrs
gathered_attrs h store w a = run_attrs (λ k. text_at (up_to store w a) (named w a k)) (λ k. decode h (up_to store w a) (kept_attr w a k)) 0 (slice_index w (a + 1))

pub record MadeRecord (h : ℕ) (store w : List ℕ) (a t : ℕ) : Type 0 where
  pub flag : slice_index_or w a 0 ≡ 0
  pub ends : a + 2 + 3 * slice_index w (a + 1) ≡ t
  pub fits : t ≤ length w
  pub names : (k : ℕ) → k < slice_index w (a + 1) → TextIn (up_to store w a) (named w a k)
  pub rising : (i j : ℕ) → i < j → j < slice_index w (a + 1) → order_row (text_at (up_to store w a) (named w a i)) (text_at (up_to store w a) (named w a j)) ≡ Less
  pub each : (k : ℕ) → k < slice_index w (a + 1) → Good h (up_to store w a) (kept_attr w a k)

-- what one more attribute does to it
pub record InsertedAttr (h : ℕ) (store w w' : List ℕ) (a t t' n : ℕ) (v : Value) : Type 0 where
  pub rises : t ≤ t'
  pub few : t' ≤ t + 3
  pub keeps : take a w' ≡ take a w
  pub beyond : (i : ℕ) → t + 3 ≤ i → slice_index w' i ≡ slice_index w i
  pub made : MadeRecord h store w' a t'
  pub holds : gathered_attrs h store w' a ≡ with_attr (text_at (up_to store w a) n) (decode h (up_to store w a) v) (gathered_attrs h store w a)

-- ---- values and attributes that wait for their set or record, from a place of the work on
abbrev pub waiting : List ℕ → ℕ → ℕ → Value
waiting w from k = value_of 0 (slice_index w (from + 2 * k)) (slice_index w (from + 2 * k + 1))

abbrev pub waiting_name : List ℕ → ℕ → ℕ → ℕ
waiting_name w from k = slice_index w (from + 3 * k)

abbrev pub waiting_attr : List ℕ → ℕ → ℕ → Value
waiting_attr w from k = value_of 0 (slice_index w (from + 3 * k + 1)) (slice_index w (from + 3 * k + 2))

-- n things from the k-th on
abbrev pub listed : {A : Type 0} → (ℕ → A) → ℕ → ℕ → List A
listed f k zero = []
listed f k (suc n) = f k ∷ listed f (k + 1) n

-- n of them, as the definitions have them
abbrev pub waiting_values : ℕ → List ℕ → List ℕ → ℕ → ℕ → List s.Value
waiting_values h m w from n = listed (λ k. decode h m (waiting w from k)) 0 n

abbrev pub waiting_attrs : ℕ → List ℕ → List ℕ → ℕ → ℕ → List (Text × s.Value)
waiting_attrs h m w from n = listed (λ k. (text_at m (waiting_name w from k), decode h m (waiting_attr w from k))) 0 n

-- the set and the record of them: of two attributes that have one name the first stays
abbrev pub values_of : List s.Value → Values
values_of vs = to_values (insert_all code vs)

abbrev pub attrs_of : List (Text × s.Value) → Attrs
attrs_of fs = to_attrs (insert_all name fs)

-- ---- one of them, laid down where it waits
pub record Laid (w w' : List ℕ) (at : ℕ) (v : Value) : Type 0 where
  pub before : take at w' ≡ take at w
  pub is : waiting w' at 0 ≡ v
  pub beyond : (i : ℕ) → at + 2 ≤ i → slice_index w' i ≡ slice_index w i

pub record LaidAttr (w w' : List ℕ) (at n : ℕ) (v : Value) : Type 0 where
  pub before : take at w' ≡ take at w
  pub name : waiting_name w' at 0 ≡ n
  pub is : waiting_attr w' at 0 ≡ v
  pub beyond : (i : ℕ) → at + 3 ≤ i → slice_index w' i ≡ slice_index w i
