-- What bytes say: something and how many bytes it takes, or how many of them can be the beginning of it. Assumes nothing: these are definitions.
use Rattle.std.specs.Prelude.{ℕ, zero, suc, ◌+◌, cond, List, [], ◌∷◌, length, take, drop, ◌==◌, nat_le}
use Rattle.std.proofs.Math.Option.{Option, some, none}
use Rattle.spec.specs.Basics.{Text}
use Rattle.spec.specs.Bytes.{Bytes}
use Rattle.words.specs.Words.{big_endian}

pub data Read (X : Type 0) : Type 0 where
  got : X → ℕ → Read X
  stops : ℕ → Read X

-- the same, behind n bytes
abbrev pub past : {X : Type 0} → ℕ → Read X → Read X
past n (got x k) = got x (n + k)
past n (stops k) = stops (n + k)

-- the same, made into something else
abbrev pub turn : {X Y : Type 0} → (X → Y) → Read X → Read Y
turn f (got x k) = got (f x) k
turn f (stops k) = stops k

-- one thing, and another behind it
abbrev pub follow : {X Y : Type 0} → Read X → Bytes → (X → Bytes → Read Y) → Read Y
follow (got x n) bs f = past n (f x (drop n bs))
follow (stops k) bs f = stops k

-- a number of eight bytes, the greatest first
unfoldable pub read_word : Bytes → Read ℕ
read_word bs = cond (nat_le 8 (length bs)) (got (big_endian bs) 8) (stops (length bs))

-- n bytes
unfoldable pub read_run : ℕ → Bytes → Read Text
read_run n bs = cond (nat_le n (length bs)) (got (take n bs) n) (stops (length bs))

-- a text: how long it is, and its bytes
unfoldable pub read_text : Bytes → Read Text
read_text bs = follow (read_word bs) bs read_run

-- a pattern: how many elements, and each in two bytes, which are 0 to 256
abbrev pub read_elements : ℕ → Bytes → Read (List ℕ)
read_elements zero bs = got [] 0
read_elements (suc n) [] = stops 0
read_elements (suc n) (a ∷ []) = cond (nat_le a 1) (stops 1) (stops 0)
read_elements (suc n) (a ∷ (b ∷ bs)) =
    cond (a == 0) (past 2 (turn (λ ps. b ∷ ps) (read_elements n bs)))
    (cond (a == 1) (cond (b == 0) (past 2 (turn (λ ps. 256 ∷ ps) (read_elements n bs))) (stops 1)) (stops 0))

unfoldable pub read_pattern : Bytes → Read (List ℕ)
read_pattern bs = follow (read_word bs) bs read_elements

-- one of some things, by its number
abbrev pub nth : {X : Type 0} → List X → ℕ → Option X
nth [] n = none
nth (x ∷ xs) zero = some x
nth (x ∷ xs) (suc n) = nth xs n

abbrev pub got_one : {X : Type 0} → Option X → Read X
got_one (some x) = got x 1
got_one none = stops 0

unfoldable pub read_one : {X : Type 0} → List X → Bytes → Read X
read_one xs [] = stops 0
read_one xs (b ∷ bs) = got_one (nth xs b)

-- many things, each behind a 1, and a 0 behind them all; the first k bytes are passed over
abbrev pub next : {X : Type 0} → Read X → (ℕ → Read (List X)) → Read (List X)
next (got x n) more = turn (λ xs. x ∷ xs) (more n)
next (stops k) more = stops k

unfoldable pub read_list : {X : Type 0} → (Bytes → Read X) → ℕ → Bytes → Read (List X)
read_list r k [] = stops 0
read_list r (suc k) (b ∷ bs) = past 1 (read_list r k bs)
read_list r zero (b ∷ bs) = cond (b == 0) (got [] 1) (cond (b == 1) (past 1 (next (r bs) (λ n. read_list r n bs))) (stops 0))
