-- How an id stands in a line: in double quotes, and only with characters that can be printed.
use Rattle.std.specs.Prelude.{ℕ, ◌+◌, ◌/◌, ◌%◌, cond, List, [], ◌∷◌, ◌++◌, ◌==◌, nat_lt}

-- a digit in base sixteen: 0 to 9, then a to f
abbrev pub hex_digit : ℕ → ℕ
hex_digit d = cond (nat_lt d 10) (48 + d) (87 + d)

-- `\x` and two digits
abbrev pub hex_escape : ℕ → List ℕ
hex_escape b = 92 ∷ (120 ∷ (hex_digit (b / 16) ∷ (hex_digit (b % 16) ∷ [])))

-- a quote and a backslash behind a backslash; blank to `~` as themselves
abbrev pub escape : ℕ → List ℕ
escape b =
    cond (b == 34) (92 ∷ (34 ∷ []))
    (cond (b == 92) (92 ∷ (92 ∷ []))
    (cond (nat_lt b 32) (hex_escape b)
    (cond (nat_lt b 127) (b ∷ []) (hex_escape b))))

unfoldable pub escapes : List ℕ → List ℕ
escapes [] = []
escapes (b ∷ bs) = escape b ++ escapes bs

abbrev pub quote : List ℕ → List ℕ
quote id = 34 ∷ (escapes id ++ (34 ∷ []))

-- each behind a blank
unfoldable pub quotes : List (List ℕ) → List ℕ
quotes [] = []
quotes (id ∷ ids) = (32 ∷ quote id) ++ quotes ids

-- one text if there is no id; else another, and the ids
unfoldable pub quotes_or : List ℕ → List ℕ → List (List ℕ) → List ℕ
quotes_or none before [] = none
quotes_or none before (id ∷ ids) = before ++ quotes (id ∷ ids)
