-- The number that eight bytes are, the greatest byte first: it reads back what `encode_word` writes.
use Rattle.std.specs.Prelude.{◌≡◌, ℕ, ◌+◌, ◌*◌, ◌<◌, ◌≤◌, cond, List, length, take, drop, Some, None, Option, nat_le, slice_index}
use Rattle.std.specs.Borrow.{Bor}

-- the number that the first eight bytes are
abbrev pub big_endian : List ℕ → ℕ
big_endian bs = slice_index bs 0 * 72057594037927936 + slice_index bs 1 * 281474976710656 + slice_index bs 2 * 1099511627776 + slice_index bs 3 * 4294967296 + slice_index bs 4 * 16777216 + slice_index bs 5 * 65536 + slice_index bs 6 * 256 + slice_index bs 7

-- the number at a place, if there are eight bytes
abbrev pub word_at : ℕ → List ℕ → Option ℕ
word_at at bs = cond (nat_le (at + 8) (length bs)) (Some (big_endian (drop at bs))) None

-- a text as long as the number before it says, and what stands behind it; or too few bytes are left
abbrev pub FirstText : List ℕ → Option (Bor (List ℕ) × Bor (List ℕ)) → Type 0
FirstText bs (Some p) = (8 + length p.0.now ≤ length bs) × (length p.0.now ≡ big_endian bs) × (p.0.now ≡ take (length p.0.now) (drop 8 bs)) × (p.1.now ≡ drop (8 + length p.0.now) bs)
FirstText bs None = length bs < 8 + big_endian bs
