-- A number below 2 ^ 64 is read back from its eight bytes.
use Rattle.std.proofs.Common.{◌≡◌, ℕ, ◌+◌, ◌<◌, List, ◌++◌, length, take, drop, Some, None, Option, IsSomeAnd, refl, sym, ap, ◌∙◌, append_assoc, arith}
use Rattle.std.specs.Borrow.{Bor}
use Rattle.std.proofs.lemmas.List.{length-append, length-drop, drop_at, take_at, drop-drop}
use Rattle.std.proofs.lemmas.Bool.{le-leb, cond-true}
use Rattle.spec.specs.Bytes.{encode_word, encode_text}
use Rattle.words.specs.Words.{big_endian, word_at, FirstText}

pub word-long : (n : ℕ) → length (encode_word n) ≡ 8
unfolding encode_word
word-long n = refl

pub big_endian-word : (n : ℕ) (rest : List ℕ) → n < 18446744073709551616 → big_endian (encode_word n ++ rest) ≡ n
unfolding encode_word
big_endian-word n rest h = omega arith

-- where a number's bytes stand, the number is read
pub word-there : (at : ℕ) (bs : List ℕ) (n : ℕ) (rest : List ℕ) → n < 18446744073709551616 → drop at bs ≡ encode_word n ++ rest → word_at at bs ≡ Some n
word-there at bs n rest small e =
    let long : length (drop at bs) ≡ 8 + length rest = ap length e ∙ simp length-append (omega (arith, word-long n)) in
    cond-true _ _ _ (le-leb (at + 8) (length bs) (omega (arith, length-drop at bs)))
    ∙ ap (λ xs. Some (big_endian xs)) e
    ∙ ap (λ m. Some m) (big_endian-word n rest small)

pub word_read : (at : ℕ) (bs : List ℕ) (r : Option ℕ) → r ≡ word_at at bs → (n : ℕ) (rest : List ℕ) → n < 18446744073709551616 → drop at bs ≡ encode_word n ++ rest → r ≡ Some n
word_read at bs r e n rest small d = e ∙ word-there at bs n rest small d

-- where a text's bytes stand behind its length: the length is read, and then the text
text-parts : (bs text rest : List ℕ) → length bs < 18446744073709551616 → bs ≡ encode_text text ++ rest → (length bs ≡ 8 + (length text + length rest)) × (big_endian bs ≡ length text) × (drop 8 bs ≡ text ++ rest)
text-parts bs text rest small e =
    let whole : bs ≡ encode_word (length text) ++ (text ++ rest) = e ∙ append_assoc (encode_word (length text)) text rest in
    let long : length bs ≡ 8 + (length text + length rest) = ap length whole ∙ simp length-append (omega (arith, word-long (length text))) in
    (long, ap big_endian whole ∙ big_endian-word (length text) (text ++ rest) (omega arith), ap (drop 8) whole ∙ drop_at (encode_word (length text)) (text ++ rest) 8 (word-long (length text)))

-- that text is told, and what stands behind it
pub text_read : (bs : List ℕ) (r : Option (Bor (List ℕ) × Bor (List ℕ))) → length bs < 18446744073709551616 → FirstText bs r → (text rest : List ℕ) → bs ≡ encode_text text ++ rest → IsSomeAnd r (λ p. (p.0.now ≡ text) × (p.1.now ≡ rest))
text_read bs (Some p) small h text rest e =
    let parts = text-parts bs text rest small e in
    let size : length p.0.now ≡ length text = h.1 ∙ parts.1 in (
      h.2 ∙ ap (λ k. take k (drop 8 bs)) size ∙ ap (take (length text)) parts.2 ∙ take_at text rest (length text) refl,
      h.3 ∙ ap (λ k. drop (8 + k) bs) size ∙ sym (drop-drop (length text) 8 bs) ∙ ap (drop (length text)) parts.2 ∙ drop_at text rest (length text) refl,
    )
text_read bs None small h text rest e = let parts = text-parts bs text rest small e in absurd (omega arith)
