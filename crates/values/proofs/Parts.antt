-- Parts of a memory, compared number by number.
use Rattle.std.specs.Ordering.{nat_cmp}
use Rattle.std.specs.List.{range_with_len}
use Rattle.std.proofs.Common.{refl, map, ◌≡◌, ℕ, zero, suc, ◌+◌, ◌-◌, ◌<◌, ◌≤◌, List, ◌∷◌, length, get_or, take, drop, sym, ap, ◌∙◌, ap₂, arith}
use Rattle.std.proofs.lemmas.List.{drop_more, length-take-le, length-drop}
use Rattle.values.specs.Held.{part, text_at, TextIn}

-- a part, with its first number apart
pub part-more : (m : List ℕ) (p n : ℕ) → p < length m → 0 < n → part m p n ≡ get_or m p 0 ∷ part m (p + 1) (n - 1)
part-more m p zero h l = absurd (omega arith)
part-more m p (suc n) h l =
    let e : suc n - 1 ≡ n = omega arith in
    ap (take (suc n)) (drop_more m p 0 h) ∙ ap (λ k. get_or m p 0 ∷ take k (drop (p + 1) m)) (sym e)

-- a part, number by number
pub part-words : (m : List ℕ) (p n : ℕ) → p + n ≤ length m → map (λ i. get_or m i 0) (range_with_len p n) ≡ part m p n
part-words m p zero h = refl
part-words m p (suc n) h =
    let e : suc n - 1 ≡ n = omega arith in
    ap (λ xs. get_or m p 0 ∷ xs) (part-words m (p + 1) n (omega arith) ∙ ap (part m (p + 1)) (sym e)) ∙ sym (part-more m p (suc n) (omega arith) (omega arith))

pub long : (m : List ℕ) (p : ℕ) → TextIn m p → length (text_at m p) ≡ get_or m p 0
long m p h = length-take-le (get_or m p 0) (drop (p + 1) m) (simp length-drop (omega arith))

pub lengths : (m : List ℕ) (p q : ℕ) → TextIn m p → TextIn m q → nat_cmp (length (text_at m p)) (length (text_at m q)) ≡ nat_cmp (get_or m p 0) (get_or m q 0)
lengths m p q h k = ap₂ nat_cmp (long m p h) (long m q k)
