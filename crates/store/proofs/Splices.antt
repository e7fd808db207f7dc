-- Numbers that give way to others in the midst of a memory, under new first numbers.
use Rattle.std.proofs.Common.{◌≡◌, ℕ, ◌+◌, ◌-◌, ◌≤◌, List, [], ◌∷◌, ◌++◌, length, take, drop, set, sym, refl, ap, ◌∙◌, append_assoc, arith, take-add}
use Rattle.std.proofs.lemmas.List.{length-append, length-drop, length-take-le, drop-drop, take_at, drop_at}
use Rattle.shelves.specs.Moves.{moved}
use Rattle.copy.specs.Writing.{written}
use Rattle.copy.proofs.Writes.{written_one, written-more, written-long}

module _ (H P G T R m : List ℕ) (at old new used : ℕ) (is : m ≡ H ++ (P ++ (G ++ (T ++ R)))) (h : length H ≡ 10) (p : at ≡ 10 + length P) (g : length G ≡ old) (u : used ≡ at + (old + length T)) (fits : at + new + length T ≤ length m) where
  -- what stood in the room for the new ones
  abbrev pub old-room : List ℕ
  old-room = take new (drop at m)

  pub room-long : length old-room ≡ new
  room-long = let d = length-drop at m in length-take-le new (drop at m) (omega arith)

  grouped : m ≡ (H ++ P) ++ (G ++ (T ++ R))
  grouped = is ∙ sym (append_assoc H P (G ++ (T ++ R)))

  front : length (H ++ P) ≡ at
  front = length-append H P ∙ omega arith

  past : drop (at + old) m ≡ T ++ R
  past = sym (drop-drop old at m) ∙ ap (drop old) (ap (drop at) grouped ∙ drop_at (H ++ P) (G ++ (T ++ R)) at front) ∙ drop_at G (T ++ R) old g

  moved-is : moved m at old new used ≡ H ++ (P ++ (old-room ++ (T ++ drop (at + new + length T) m)))
  moved-is =
      let X : List ℕ = T ++ drop (at + new + length T) m in
      let n : length T ≡ used - (at + old) = omega arith in
      let b : take (used - (at + old)) (drop (at + old) m) ≡ T = ap (take (used - (at + old))) past ∙ take_at T R (used - (at + old)) n in
      let f : take (at + new) m ≡ (H ++ P) ++ old-room = take-add at new m ∙ ap (λ l. l ++ old-room) (ap (take at) grouped ∙ take_at (H ++ P) (G ++ (T ++ R)) at front) in
      append_assoc (take (at + new) m) (take (used - (at + old)) (drop (at + old) m)) (drop (at + new + (used - (at + old))) m)
      ∙ ap (λ l. take (at + new) m ++ (l ++ drop (at + new + (used - (at + old))) m)) b ∙ ap (λ k. take (at + new) m ++ (T ++ drop (at + new + k) m)) (sym n)
      ∙ ap (λ l. l ++ X) f ∙ append_assoc (H ++ P) old-room X ∙ append_assoc H P (old-room ++ X)

  pub reopened-is : (H' : List ℕ) → H' ++ drop 10 (moved m at old new used) ≡ H' ++ (P ++ (old-room ++ (T ++ drop (at + new + length T) m)))
  reopened-is H' = ap (λ l. H' ++ l) (ap (drop 10) moved-is ∙ drop_at H (P ++ (old-room ++ (T ++ drop (at + new + length T) m))) 10 h)

-- a row is written where the room is
pub filled : (X J N Y m : List ℕ) (at : ℕ) → m ≡ X ++ (J ++ Y) → length X ≡ at → length J ≡ length N → written m at N ≡ X ++ (N ++ Y)
filled X J N Y m at is x j =
    let a : take at m ≡ X = ap (take at) is ∙ take_at X (J ++ Y) at x in
    let b : drop (at + length N) m ≡ Y =
    sym (drop-drop (length N) at m) ∙ ap (drop (length N)) (ap (drop at) is ∙ drop_at X (J ++ Y) at x) ∙ drop_at J Y (length N) j in
    rw (a, b)

-- an item's two first numbers, and then its row
pub whole_item : (m : List ℕ) (at n z : ℕ) (row : List ℕ) → at + 2 ≤ length m → written (set (set m at n) (at + 1) z) (at + 2) row ≡ written m at (n ∷ (z ∷ row))
whole_item m at n z row h =
    let a : set m at n ≡ written m at (n ∷ []) = written_one m at n (omega arith) in
    let l : length (written m at (n ∷ [])) ≡ length m = written-long m at (n ∷ []) (omega arith) in
    let b : set (set m at n) (at + 1) z ≡ written m at (n ∷ (z ∷ [])) =
    ap (λ l. set l (at + 1) z) a ∙ written_one (written m at (n ∷ [])) (at + 1) z (omega arith) ∙ written-more m at (n ∷ []) (z ∷ []) (at + 1) refl (omega arith) in
    ap (λ l. written l (at + 2) row) b ∙ written-more m at (n ∷ (z ∷ [])) row (at + 2) refl (omega arith)

-- ---- a part of a row of parts gives way to another
module _ (H H' S B G A E R m : List ℕ) (at old new used : ℕ) (is : m ≡ H ++ (S ++ ((B ++ (G ++ A)) ++ (E ++ R)))) (h : length H ≡ 10) (h' : length H' ≡ 10)
    (p : at ≡ 10 + (length S + length B)) (g : length G ≡ old) (u : used ≡ at + (old + (length A + length E))) (fits : at + new + (length A + length E) ≤ length m) where
  abbrev pub left : List ℕ
  left = drop (at + new + (length A + length E)) m

  cut : (H S B G A E R : List ℕ) → H ++ (S ++ ((B ++ (G ++ A)) ++ (E ++ R))) ≡ H ++ ((S ++ B) ++ (G ++ ((A ++ E) ++ R)))
  cut H S B G A E R = simp append_assoc

  joined : (H S B N A E R : List ℕ) → (H ++ (S ++ B)) ++ (N ++ ((A ++ E) ++ R)) ≡ H ++ (S ++ ((B ++ (N ++ A)) ++ (E ++ R)))
  joined H S B N A E R = simp append_assoc

  back : length (A ++ E) ≡ length A + length E
  back = length-append A E

  opened : H' ++ drop 10 (moved m at old new used) ≡ H' ++ ((S ++ B) ++ (take new (drop at m) ++ ((A ++ E) ++ left)))
  opened =
      let b = back in
      let f = length-append S B in
      reopened-is H (S ++ B) G (A ++ E) R m at old new used (is ∙ cut H S B G A E R) h (omega arith) g (omega arith) (omega arith) H'
      ∙ ap (λ n. H' ++ ((S ++ B) ++ (take new (drop at m) ++ ((A ++ E) ++ drop (at + new + n) m)))) b

  -- something comes
  pub put : (N : List ℕ) → length N ≡ new → written (H' ++ drop 10 (moved m at old new used)) at N ≡ H' ++ (S ++ ((B ++ (N ++ A)) ++ (E ++ left)))
  put N n =
      let b = back in
      let f = length-append S B in
      let q = length-append H' (S ++ B) in
      let r = length-drop at m in
      let l : length (take new (drop at m)) ≡ length N = length-take-le new (drop at m) (omega arith) ∙ sym n in
      filled (H' ++ (S ++ B)) (take new (drop at m)) N ((A ++ E) ++ left) (H' ++ drop 10 (moved m at old new used)) at
      (opened ∙ sym (append_assoc H' (S ++ B) (take new (drop at m) ++ ((A ++ E) ++ left)))) (omega arith) l
      ∙ joined H' S B N A E left

  -- nothing comes
  pub closed : new ≡ 0 → H' ++ drop 10 (moved m at old new used) ≡ H' ++ (S ++ ((B ++ A) ++ (E ++ left)))
  closed e = opened ∙ ap (λ n. H' ++ ((S ++ B) ++ (take n (drop at m) ++ ((A ++ E) ++ left)))) e ∙ sym (append_assoc H' (S ++ B) ((A ++ E) ++ left)) ∙ joined H' S B [] A E left
