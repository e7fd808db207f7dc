-- The table of places as an item comes or goes.
use Rattle.std.proofs.Common.{◌≡◌, ℕ, zero, suc, ◌+◌, ◌-◌, ◌<◌, ◌≤◌, List, [], ◌∷◌, ◌++◌, length, get_or, take, drop, sym, refl, ap, ◌∙◌, append_assoc, arith}
use Rattle.std.proofs.lemmas.List.{length-append, length-drop, length-take-le, get_or-drop, drop-drop, take_at, drop_at, get_or_append_left}
use Rattle.shelves.specs.Items.{Item, numbers, laid, offsets}
use Rattle.shelves.specs.Spots.{there, taken, before, here, behind, Place}
use Rattle.shelves.specs.Moves.{raised, rest, tabled_with, tabled_without}
use Rattle.shelves.specs.declared.finding.Spot.{Spot}
use Rattle.shelves.proofs.Laid.{laid-append, length-offsets}
use Rattle.shelves.proofs.Spotted.{three}

offsets-append : (o : ℕ) (xs ys : List Item) → offsets o (xs ++ ys) ≡ offsets o xs ++ offsets (o + length (laid xs)) ys
offsets-append o [] ys = ap (λ z. offsets z ys) (omega arith)
offsets-append o (x ∷ xs) ys =
    let l = length-append (numbers x) (laid xs) in
    ap (λ l. o ∷ l) (offsets-append (o + length (numbers x)) xs ys ∙ ap (λ z. offsets (o + length (numbers x)) xs ++ offsets z ys) (omega arith))

offsets-raise : (o old new : ℕ) (xs : List Item) → raised old new (offsets (o + old) xs) ≡ offsets (o + new) xs
offsets-raise o old new [] = refl
offsets-raise o old new (x ∷ xs) =
    let n : ℕ = length (numbers x) in
    let a : o + old - old + new ≡ o + new = omega arith in
    let b : offsets (o + old + n) xs ≡ offsets (o + n + old) xs = ap (λ z. offsets z xs) (omega arith) in
    let c : offsets (o + n + new) xs ≡ offsets (o + new + n) xs = ap (λ z. offsets z xs) (omega arith) in
    let d : raised old new (offsets (o + old + n) xs) ≡ offsets (o + new + n) xs = ap (raised old new) b ∙ offsets-raise (o + n) old new xs ∙ c in
    ap (λ z. z ∷ raised old new (offsets (o + old + n) xs)) a ∙ ap (λ l. (o + new) ∷ l) d

offsets-bounds : (o : ℕ) (xs : List Item) (j : ℕ) → j < length xs → (o ≤ get_or (offsets o xs) j 0) × (get_or (offsets o xs) j 0 ≤ o + length (laid xs))
offsets-bounds o [] j h = absurd (omega arith)
offsets-bounds o (x ∷ xs) zero h = (omega arith, omega arith)
offsets-bounds o (x ∷ xs) (suc j) h =
    let w = offsets-bounds (o + length (numbers x)) xs j (omega arith) in let l = length-append (numbers x) (laid xs) in (omega arith, omega arith)

pub length-here : (xs : List Item) (s : Spot) → s.index + there s ≤ length xs → (length (before s xs) ≡ s.index) × (length (here s xs) ≡ there s) × (length (behind s xs) ≡ length xs - (s.index + there s))
length-here xs s h =
    let d = length-drop s.index xs in
    (length-take-le s.index xs (omega arith), length-take-le (there s) (drop s.index xs) (omega arith), length-drop (s.index + there s) xs)

module _ (from : ℕ) (xs : List Item) (s : Spot) (t beyond : List ℕ) (is : t ≡ offsets 0 xs ++ beyond) (p : Place from xs s) where
  abbrev o : ℕ
  o = length (laid (before s xs))

  abbrev A : List ℕ
  A = offsets 0 (before s xs)

  abbrev S : List ℕ
  S = offsets o (here s xs)

  abbrev B : List ℕ
  B = offsets (o + (taken s).numbers) (behind s xs)

  A-long : length A ≡ s.index
  A-long = length-offsets 0 (before s xs) ∙ (length-here xs s p.within).0

  S-long : length S ≡ there s
  S-long = length-offsets o (here s xs) ∙ (length-here xs s p.within).1

  B-long : length B ≡ length xs - (s.index + there s)
  B-long = length-offsets (o + (taken s).numbers) (behind s xs) ∙ (length-here xs s p.within).2

  t-is : t ≡ A ++ (S ++ (B ++ beyond))
  t-is =
      let e : offsets 0 xs ≡ A ++ (S ++ B) =
      ap (offsets 0) (three xs s.index (there s)) ∙ offsets-append 0 (before s xs) (here s xs ++ behind s xs) ∙ ap (λ z. A ++ offsets z (here s xs ++ behind s xs)) (omega arith)
      ∙ ap (λ l. A ++ l) (offsets-append o (here s xs) (behind s xs) ∙ ap (λ z. S ++ offsets (o + z) (behind s xs)) (sym p.old-is)) in
      is ∙ ap (λ l. l ++ beyond) e ∙ append_assoc A (S ++ B) beyond ∙ ap (λ l. A ++ l) (append_assoc S B beyond)

  past : drop (s.index + there s) t ≡ B ++ beyond
  past = sym (drop-drop (there s) s.index t) ∙ ap (drop (there s)) (ap (drop s.index) t-is ∙ drop_at A (S ++ (B ++ beyond)) s.index A-long) ∙ drop_at S (B ++ beyond) (there s) S-long

  first_part : take s.index t ≡ A
  first_part = ap (take s.index) t-is ∙ take_at A (S ++ (B ++ beyond)) s.index A-long

  last-part : (count : ℕ) → count ≡ length xs → rest t (s.index + there s) count ≡ B
  last-part count c = ap (take (count - (s.index + there s))) past ∙ take_at B beyond (count - (s.index + there s)) (omega (arith, B-long))

  -- an item comes
  pub table-with : (i : Item) (count place new : ℕ) → count ≡ length xs → place ≡ o → new ≡ length (numbers i) →
      tabled_with t s.index (there s) count place (taken s).numbers new ≡ offsets 0 (before s xs ++ (i ∷ behind s xs)) ++ drop (s.index + 1 + (count - (s.index + there s))) t
  table-with i count place new c q e =
      let D : List ℕ = drop (s.index + 1 + (count - (s.index + there s))) t in
      let r : raised (taken s).numbers new (rest t (s.index + there s) count) ≡ offsets (o + new) (behind s xs) = ap (raised (taken s).numbers new) (last-part count c) ∙ offsets-raise o (taken s).numbers new (behind s xs) in
      let z : 0 + o ≡ o = omega arith in
      let w : offsets 0 (before s xs ++ (i ∷ behind s xs)) ≡ A ++ (o ∷ offsets (o + new) (behind s xs)) =
      offsets-append 0 (before s xs) (i ∷ behind s xs) ∙ ap (λ n. A ++ offsets n (i ∷ behind s xs)) z ∙ ap (λ n. A ++ (o ∷ offsets (o + n) (behind s xs))) (sym e) in
      ap (λ l. l ++ (place ∷ (raised (taken s).numbers new (rest t (s.index + there s) count) ++ D))) first_part
      ∙ ap (λ n. A ++ (n ∷ (raised (taken s).numbers new (rest t (s.index + there s) count) ++ D))) q
      ∙ ap (λ l. A ++ (o ∷ (l ++ D))) r ∙ sym (append_assoc A (o ∷ offsets (o + new) (behind s xs)) D) ∙ ap (λ l. l ++ D) (sym w)

  -- an item goes
  pub table-without : (count : ℕ) → count ≡ length xs → there s ≡ 1 →
      tabled_without t s.index count (taken s).numbers ≡ offsets 0 (before s xs ++ behind s xs) ++ drop (s.index + (count - (s.index + 1))) t
  table-without count c g =
      let D : List ℕ = drop (s.index + (count - (s.index + 1))) t in
      let r : raised (taken s).numbers 0 (rest t (s.index + 1) count) ≡ offsets (o + 0) (behind s xs) =
      ap (λ n. raised (taken s).numbers 0 (rest t (s.index + n) count)) (sym g) ∙ ap (raised (taken s).numbers 0) (last-part count c) ∙ offsets-raise o (taken s).numbers 0 (behind s xs) in
      let z : 0 + o ≡ o + 0 = omega arith in
      let w : offsets 0 (before s xs ++ behind s xs) ≡ A ++ offsets (o + 0) (behind s xs) = offsets-append 0 (before s xs) (behind s xs) ∙ ap (λ n. A ++ offsets n (behind s xs)) z in
      ap (λ l. l ++ (raised (taken s).numbers 0 (rest t (s.index + 1) count) ++ D)) first_part
      ∙ ap (λ l. A ++ (l ++ D)) r ∙ sym (append_assoc A (offsets (o + 0) (behind s xs)) D) ∙ ap (λ l. l ++ D) (sym w)

  pub table-bounds : (j : ℕ) → s.index + there s ≤ j → j < length xs → ((taken s).numbers ≤ get_or t j 0) × (get_or t j 0 ≤ length (laid xs))
  table-bounds j lo hi =
      let k : ℕ = s.index + there s in
      let q = (length-here xs s p.within).2 in
      let x = offsets-bounds (o + (taken s).numbers) (behind s xs) (j - k) (omega arith) in
      let e : get_or t j 0 ≡ get_or B (j - k) 0 =
      ap (λ z. get_or t z 0) (omega arith) ∙ sym (get_or-drop k t (j - k) 0) ∙ ap (λ l. get_or l (j - k) 0) past ∙ get_or_append_left B beyond 0 (j - k) (omega (arith, B-long)) in
      let a = ap (λ l. length (laid l)) (three xs s.index (there s)) ∙ ap length (laid-append (before s xs) (here s xs ++ behind s xs)) ∙ length-append (laid (before s xs)) (laid (here s xs ++ behind s xs)) in
      let b = ap length (laid-append (here s xs) (behind s xs)) ∙ length-append (laid (here s xs)) (laid (behind s xs)) in
      let d = p.old-is in
      (omega arith, omega arith)
