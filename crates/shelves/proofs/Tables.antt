-- What a change of the table leaves.
use Rattle.std.proofs.Common.{◌≡◌, ℕ, ◌+◌, ◌-◌, ◌<◌, ◌≤◌, List, [], ◌∷◌, ◌++◌, length, get_or, take, drop, set, sym, ap, ◌∙◌, append_assoc, arith}
use borrow.Rule.Slice.PartMut.{put_mid}
use Rattle.std.proofs.lemmas.List.{length-append, length-drop, get_or-drop, take_at, drop_at, get_or-take, length-take-le, drop-set-lt, take_more_set, take-append-le, take-take}
use Rattle.shelves.specs.Moves.{moved, raised, rest, tabled_with, tabled_without}

-- the numbers behind those that come or go have moved
module _ (t M : List ℕ) (k gone new count w : ℕ) (e : M ≡ moved t k gone new count) (h : k + gone ≤ count) (l : count + new ≤ length t + gone) (f : count ≤ length t) (z : w ≡ count - (k + gone)) where
  abbrev tail : List ℕ
  tail = rest t (k + gone) count

  abbrev end : List ℕ
  end = drop (k + new + (count - (k + gone))) t

  pub M-is : M ≡ take (k + new) t ++ (tail ++ end)
  M-is = e ∙ append_assoc (take (k + new) t) tail end

  pub front_long : length (take (k + new) t) ≡ k + new
  front_long = length-take-le (k + new) t (omega arith)

  pub tail-long : length tail ≡ w
  tail-long = let d = length-drop (k + gone) t in length-take-le (count - (k + gone)) (drop (k + gone) t) (omega arith) ∙ sym z

  tail_at : (i : ℕ) → i < w → get_or tail i 0 ≡ get_or t (k + gone + i) 0
  tail_at i g = get_or-take (count - (k + gone)) (drop (k + gone) t) i 0 (omega arith) ∙ get_or-drop (k + gone) t i 0

  -- what holds of each number behind holds where they are now
  pub tail-holds : (N : List ℕ) (P : ℕ → Type 0) → take w (drop (k + new) N) ≡ tail → ((j : ℕ) → k + gone ≤ j → j < count → P (get_or t j 0)) → (i : ℕ) → i < length (take w (drop (k + new) N)) → P (get_or (take w (drop (k + new) N)) i 0)
  tail-holds N P q b i lt =
      let v : i < w = omega (arith, ap length q, tail-long) in
      rw (q, tail_at i v) (b (k + gone + i) (omega arith) (omega arith))

-- one comes
module _ (t M : List ℕ) (k gone count at w : ℕ) (e : M ≡ moved t k gone 1 count) (g : gone ≤ 1) (h : k + gone ≤ count) (f : count ≤ length t) (l : count + 1 ≤ length t + gone) (z : w ≡ count - (k + gone)) where
  back : drop (k + 1) (set M k at) ≡ rest t (k + gone) count ++ drop (k + 1 + (count - (k + gone))) t
  back =
      drop-set-lt (k + 1) M k at (omega arith) ∙ ap (drop (k + 1)) (M-is t M k gone 1 count w e h l f z)
      ∙ drop_at (take (k + 1) t) (rest t (k + gone) count ++ drop (k + 1 + (count - (k + gone))) t) (k + 1) (front_long t M k gone 1 count w e h l f z)

  front : take (k + 1) (set M k at) ≡ take k t ++ (at ∷ [])
  front =
      let q = M-is t M k gone 1 count w e h l f z in
      let y = front_long t M k gone 1 count w e h l f z in
      let m = ap length q ∙ length-append (take (k + 1) t) (rest t (k + gone) count ++ drop (k + 1 + (count - (k + gone))) t) in
      take_more_set M k at (omega arith) ∙ ap (λ x. x ++ (at ∷ [])) (ap (take k) q ∙ take-append-le k (take (k + 1) t) (rest t (k + gone) count ++ drop (k + 1 + (count - (k + gone))) t) (omega arith) ∙ take-take k (k + 1) t (omega arith))

  pub with_part : take w (drop (k + 1) (set M k at)) ≡ rest t (k + gone) count
  with_part = ap (take w) back ∙ take_at (rest t (k + gone) count) (drop (k + 1 + (count - (k + gone))) t) w (tail-long t M k gone 1 count w e h l f z)

  pub with-is : (ys : List ℕ) (old new : ℕ) → ys ≡ raised old new (take w (drop (k + 1) (set M k at))) → put_mid (k + 1) w (set M k at) ys ≡ tabled_with t k gone count at old new
  with-is ys old new q =
      let y : ys ≡ raised old new (rest t (k + gone) count) = q ∙ ap (raised old new) with_part in
      let d : drop w (drop (k + 1) (set M k at)) ≡ drop (k + 1 + (count - (k + gone))) t =
      ap (drop w) back ∙ drop_at (rest t (k + gone) count) (drop (k + 1 + (count - (k + gone))) t) w (tail-long t M k gone 1 count w e h l f z) in
      rw (front, y, d) (append_assoc (take k t) (at ∷ []) (raised old new (rest t (k + gone) count) ++ drop (k + 1 + (count - (k + gone))) t))

  pub with-holds : (P : ℕ → Type 0) → ((j : ℕ) → k + gone ≤ j → j < count → P (get_or t j 0)) → (i : ℕ) → i < length (take w (drop (k + 1) (set M k at))) → P (get_or (take w (drop (k + 1) (set M k at))) i 0)
  with-holds P = tail-holds t M k gone 1 count w e h l f z (set M k at) P with_part

-- one goes
module _ (t M : List ℕ) (k count w : ℕ) (e : M ≡ moved t k 1 0 count) (h : k < count) (l : count ≤ length t) (z : w ≡ count - (k + 1)) where
  gone-is : M ≡ take k t ++ (rest t (k + 1) count ++ drop (k + (count - (k + 1))) t)
  gone-is =
      let a : k + 0 ≡ k = omega arith in
      M-is t M k 1 0 count w e (omega arith) (omega arith) (omega arith) z ∙ ap (λ n. take n t ++ (rest t (k + 1) count ++ drop (n + (count - (k + 1))) t)) a

  long : length (take k t) ≡ k
  long = length-take-le k t (omega arith)

  back_is : drop k M ≡ rest t (k + 1) count ++ drop (k + (count - (k + 1))) t
  back_is = ap (drop k) gone-is ∙ drop_at (take k t) (rest t (k + 1) count ++ drop (k + (count - (k + 1))) t) k long

  pub without-part : take w (drop k M) ≡ rest t (k + 1) count
  without-part = ap (take w) back_is ∙ take_at (rest t (k + 1) count) (drop (k + (count - (k + 1))) t) w (tail-long t M k 1 0 count w e (omega arith) (omega arith) (omega arith) z)

  pub without_is : (ys : List ℕ) (old : ℕ) → ys ≡ raised old 0 (take w (drop k M)) → put_mid k w M ys ≡ tabled_without t k count old
  without_is ys old f =
      let y : ys ≡ raised old 0 (rest t (k + 1) count) = f ∙ ap (raised old 0) without-part in
      let d : drop w (drop k M) ≡ drop (k + (count - (k + 1))) t =
      ap (drop w) back_is ∙ drop_at (rest t (k + 1) count) (drop (k + (count - (k + 1))) t) w (tail-long t M k 1 0 count w e (omega arith) (omega arith) (omega arith) z) in
      let fr : take k M ≡ take k t = ap (take k) gone-is ∙ take_at (take k t) (rest t (k + 1) count ++ drop (k + (count - (k + 1))) t) k long in
      rw (fr, y, d)

  pub without-holds : (P : ℕ → Type 0) → ((j : ℕ) → k < j → j < count → P (get_or t j 0)) → (i : ℕ) → i < length (take w (drop k M)) → P (get_or (take w (drop k M)) i 0)
  without-holds P b i lt =
      let n : k + 0 ≡ k = omega arith in
      rw n at (tail-holds t M k 1 0 count w e (omega arith) (omega arith) (omega arith) z M P (rw n without-part) (λ j a c. b j (omega arith) c) i (rw n lt))
