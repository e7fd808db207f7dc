-- Rows written among others.
use Rattle.std.proofs.Common.{◌≡◌, ℕ, ◌+◌, ◌-◌, ◌<◌, ◌≤◌, List, [], ◌∷◌, ◌++◌, length, get_or, take, drop, set, sym, ap, ◌∙◌, add-zero, arith}
use Rattle.std.proofs.lemmas.List.{length-append, length-drop, length-take-le, append_assoc, take-append-drop, drop_more, take_more, set_at, take_at, take-take, take-append-le, drop_at, drop-drop, drop-append-le, drop-take}
use borrow.Rule.Slice.PartMut.{put_mid}
use Rattle.wire.proofs.Exact.{take_past}
use Rattle.wire.specs.Read.{Read, got}
use Rattle.copy.specs.declared.leaves.Copied.{Copied}
use Rattle.copy.specs.Writing.{written, done, after}

pub written_none : (xs : List ℕ) (to : ℕ) → written xs to [] ≡ xs
written_none xs to = rw (add-zero to) (take-append-drop to xs)

-- a part of the rows was lent and written whole
pub written-part : (xs : List ℕ) (to k : ℕ) (ys : List ℕ) → k ≡ length ys → put_mid to k xs ys ≡ written xs to ys
written-part xs to k ys e = ap (λ zs. take to xs ++ (ys ++ zs)) (drop-drop k to xs ∙ ap (λ n. drop (to + n) xs) e)

-- one behind
pub written-push : (xs : List ℕ) (to : ℕ) (ys : List ℕ) (n y : ℕ) → n ≡ to + length ys → n < length xs → set (written xs to ys) n y ≡ written xs to (ys ++ (y ∷ []))
written-push xs to ys n y e h =
    let l : length (take to xs ++ ys) ≡ n = omega (arith, length-append (take to xs) ys, length-take-le to xs (omega arith)) in
    let m : to + length (ys ++ (y ∷ [])) ≡ n + 1 = omega (arith, length-append ys (y ∷ [])) in
    ap (λ k. set (take to xs ++ (ys ++ drop k xs)) n y) (sym e)
    ∙ ap (λ zs. set zs n y) (sym (append_assoc (take to xs) ys (drop n xs)))
    ∙ ap (λ zs. set ((take to xs ++ ys) ++ zs) n y) (drop_more xs n 0 h)
    ∙ set_at (take to xs ++ ys) _ _ y n l
    ∙ append_assoc (take to xs) ys (y ∷ drop (n + 1) xs)
    ∙ ap (λ zs. take to xs ++ zs) (sym (append_assoc ys (y ∷ []) (drop (n + 1) xs)))
    ∙ ap (λ k. take to xs ++ ((ys ++ (y ∷ [])) ++ drop k xs)) (sym m)

-- one in front
pub written-before : (xs : List ℕ) (to : ℕ) (ys : List ℕ) (y : ℕ) → to < length xs → set (written xs (to + 1) ys) to y ≡ written xs to (y ∷ ys)
written-before xs to ys y h =
    ap (λ zs. set (zs ++ (ys ++ drop (to + 1 + length ys) xs)) to y) (take_more xs to 0 h)
    ∙ ap (λ zs. set zs to y) (append_assoc (take to xs) (get_or xs to 0 ∷ []) _)
    ∙ set_at (take to xs) _ _ y to (length-take-le to xs (omega arith))
    ∙ ap (λ k. take to xs ++ (y ∷ (ys ++ drop k xs))) (omega arith)

-- a row behind another
pub written-more : (xs : List ℕ) (to : ℕ) (ys zs : List ℕ) (n : ℕ) → n ≡ to + length ys → n ≤ length xs → written (written xs to ys) n zs ≡ written xs to (ys ++ zs)
written-more xs to ys zs n e h =
    let l : length (take to xs ++ ys) ≡ n = omega (arith, length-append (take to xs) ys, length-take-le to xs (omega arith)) in
    let m : to + length (ys ++ zs) ≡ n + length zs = omega (arith, length-append ys zs) in
    let w : written xs to ys ≡ (take to xs ++ ys) ++ drop n xs = ap (λ k. take to xs ++ (ys ++ drop k xs)) (sym e) ∙ sym (append_assoc (take to xs) ys (drop n xs)) in
    ap (λ qs. written qs n zs) w
    ∙ ap (λ qs. qs ++ (zs ++ drop (n + length zs) ((take to xs ++ ys) ++ drop n xs))) (take_at (take to xs ++ ys) (drop n xs) n l)
    ∙ ap (λ qs. (take to xs ++ ys) ++ (zs ++ qs)) (sym (drop-drop (length zs) n _) ∙ ap (λ qs. drop (length zs) qs) (drop_at (take to xs ++ ys) (drop n xs) n l) ∙ drop-drop (length zs) n xs)
    ∙ append_assoc (take to xs) ys _
    ∙ ap (λ qs. take to xs ++ qs) (sym (append_assoc ys zs (drop (n + length zs) xs)))
    ∙ ap (λ k. take to xs ++ ((ys ++ zs) ++ drop k xs)) (sym m)

pub written-long : (xs : List ℕ) (to : ℕ) (ys : List ℕ) → to + length ys ≤ length xs → length (written xs to ys) ≡ length xs
written-long xs to ys h = omega (arith, length-append (take to xs) (ys ++ drop (to + length ys) xs), length-append ys (drop (to + length ys) xs), length-drop (to + length ys) xs, length-take-le to xs (omega arith))

-- one number
pub written_one : (xs : List ℕ) (to y : ℕ) → to < length xs → set xs to y ≡ written xs to (y ∷ [])
written_one xs to y h = ap (λ q. set q to y) (sym (written_none xs to)) ∙ written-push xs to [] to y (omega arith) h

-- ---- what was copied, if it is known what was read
pub record Wrote (ys xs row : List ℕ) (to at n : ℕ) (r : Copied) : Type 0 where
  pub rows : ys ≡ written xs to row
  pub ends : r.end ≡ at + n
  pub goes : r.to ≡ to + length row

pub wrote : {X : Type 0} (f : X → List ℕ) (xs ys : List ℕ) (to at : ℕ) (r : Copied) (R : Read X) (x : X) (n : ℕ) → done ys r ≡ after f xs to at R → R ≡ got x n → Wrote ys xs (f x) to at n r
wrote f xs ys to at r R x n e g =
    let q : done ys r ≡ record { rows = written xs to (f x); end = at + n; to = to + length (f x) } = e ∙ ap (λ S. after f xs to at S) g in
    record { rows = ap (λ d. d.rows) q; ends = ap (λ d. d.end) q; goes = ap (λ d. d.to) q }

pub is-after : {X : Type 0} (f : X → List ℕ) (xs ys : List ℕ) (to at : ℕ) (r : Copied) (R : Read X) (x : X) (n : ℕ) → R ≡ got x n → Wrote ys xs (f x) to at n r → done ys r ≡ after f xs to at R
is-after f xs ys to at r R x n g w =
    let q : done ys r ≡ record { rows = written xs to (f x); end = at + n; to = to + length (f x) } = (λ i. record { rows = w.rows i; end = w.ends i; to = w.goes i }) in
    q ∙ ap (λ S. after f xs to at S) (sym g)

-- two rows apart from each other, in either order
pub written_apart : (xs : List ℕ) (a : ℕ) (ys : List ℕ) (b : ℕ) (zs : List ℕ) → a + length ys ≤ b → b ≤ length xs → written (written xs b zs) a ys ≡ written (written xs a ys) b zs
written_apart xs a ys b zs h l =
    let j : ℕ = b - (a + length ys) in
    let k : ℕ = b + length zs - (a + length ys) in
    let bj : a + length ys + j ≡ b = omega arith in
    let bk : a + length ys + k ≡ b + length zs = omega arith in
    let lb : length (take b xs) ≡ b = length-take-le b xs l in
    let la : length (take a xs ++ ys) ≡ a + length ys = omega (arith, length-append (take a xs) ys, length-take-le a xs (omega arith)) in
    let D : List ℕ = drop (a + length ys) xs in
    let S : List ℕ = drop (b + length zs) xs in
    let before : take a (take b xs ++ (zs ++ S)) ≡ take a xs = take-append-le a (take b xs) (zs ++ S) (omega (arith, lb)) ∙ take-take a b xs (omega arith) in
    let between : drop (a + length ys) (take b xs ++ (zs ++ S)) ≡ take j D ++ (zs ++ S) =
    drop-append-le (a + length ys) (take b xs) (zs ++ S) (omega (arith, lb)) ∙ ap (λ n. drop (a + length ys) (take n xs) ++ (zs ++ S)) (sym bj) ∙ ap (λ q. q ++ (zs ++ S)) (drop-take (a + length ys) j xs) in
    let first : take b ((take a xs ++ ys) ++ D) ≡ (take a xs ++ ys) ++ take j D =
    ap (λ n. take n ((take a xs ++ ys) ++ D)) (sym bj) ∙ ap (λ n. take (n + j) ((take a xs ++ ys) ++ D)) (sym la) ∙ take_past (take a xs ++ ys) D j in
    let last : drop (b + length zs) ((take a xs ++ ys) ++ D) ≡ S =
    ap (λ n. drop n ((take a xs ++ ys) ++ D)) (sym bk) ∙ sym (drop-drop k (a + length ys) ((take a xs ++ ys) ++ D)) ∙ ap (λ q. drop k q) (drop_at (take a xs ++ ys) D (a + length ys) la) ∙ drop-drop k (a + length ys) xs ∙ ap (λ n. drop n xs) bk in
    ap (λ q. q ++ (ys ++ drop (a + length ys) (take b xs ++ (zs ++ S)))) before
    ∙ ap (λ q. take a xs ++ (ys ++ q)) between
    ∙ sym (append_assoc (take a xs) ys (take j D ++ (zs ++ S)))
    ∙ sym (append_assoc (take a xs ++ ys) (take j D) (zs ++ S))
    ∙ ap (λ q. q ++ (zs ++ S)) (sym first)
    ∙ ap (λ q. take b ((take a xs ++ ys) ++ D) ++ (zs ++ q)) (sym last)
    ∙ ap (λ q. take b q ++ (zs ++ drop (b + length zs) q)) (append_assoc (take a xs) ys D)
