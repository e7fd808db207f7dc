-- Items as they lie in memory: read back, added up, and the k-th of them.
use Rattle.std.proofs.Common.{◌≡◌, ℕ, zero, suc, ◌+◌, ◌<◌, ◌≤◌, List, [], ◌∷◌, ◌++◌, length, get_or, take, drop, sym, refl, ap, ◌∙◌, ap₂, append_assoc, arith}
use Rattle.std.proofs.lemmas.List.{length-append, length-drop, drop-drop, drop_at, take_at, get_or-drop, length-take-le}
use Rattle.values.specs.Held.{text_at, TextIn, behind_text, uid_at, UIDIn}
use Rattle.values.proofs.Frame.{text-on, text_in-on, uid-on, uid-in-on}
use Rattle.shelves.specs.Items.{Item, numbers, laid, items_in, sizes, offsets, Each}
use Rattle.shelves.proofs.Splits.{nth}

pub laid-append : (xs ys : List Item) → laid (xs ++ ys) ≡ laid xs ++ laid ys
laid-append [] ys = refl
laid-append (x ∷ xs) ys = ap (λ l. numbers x ++ l) (laid-append xs ys) ∙ sym (append_assoc (numbers x) (laid xs) (laid ys))

pub sizes-append : (xs ys : List Item) → sizes (xs ++ ys) ≡ sizes xs + sizes ys
sizes-append [] ys = omega arith
sizes-append (x ∷ xs) ys = omega (arith, sizes-append xs ys)

pub length-items : (n : ℕ) (m : List ℕ) → length (items_in n m) ≡ n
unfolding items_in
length-items zero m = refl
length-items (suc n) m = ap suc (length-items n (drop (2 + get_or m 0 0) m))

-- what was laid down is read back
pub read_back : (xs : List Item) (rest : List ℕ) → items_in (length xs) (laid xs ++ rest) ≡ xs
unfolding items_in
read_back [] rest = refl
read_back (x ∷ xs) rest =
    let a : take (length x.row) ((x.row ++ laid xs) ++ rest) ≡ x.row = ap (take (length x.row)) (append_assoc x.row (laid xs) rest) ∙ take_at x.row (laid xs ++ rest) (length x.row) refl in
    let e : 2 + length x.row ≡ suc (suc (length x.row)) = omega arith in
    let b : drop (2 + length x.row) (laid (x ∷ xs) ++ rest) ≡ laid xs ++ rest =
    ap (λ n. drop n (laid (x ∷ xs) ++ rest)) e ∙ ap (drop (length x.row)) (append_assoc x.row (laid xs) rest) ∙ drop_at x.row (laid xs ++ rest) (length x.row) refl in
    ap₂ (λ r l. record { size = x.size; row = r } ∷ l) a (ap (items_in (length xs)) b ∙ read_back xs rest)

-- ---- one of them
abbrev pub place_of : ℕ → List Item → ℕ → ℕ
place_of from xs k = from + length (laid (take k xs))

-- an item lies at a place
pub record Lies (m : List ℕ) (at : ℕ) (x : Item) : Type 0 where
  pub more : List ℕ
  pub is : drop at m ≡ numbers x ++ more

pub take-one : (xs : List Item) (k : ℕ) (h : k < length xs) → take (k + 1) xs ≡ take k xs ++ ((nth xs k h).one ∷ [])
take-one xs k h =
    let n = nth xs k h in
    let l : length (take k xs) ≡ k = length-take-le k xs (omega arith) in
    let e : length (take k xs ++ (n.one ∷ [])) ≡ k + 1 = length-append (take k xs) (n.one ∷ []) ∙ omega arith in
    ap (take (k + 1)) (n.split ∙ sym (append_assoc (take k xs) (n.one ∷ []) (drop (k + 1) xs))) ∙ take_at (take k xs ++ (n.one ∷ [])) (drop (k + 1) xs) (k + 1) e

module _ (m : List ℕ) (from : ℕ) (xs : List Item) (rest : List ℕ) (is : drop from m ≡ laid xs ++ rest) (k : ℕ) (h : k < length xs) where
  abbrev pub kth : Item
  kth = (nth xs k h).one

  pub kth-lies : Lies m (place_of from xs k) kth
  kth-lies =
      let n = nth xs k h in
      let e : drop from m ≡ laid (take k xs) ++ (laid (n.one ∷ drop (k + 1) xs) ++ rest) =
      is ∙ ap (λ l. laid l ++ rest) n.split ∙ ap (λ l. l ++ rest) (laid-append (take k xs) (n.one ∷ drop (k + 1) xs)) ∙ append_assoc (laid (take k xs)) (laid (n.one ∷ drop (k + 1) xs)) rest in
      let f : drop (place_of from xs k) m ≡ laid (n.one ∷ drop (k + 1) xs) ++ rest =
      sym (drop-drop (length (laid (take k xs))) from m) ∙ ap (drop (length (laid (take k xs)))) e ∙ drop_at (laid (take k xs)) (laid (n.one ∷ drop (k + 1) xs) ++ rest) (length (laid (take k xs))) refl in
      record { more = laid (drop (k + 1) xs) ++ rest; is = f ∙ append_assoc (numbers n.one) (laid (drop (k + 1) xs)) rest }

  pub place-next : place_of from xs (k + 1) ≡ place_of from xs k + (2 + length kth.row)
  place-next =
      let n = nth xs k h in
      let e : take (k + 1) xs ≡ take k xs ++ (n.one ∷ []) = take-one xs k h in
      let a = ap length (laid-append (take k xs) (n.one ∷ [])) ∙ length-append (laid (take k xs)) (laid (n.one ∷ [])) in
      let b = length-append n.one.row [] in
      let c = ap (λ l. length (laid l)) e in
      omega arith

-- what the numbers at its place say
module _ (m : List ℕ) (at : ℕ) (x : Item) (l : Lies m at x) where
  pub lies-length : get_or m at 0 ≡ length x.row
  lies-length = ap (λ k. get_or m k 0) (omega arith) ∙ sym (get_or-drop at m 0 0) ∙ ap (λ z. get_or z 0 0) l.is

  pub lies-size : get_or m (at + 1) 0 ≡ x.size
  lies-size = sym (get_or-drop at m 1 0) ∙ ap (λ z. get_or z 1 0) l.is

  pub lies-row : drop (at + 2) m ≡ x.row ++ l.more
  lies-row = sym (drop-drop 2 at m) ∙ ap (drop 2) l.is

  pub lies_within : at + 2 + length x.row ≤ length m
  lies_within =
      let a = ap length l.is in let b = length-drop at m in let c = length-append x.row l.more in omega arith

-- ---- a text at the begin of a row
text-shift : (m : List ℕ) (q p : ℕ) → text_at (drop q m) p ≡ text_at m (q + p)
text-shift m q p = ap₂ take (get_or-drop q m p 0) (drop-drop (p + 1) q m ∙ ap (λ n. drop n m) (omega arith))

behind-shift : (m : List ℕ) (q p : ℕ) → q + behind_text (drop q m) p ≡ behind_text m (q + p)
behind-shift m q p = let e = get_or-drop q m p 0 in omega arith

in_shift : (m : List ℕ) (q p : ℕ) → TextIn (drop q m) p → TextIn m (q + p)
in_shift m q p h = let e = get_or-drop q m p 0 in let l = length-drop q m in omega arith

module _ (m : List ℕ) (q : ℕ) (row more : List ℕ) (is : drop q m ≡ row ++ more) where
  zero-at : q + 0 ≡ q
  zero-at = omega arith

  pub text_in : TextIn row 0 → TextIn m q
  text_in h = rw zero-at at (in_shift m q 0 (rw is (text_in-on row more 0 h)))

  pub text-is : TextIn row 0 → text_at m q ≡ text_at row 0
  text-is h = ap (text_at m) (sym zero-at) ∙ sym (text-shift m q 0) ∙ ap (λ l. text_at l 0) is ∙ text-on row more 0 h

  pub uid-in : UIDIn row 0 → UIDIn m q
  uid-in h =
      let u = uid-in-on row more 0 h in
      let v : UIDIn (drop q m) 0 = rw is u in
      let w : TextIn m (behind_text m (q + 0)) = rw (behind-shift m q 0) at (in_shift m q (behind_text (drop q m) 0) v.1) in
      (text_in h.0, rw zero-at at w)

  pub uid-is : UIDIn row 0 → uid_at m q ≡ uid_at row 0
  uid-is h =
      let a : text_at m q ≡ text_at (drop q m) 0 = ap (text_at m) (sym zero-at) ∙ sym (text-shift m q 0) in
      let b : text_at m (behind_text m q) ≡ text_at (drop q m) (behind_text (drop q m) 0) =
      ap (λ z. text_at m (behind_text m z)) (sym zero-at) ∙ ap (text_at m) (sym (behind-shift m q 0)) ∙ sym (text-shift m q (behind_text (drop q m) 0)) in
      let c : uid_at m q ≡ uid_at (drop q m) 0 = λ i. record { ty = a i; eid = b i } in
      c ∙ ap (λ l. uid_at l 0) is ∙ uid-on row more 0 h

-- ---- the table
pub length-offsets : (o : ℕ) (xs : List Item) → length (offsets o xs) ≡ length xs
length-offsets o [] = refl
length-offsets o (x ∷ xs) = ap suc (length-offsets (o + length (numbers x)) xs)

pub offset-of : (o : ℕ) (xs : List Item) (k : ℕ) → k < length xs → get_or (offsets o xs) k 0 ≡ place_of o xs k
offset-of o [] k h = absurd (omega arith)
offset-of o (x ∷ xs) zero h = omega arith
offset-of o (x ∷ xs) (suc k) h =
    let e = offset-of (o + length (numbers x)) xs k (omega arith) in
    let l = length-append x.row (laid (take k xs)) in
    omega arith

-- ---- what holds of each
pub each_append : (P : Item → Type 0) (xs ys : List Item) → Each P xs → Each P ys → Each P (xs ++ ys)
each_append P [] ys p q = q
each_append P (x ∷ xs) ys p q = (p.0, each_append P xs ys p.1 q)

pub each-parts : (P : Item → Type 0) (xs ys : List Item) → Each P (xs ++ ys) → Each P xs × Each P ys
each-parts P [] ys p = (tt, p)
each-parts P (x ∷ xs) ys p = let r = each-parts P xs ys p.1 in ((p.0, r.0), r.1)

pub each_take : (P : Item → Type 0) (k : ℕ) (xs : List Item) → Each P xs → Each P (take k xs)
each_take P zero xs p = tt
each_take P (suc k) [] p = tt
each_take P (suc k) (x ∷ xs) p = (p.0, each_take P k xs p.1)

pub each-drop : (P : Item → Type 0) (k : ℕ) (xs : List Item) → Each P xs → Each P (drop k xs)
each-drop P zero xs p = p
each-drop P (suc k) [] p = tt
each-drop P (suc k) (x ∷ xs) p = each-drop P k xs p.1

pub each-nth : (P : Item → Type 0) (xs : List Item) (k : ℕ) (h : k < length xs) → Each P xs → P (nth xs k h).one
each-nth P xs k h p = (each-parts P (take k xs) ((nth xs k h).one ∷ drop (k + 1) xs) (rw (← (nth xs k h).split) p)).1.0
