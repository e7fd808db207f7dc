-- A walk along items, and a search by halves among them.
use Rattle.std.specs.declared.cmp.Ordering.TheVariants.{Less, Equal, Greater}
use Rattle.std.specs.declared.cmp.Ordering.{Ordering}
use Rattle.std.proofs.Common.{◌≡◌, ℕ, ◌+◌, ◌<◌, ◌≤◌, true, List, [], ◌++◌, length, get_or, take, drop, Some, None, sym, ap, ◌∙◌, subst, append_assoc, arith}
use Rattle.std.proofs.lemmas.List.{length-append, length-drop, drop-append-le, drop_all, get_or-drop, get_or_append_left}
use Rattle.spec.specs.Basics.{Text, less}
use Rattle.laws.proofs.Keyed.{Before, Sorted, ascending-sorted}
use Rattle.values.specs.Held.{text_at, TextIn, uid_at, UIDIn}
use Rattle.values.specs.Order.{order_row}
use Rattle.values.proofs.Orders.{is-less, less-row, same_row}
use Rattle.values.proofs.Rising.{flip-row}
use Rattle.shelves.specs.Items.{Item, items_at, id_key, IdIn, UidIn, offsets, Shelf, Tabled}
use Rattle.shelves.specs.Spots.{Found, EntryAt, EntryOf}
use Rattle.shelves.specs.declared.finding.Extent.{Extent}
use Rattle.shelves.specs.declared.finding.Spot.{Spot}
use Rattle.shelves.specs.declared.finding.Entry.{Entry}
use Rattle.shelves.proofs.Splits.{Under, under-append, before_more, nth, sorted-behind, sorted-under, under_same}
use Rattle.shelves.proofs.Laid.{length-items, place_of, Lies, kth-lies, lies-length, lies-size, lies-row, lies_within, place-next, take-one, each-nth, text_in, text-is, uid-in, uid-is, length-offsets, offset-of}
use Rattle.shelves.proofs.Spotted.{found-new, found-there}

-- what an order of two keys says
pub row-less : (x y : Text) → order_row x y ≡ Less → less x y ≡ true
row-less x y e = less-row x y ∙ ap is-less e

pub row-greater : (x y : Text) → order_row x y ≡ Greater → less y x ≡ true
row-greater x y e = less-row y x ∙ ap is-less (flip-row x y ∙ ap flipped e)
  where
    flipped : Ordering → Ordering
    flipped Less = Greater
    flipped Equal = Equal
    flipped Greater = Less

module _ (key : Item → Text) (KeyIn : Item → Type 0) (m : List ℕ) (from count : ℕ) (t : Text) (shelf : Shelf key KeyIn m from count) where
  abbrev pub xs : List Item
  xs = items_at m from count

  pub sorted : Sorted key xs
  sorted = ascending-sorted key xs shelf.ordered

  pub many : length xs ≡ count
  many = length-items count (drop from m)

  module _ (k : ℕ) (h : k < count) where
    pub under_all : k < length xs
    under_all = omega (arith, many)

    abbrev pub one : Item
    one = (nth xs k under_all).one

    pub lies : (at : ℕ) → at ≡ place_of from xs k → Lies m at one
    lies at e = subst (λ a. Lies m a one) (sym e) (kth-lies m from xs shelf.rest shelf.is k under_all)

    pub one_in : KeyIn one
    one_in = each-nth KeyIn xs k under_all shelf.keys

    -- the key is less than that of the k-th, the same, or greater
    pub less-here : order_row t (key one) ≡ Less → Before key t (drop k xs)
    less-here e =
        let n = nth xs k under_all in
        let l = row-less t (key one) e in
        rw n.rest (l, before_more key t (key one) (drop (k + 1) xs) l (sorted-behind key (take k xs) one (drop (k + 1) xs) (rw (← n.split) sorted)))

    pub same_here : order_row t (key one) ≡ Equal → key one ≡ t
    same_here e = sym (same_row t (key one) e)

    pub under-here : order_row t (key one) ≡ Equal → Under key t (take k xs)
    under-here e =
        let n = nth xs k under_all in
        under_same key t (take k xs) one (drop (k + 1) xs) (rw (← n.split) sorted) (same_here e)

    pub greater-here : order_row t (key one) ≡ Greater → Under key t (take (k + 1) xs)
    greater-here e =
        let n = nth xs k under_all in
        let l = row-greater t (key one) e in
        rw (take-one xs k under_all) (under-append key t (take k xs) one (sorted-under key t (take k xs) one (drop (k + 1) xs) (rw (← n.split) sorted) l) l)

    pub fits-here : (at : ℕ) → at ≡ place_of from xs k → at + 2 + get_or m at 0 ≤ length m
    fits-here at e = let l = lies at e in omega (arith, lies-length m at one l, lies_within m at one l)

    pub next_here : (at : ℕ) → at ≡ place_of from xs k → at + (2 + get_or m at 0) ≡ place_of from xs (k + 1)
    next_here at e = let l = lies at e in omega (arith, lies-length m at one l, place-next m from xs shelf.rest shelf.is k under_all)

  -- the k-th, as it lies
  pub entry_here : (k : ℕ) → k < count → (at : ℕ) → at ≡ place_of from xs k → (e : Entry) → EntryAt m at e → EntryOf m from xs k e
  entry_here k h at p e a =
      let x : Item = one k h in
      let l = lies k h at p in
      let n = lies-length m at x l in
      let z = lies-size m at x l in
      let w = lies_within m at x l in
      let q = next_here k h at p in
      let r = a.row_is in
      let y = a.next-is in
      record {
        one = x;
        is = (nth xs k (under_all k h)).rest;
        more = l.more;
        lies = ap (λ i. drop i m) r ∙ lies-row m at x l;
        long-is = a.long-is ∙ n;
        size_is = a.size_is ∙ z;
        row_is = omega arith;
        next-is = omega arith;
        within = omega arith;
      }

  -- along the items: the invariant, from where the walk is
  abbrev pub Going : ℕ → ℕ → Type 0
  Going k at = (at ≡ place_of from xs k) × Under key t (take k xs) × (k < count → at + 2 + get_or m at 0 ≤ length m)

  pub going : (k at : ℕ) → at ≡ place_of from xs k → Under key t (take k xs) → Going k at
  going k at e u = (e, u, λ h. fits-here k h at e)

  pub new-here : (s : Spot) → s.index ≤ count → Going s.index s.at → s.item ≡ None → Before key t (drop s.index xs) → Found key from xs t s
  new-here s l g n b = found-new key from xs t s g.1 (omega (arith, many)) g.0 n b

  pub none_left : (k : ℕ) → count ≤ k → Before key t (drop k xs)
  none_left k h = rw (drop_all k xs (omega (arith, many))) tt

  pub there-here : (s : Spot) (h : s.index < count) → Going s.index s.at → (x : Extent) → s.item ≡ Some x → x.numbers ≡ 2 + get_or m s.at 0 → x.size ≡ get_or m (s.at + 1) 0 → order_row t (key (one s.index h)) ≡ Equal → Found key from xs t s
  there-here s h g x i o z e =
      let k : ℕ = s.index in
      let l = lies k h s.at g.0 in
      found-there key from xs t s g.1 (under_all k h) g.0 x i (omega (arith, lies-length m s.at (one k h) l)) (omega (arith, lies-size m s.at (one k h) l)) (same_here k h e)

-- the keys in memory
module _ (store work : List ℕ) (at : ℕ) (x : Item) (l : Lies store at x) where
  row_lies : drop (at + 2) (store ++ work) ≡ x.row ++ (l.more ++ work)
  row_lies =
      let w = lies_within store at x l in
      drop-append-le (at + 2) store work (omega arith) ∙ ap (λ z. z ++ work) (lies-row store at x l) ∙ append_assoc x.row l.more work

  pub id-lies : IdIn x → TextIn (store ++ work) (at + 2) × (text_at (store ++ work) (at + 2) ≡ id_key x)
  id-lies h = (text_in (store ++ work) (at + 2) x.row (l.more ++ work) row_lies h, text-is (store ++ work) (at + 2) x.row (l.more ++ work) row_lies h)

  pub uid-lies : UidIn x → UIDIn (store ++ work) (at + 2) × (uid_at (store ++ work) (at + 2) ≡ uid_at x.row 0)
  uid-lies h = (uid-in (store ++ work) (at + 2) x.row (l.more ++ work) row_lies h, uid-is (store ++ work) (at + 2) x.row (l.more ++ work) row_lies h)

-- ---- by the table
module _ (key : Item → Text) (KeyIn : Item → Type 0) (m : List ℕ) (from places count : ℕ) (tabled : Tabled key KeyIn m from places count) (k : ℕ) (h : k < count) where
  in_table : k < length (offsets 0 (items_at m from count))
  in_table = omega (arith, length-offsets 0 (items_at m from count), length-items count (drop from m))

  pub table_fits : places + k < length m
  table_fits =
      let a = ap length tabled.offsets_are in
      let b = length-drop places m in
      let d = length-append (offsets 0 (items_at m from count)) tabled.behind in
      omega (arith, in_table)

  pub table_is : from + get_or m (places + k) 0 ≡ place_of from (items_at m from count) k
  table_is =
      let a : get_or m (places + k) 0 ≡ get_or (offsets 0 (items_at m from count)) k 0 =
      sym (get_or-drop places m k 0) ∙ ap (λ l. get_or l k 0) tabled.offsets_are ∙ get_or_append_left (offsets 0 (items_at m from count)) tabled.behind 0 k in_table in
      let b = offset-of 0 (items_at m from count) k (omega (arith, length-items count (drop from m))) in
      omega arith

  pub place-fits : from + get_or m (places + k) 0 + 2 + get_or m (from + get_or m (places + k) 0) 0 ≤ length m
  place-fits = fits-here key KeyIn m from count [] tabled.shelf k h (from + get_or m (places + k) 0) table_is
