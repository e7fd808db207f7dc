-- What a search by halves finds among the items of a table.
use Rattle.std.specs.declared.cmp.Ordering.{Ordering}
use Rattle.std.specs.declared.cmp.Ordering.TheVariants.{Less, Equal, Greater}
use Rattle.std.proofs.Common.{◌≡◌, ℕ, ◌+◌, ◌-◌, ◌<◌, ◌≤◌, List, ◌++◌, length, get_or, take, drop, Some, None, inl, inr, sym, refl, ap, ◌∙◌, subst, arith}
use Rattle.std.proofs.lemmas.List.{take_all}
use Rattle.std.proofs.lemmas.Bool.{cases_lt}
use Rattle.spec.specs.Basics.{Text}
use Rattle.spec.specs.Values.{code_uid}
use Rattle.laws.proofs.Keyed.{Before}
use Rattle.values.specs.Held.{uid_at, UIDIn}
use Rattle.values.specs.Order.{order_row, order_uid}
use Rattle.values.proofs.Orders.{by-uid}
use Rattle.shelves.specs.Items.{Item, laid, items_at, uid_key, UidIn, Shelf}
use Rattle.shelves.specs.Spots.{Found}
use Rattle.shelves.specs.declared.finding.Spot.{Spot}
use Rattle.shelves.specs.declared.finding.Extent.{Extent}
use Rattle.shelves.proofs.Splits.{Under}
use Rattle.shelves.proofs.Laid.{place_of, length-items}
use Rattle.shelves.proofs.Walks.{one, lies, one_in, less-here, under-here, greater-here, going, new-here, none_left, there-here, uid-lies}

module _ (store work : List ℕ) (from count key : ℕ) (shelf : Shelf uid_key UidIn store from count) where
  abbrev xs : List Item
  xs = items_at store from count

  abbrev t : Text
  t = code_uid (uid_at (store ++ work) key)

  -- how the k-th stands to what is looked for
  abbrev pub Says : ℕ → Ordering → Type 0
  Says k o = o ≡ order_uid (uid_at (store ++ work) key) (uid_at (store ++ work) (place_of from xs k + 2))

  module _ (k : ℕ) (h : k < count) where
    abbrev kth : Item
    kth = one uid_key UidIn store from count t shelf k h

    pub seen : (at : ℕ) → at ≡ place_of from xs k → UIDIn (store ++ work) (at + 2) × (uid_at (store ++ work) (at + 2) ≡ uid_at kth.row 0)
    seen at e = uid-lies store work at kth (lies uid_key UidIn store from count t shelf k h at e) (one_in uid_key UidIn store from count t shelf k h)

    told : (o : Ordering) → Says k o → order_row t (uid_key kth) ≡ o
    told o f = by-uid (uid_at (store ++ work) key) (uid_at kth.row 0) ∙ ap (order_uid (uid_at (store ++ work) key)) (sym (seen (place_of from xs k) refl).1) ∙ sym f

    under_it : Says k Greater → Under uid_key t (take (k + 1) xs)
    under_it f = greater-here uid_key UidIn store from count t shelf k h (told Greater f)

    before_it : Says k Less → Before uid_key t (drop k xs)
    before_it f = less-here uid_key UidIn store from count t shelf k h (told Less f)

    pub it : Says k Equal → (at : ℕ) → at ≡ place_of from xs k → (x : Extent) → x.numbers ≡ 2 + get_or store at 0 → x.size ≡ get_or store (at + 1) 0 → Found uid_key from xs t (record { index = k; at = at; item = Some x })
    it f at e x n z =
        let s : Spot = record { index = k; at = at; item = Some x } in
        let q = told Equal f in
        there-here uid_key UidIn store from count t shelf s h (going uid_key UidIn store from count t shelf k at e (under-here uid_key UidIn store from count t shelf k h q)) x refl n z q

  -- what is before the place is less, and what is from it on is greater
  under_all : (k : ℕ) → k ≤ count → (0 < k → Says (k - 1) Greater) → Under uid_key t (take k xs)
  under_all k h f = elim (cases_lt 0 k) [
    | inl p ↦ subst (λ n. Under uid_key t (take n xs)) {x = k - 1 + 1} (omega arith) (under_it (k - 1) (omega arith) (f p))
    | inr p ↦ subst (λ n. Under uid_key t (take n xs)) {x = 0} (omega arith) tt
  ]

  before_all : (k : ℕ) → (k < count → Says k Less) → Before uid_key t (drop k xs)
  before_all k f = elim (cases_lt k count) [
    | inl p ↦ before_it k p (f p)
    | inr p ↦ none_left uid_key UidIn store from count t shelf k p
  ]

  pub gap : (k : ℕ) → k ≤ count → (0 < k → Says (k - 1) Greater) → (k < count → Says k Less) → (at : ℕ) → at ≡ place_of from xs k → Found uid_key from xs t (record { index = k; at = at; item = None })
  gap k h f g at e =
      let s : Spot = record { index = k; at = at; item = None } in
      new-here uid_key UidIn store from count t shelf s h (going uid_key UidIn store from count t shelf k at e (under_all k h f)) refl (before_all k g)

  -- behind all of them
  pub last : (k end : ℕ) → k ≡ count → end ≡ from + length (laid xs) → end ≡ place_of from xs k
  last k end e f = f ∙ ap (λ l. from + length (laid l)) (sym (take_all k xs (omega (arith, length-items count (drop from store)))))
