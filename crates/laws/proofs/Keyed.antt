-- Lists kept in the order of a key: what is found after an insertion, and that order stays; two lists in order in which the same is found are the same.
use Rattle.std.proofs.Common.{◌≡◌, Bool, true, false, cond, List, [], ◌∷◌, sym, refl, ◌∙◌, arith}
use mathlib.Core.Option.{some, none}
use Rattle.std.proofs.lemmas.Bool.{and_parts, and_from}
use Rattle.spec.specs.Basics.{Text, same, less, insert, find, remove, ascending}
use Rattle.laws.proofs.Texts.{none-some, same_true, same_refl, less-tri, less-trans, less-not}

module _ {A : Type 0} (key : A → Text) where
  -- a key that is less than all of a list
  abbrev pub Before : Text → List A → Type 0
  Before t [] = Unit {0}
  Before t (b ∷ bs) = (less t (key b) ≡ true) × Before t bs

  abbrev pub Sorted : List A → Type 0
  Sorted [] = Unit {0}
  Sorted (b ∷ bs) = Before (key b) bs × Sorted bs

  before-trans : (s t : Text) (bs : List A) → less s t ≡ true → Before t bs → Before s bs
  before-trans s t [] h b = tt
  before-trans s t (x ∷ bs) h b = (less-trans s t (key x) h b.0, before-trans s t bs h b.1)

  -- the test of the definitions says the same
  pub ascending-sorted : (bs : List A) → ascending key bs ≡ true → Sorted bs
  unfolding ascending
  ascending-sorted [] h = tt
  ascending-sorted (x ∷ []) h = (tt, tt)
  ascending-sorted (x ∷ (y ∷ bs)) h =
      let p = and_parts (less (key x) (key y)) (ascending key (y ∷ bs)) h in
      let r = ascending-sorted (y ∷ bs) p.1 in
      ((p.0, before-trans (key x) (key y) bs p.0 r.0), r)

  pub sorted-ascending : (bs : List A) → Sorted bs → ascending key bs ≡ true
  unfolding ascending
  sorted-ascending [] h = refl
  sorted-ascending (x ∷ []) h = refl
  sorted-ascending (x ∷ (y ∷ bs)) h = and_from _ _ h.0.0 (sorted-ascending (y ∷ bs) h.1)

  pub find-insert : (t : Text) (a : A) (bs : List A) → find key t (insert key a bs) ≡ cond (same t (key a)) (some a) (find key t bs)
  unfolding find insert
  find-insert t a [] = refl
  find-insert t a (b ∷ bs) = go (less (key a) (key b)) (less (key b) (key a)) refl refl (find-insert t a bs)
    where
      go : (x y : Bool) → less (key a) (key b) ≡ x → less (key b) (key a) ≡ y → find key t (insert key a bs) ≡ cond (same t (key a)) (some a) (find key t bs) →
          find key t (cond x (a ∷ (b ∷ bs)) (cond y (b ∷ insert key a bs) (a ∷ bs))) ≡ cond (same t (key a)) (some a) (cond (same t (key b)) (some b) (find key t bs))
      go true y hx hy ih = refl
      go false true hx hy ih = both (same t (key a)) (same t (key b)) refl refl
        where
          both : (c d : Bool) → same t (key a) ≡ c → same t (key b) ≡ d → cond d (some b) (find key t (insert key a bs)) ≡ cond c (some a) (cond d (some b) (find key t bs))
          both true true hc hd = let n = less-not (key b) (key a) hy in let p = same_true t (key a) hc in let r : same (key a) (key b) ≡ true = rw p at hd in let z = same_true (key a) (key b) r in let w = same_refl (key a) in cc
          both true false hc hd = grind arith
          both false true hc hd = refl
          both false false hc hd = grind arith
      go false false hx hy ih = rw (less-tri (key a) (key b) hx hy) (again (same t (key b)))
        where
          again : (c : Bool) → cond c (some a) (find key t bs) ≡ cond c (some a) (cond c (some b) (find key t bs))
          again true = refl
          again false = refl

  before-insert : (s : Text) (a : A) (bs : List A) → less s (key a) ≡ true → Before s bs → Before s (insert key a bs)
  unfolding insert
  before-insert s a [] h b = (h, tt)
  before-insert s a (x ∷ bs) h b = go (less (key a) (key x)) (less (key x) (key a)) (before-insert s a bs h b.1)
    where
      go : (c d : Bool) → Before s (insert key a bs) → Before s (cond c (a ∷ (x ∷ bs)) (cond d (x ∷ insert key a bs) (a ∷ bs)))
      go true d ih = (h, b)
      go false true ih = (b.0, ih)
      go false false ih = (h, b.1)

  pub sorted_insert : (a : A) (bs : List A) → Sorted bs → Sorted (insert key a bs)
  unfolding insert
  sorted_insert a [] h = (tt, tt)
  sorted_insert a (x ∷ bs) h = go (less (key a) (key x)) (less (key x) (key a)) refl refl (sorted_insert a bs h.1)
    where
      go : (c d : Bool) → less (key a) (key x) ≡ c → less (key x) (key a) ≡ d → Sorted (insert key a bs) → Sorted (cond c (a ∷ (x ∷ bs)) (cond d (x ∷ insert key a bs) (a ∷ bs)))
      go true d hc hd ih = ((hc, before-trans (key a) (key x) bs hc h.0), h)
      go false true hc hd ih = (before-insert (key x) a bs hd h.0, ih)
      go false false hc hd ih = (rw (less-tri (key a) (key x) hc hd) h.0, h.1)

  before-remove : (s t : Text) (bs : List A) → Before s bs → Before s (remove key t bs)
  unfolding remove
  before-remove s t [] b = tt
  before-remove s t (x ∷ bs) b = go (same t (key x)) (before-remove s t bs b.1)
    where
      go : (c : Bool) → Before s (remove key t bs) → Before s (cond c bs (x ∷ remove key t bs))
      go true ih = b.1
      go false ih = (b.0, ih)

  pub sorted-remove : (t : Text) (bs : List A) → Sorted bs → Sorted (remove key t bs)
  unfolding remove
  sorted-remove t [] h = tt
  sorted-remove t (x ∷ bs) h = go (same t (key x)) (sorted-remove t bs h.1)
    where
      go : (c : Bool) → Sorted (remove key t bs) → Sorted (cond c bs (x ∷ remove key t bs))
      go true ih = h.1
      go false ih = (before-remove (key x) t bs h.0, ih)

  pub not_found : (t : Text) (bs : List A) → Before t bs → find key t bs ≡ none
  unfolding find
  not_found t [] b = refl
  not_found t (x ∷ bs) b = rw (less-not t (key x) b.0) (not_found t bs b.1)

  pub same-finds : (xs ys : List A) → Sorted xs → Sorted ys → ((t : Text) → find key t xs ≡ find key t ys) → xs ≡ ys
  unfolding find
  same-finds [] [] h k e = refl
  same-finds [] (y ∷ ys) h k e = none-some (rw (same_refl (key y)) at (e (key y)))
  same-finds (x ∷ xs) [] h k e = none-some (sym (rw (same_refl (key x)) at (e (key x))))
  same-finds (x ∷ xs) (y ∷ ys) h k e = go (less (key x) (key y)) (less (key y) (key x)) refl refl (same-finds xs ys h.1 k.1)
    where
      go : (c d : Bool) → less (key x) (key y) ≡ c → less (key y) (key x) ≡ d → (((t : Text) → find key t xs ≡ find key t ys) → xs ≡ ys) → x ∷ xs ≡ y ∷ ys
      go true d hc hd ih =
          none-some (sym (not_found (key x) (y ∷ ys) (hc, before-trans (key x) (key y) ys hc k.0)) ∙ sym (rw (same_refl (key x)) at (e (key x))))
      go false true hc hd ih =
          none-some (sym (not_found (key y) (x ∷ xs) (hd, before-trans (key y) (key x) xs hd h.0)) ∙ (rw (same_refl (key y)) at (e (key y))))
      go false false hc hd ih =
          let kk = less-tri (key x) (key y) hc hd in
          let f : some x ≡ cond (same (key x) (key y)) (some y) (find key (key x) ys) = rw (same_refl (key x)) at (e (key x)) in
          let g : same (key x) (key y) ≡ true = rw kk (same_refl (key y)) in
          let xy : x ≡ y = cc in
          cc (xy, ih (λ t. tails t (same t (key x)) refl))
        where
          tails : (t : Text) (b : Bool) → same t (key x) ≡ b → find key t xs ≡ find key t ys
          tails t true hb = let tx = same_true t (key x) hb in let kk = less-tri (key x) (key y) hc hd in let a = not_found (key x) xs h.0 in let b = not_found (key y) ys k.0 in cc
          tails t false hb = let kk = less-tri (key x) (key y) hc hd in let p = e t in grind arith
