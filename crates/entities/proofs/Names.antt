-- Entities in the order of their names: the order is total, and what is found by a name is what stands at the place that the search gives.
use Rattle.std.specs.Ordering.{is_eq}
use Rattle.std.specs.declared.cmp.Ordering.TheVariants.{Less, Equal, Greater}
use Rattle.std.specs.declared.cmp.Ordering.{Ordering}
use Rattle.std.proofs.Common.{◌≡◌, ℕ, zero, suc, ◌+◌, ◌-◌, ◌^◌, ◌<◌, ◌≤◌, false, cond, List, ◌++◌, length, Some, sym, refl, ap, ◌∙◌, subst, inl, inr, arith}
use mathlib.Core.Option.{some, none}
use Rattle.std.proofs.lemmas.Bool.{cases_eq, cases_lt}
use Rattle.std.proofs.lemmas.List.{length-append}
use Rattle.spec.specs.Basics.{Text, same, find}
use Rattle.spec.specs.Values.{entity_uid, prim, code_uid, entity_key, find_entity}
use Rattle.values.specs.Order.{order_uid}
use Rattle.values.specs.Held.{uid_at, UIDIn}
use Rattle.values.specs.Making.{Seeking, listed}
use Rattle.values.proofs.Frame.{uid-on, uid-in-on}
use Rattle.values.proofs.Orders.{same-uid-is}
use Rattle.values.proofs.Rising.{Total, values, seek-less, seek-greater, seek-there}
use Rattle.entities.specs.Rows.{row_place, entity_at, entities_at, EntityIn, EntitiesIn, FoundRow}
use Rattle.shelves.specs.declared.table.Table.{Table}

-- names are ordered as the values that they are
pub uids : Total order_uid
uids = record {
  trans = λ u v w. values.trans (prim (entity_uid u)) (prim (entity_uid v)) (prim (entity_uid w));
  turn = λ u v. values.turn (prim (entity_uid u)) (prim (entity_uid v));
  told = λ u v h. let e = values.told (prim (entity_uid u)) (prim (entity_uid v)) h in cc;
}

-- ---- the first of n that has a key; o j says how the key stands to the j-th
module _ {A : Type 0} (key : A → Text) (f : ℕ → A) (t : Text) (o : ℕ → Ordering) (told : (j : ℕ) → same t (key (f j)) ≡ is_eq (o j)) where
  at : (i r k : ℕ) → i ≤ k → k < i + r → ((j : ℕ) → i ≤ j → j < k → is_eq (o j) ≡ false) → o k ≡ Equal → find key t (listed f i r) ≡ some (f k)
  unfolding find
  at i zero k l l' p e = absurd (omega arith)
  at i (suc r) k l l' p e = elim (cases_eq i k) [
    | inl q ↦ ap (λ b. cond b (some (f i)) (find key t (listed f (i + 1) r))) (told i ∙ ap is_eq (ap o q ∙ e)) ∙ ap (λ j. some (f j)) q
    | inr u ↦ ap (λ b. cond b (some (f i)) (find key t (listed f (i + 1) r))) (told i ∙ p i (omega arith) (omega arith))
        ∙ at (i + 1) r k (omega arith) (omega arith) (λ j x y. p j (omega arith) y) e
  ]

  nowhere : (i r : ℕ) → ((j : ℕ) → i ≤ j → j < i + r → is_eq (o j) ≡ false) → find key t (listed f i r) ≡ none
  unfolding find
  nowhere i zero h = refl
  nowhere i (suc r) h =
      ap (λ b. cond b (some (f i)) (find key t (listed f (i + 1) r))) (told i ∙ h i (omega arith) (omega arith)) ∙ nowhere (i + 1) r (λ j x y. h j (omega arith) (omega arith))

  pub found_at : (n k : ℕ) → k < n → o k ≡ Equal → ((j : ℕ) → j < k → is_eq (o j) ≡ false) → find key t (listed f 0 n) ≡ some (f k)
  found_at n k l e h = at 0 n k (omega arith) (omega arith) (λ j x y. h j y) e

  -- a search that has come to its end has found none
  pub not_found : (n lo hi : ℕ) → hi ≤ lo → Seeking o n lo hi → find key t (listed f 0 n) ≡ none
  not_found n lo hi l S =
      nowhere 0 n (λ j x y. elim (cases_lt j lo) [
        | inl b ↦ ap is_eq (S.below j b)
        | inr b ↦ ap is_eq (S.above j (omega (arith, S.within)) (omega arith))
      ])

-- the table says where a row lies, and it lies in memory
pub row-fits : (store work : List ℕ) (e : Table) → EntitiesIn store e → (k : ℕ) → k < e.count → length (store ++ work) < 2 ^ 64 → (e.places + k < length store) × (row_place store e k < 2 ^ 64)
row-fits store work e E k l small =
    let a = length-append store work in
    let b = (E.each k l).name.0 in
    let f = E.fits in
    (omega arith, omega arith)

-- ---- the entities of a store, and a name in the store or behind it: row is where the k-th lies, and x how the name stands to it
module _ (store work : List ℕ) (e : Table) (E : EntitiesIn store e) (uid : ℕ) where
  abbrev pub standing : ℕ → Ordering
  standing j = order_uid (uid_at (store ++ work) uid) (uid_at store (row_place store e j))

  pub row-name : (k row : ℕ) → k < e.count → row ≡ row_place store e k → UIDIn (store ++ work) row
  row-name k row l q = subst (UIDIn (store ++ work)) (sym q) (uid-in-on store work (row_place store e k) (E.each k l).name)

  stands-so : (k row : ℕ) (x : Ordering) → k < e.count → row ≡ row_place store e k → x ≡ order_uid (uid_at (store ++ work) uid) (uid_at (store ++ work) row) → standing k ≡ x
  stands-so k row x l q h =
      sym (h ∙ ap (λ p. order_uid (uid_at (store ++ work) uid) (uid_at (store ++ work) p)) q ∙ ap (order_uid (uid_at (store ++ work) uid)) (uid-on store work (row_place store e k) (E.each k l).name))

  pub before : (lo hi k row : ℕ) → Seeking standing e.count lo hi → lo ≤ k → k < hi → row ≡ row_place store e k →
      Less ≡ order_uid (uid_at (store ++ work) uid) (uid_at (store ++ work) row) → Seeking standing e.count lo k
  before lo hi k row S l l' q h =
      seek-less order_uid uids (λ j. uid_at store (row_place store e j)) e.count E.rising (uid_at (store ++ work) uid) lo hi k S l l' (stands-so k row Less (omega (arith, S.ends)) q h)

  pub behind : (lo hi k row : ℕ) → Seeking standing e.count lo hi → lo ≤ k → k < hi → row ≡ row_place store e k →
      Greater ≡ order_uid (uid_at (store ++ work) uid) (uid_at (store ++ work) row) → Seeking standing e.count (k + 1) hi
  behind lo hi k row S l l' q h =
      seek-greater order_uid uids (λ j. uid_at store (row_place store e j)) e.count E.rising (uid_at (store ++ work) uid) lo hi k S l l' (stands-so k row Greater (omega (arith, S.ends)) q h)

  told : (j : ℕ) → same (code_uid (uid_at (store ++ work) uid)) (entity_key (entity_at store (row_place store e j))) ≡ is_eq (standing j)
  told j = same-uid-is (uid_at (store ++ work) uid) (uid_at store (row_place store e j))

  pub there : (lo hi k row : ℕ) → Seeking standing e.count lo hi → lo ≤ k → k < hi → row ≡ row_place store e k →
      Equal ≡ order_uid (uid_at (store ++ work) uid) (uid_at (store ++ work) row) → FoundRow store (Some row) (find_entity (uid_at (store ++ work) uid) (entities_at store e))
  there lo hi k row S l l' q h =
      let u = stands-so k row Equal (omega (arith, S.ends)) q h in
      let P = seek-there order_uid uids (λ j. uid_at store (row_place store e j)) e.count E.rising (uid_at (store ++ work) uid) lo hi k S l l' u in (
        found_at entity_key (λ j. entity_at store (row_place store e j)) (code_uid (uid_at (store ++ work) uid)) standing told e.count k P.0 u (λ j b. ap is_eq (P.2 j b))
            ∙ ap (λ p. some (entity_at store p)) (sym q),
        subst (EntityIn store) (sym q) (E.each k P.0),
      )

  pub missing : (lo hi : ℕ) → hi ≤ lo → Seeking standing e.count lo hi → find_entity (uid_at (store ++ work) uid) (entities_at store e) ≡ none
  missing lo hi l S = not_found entity_key (λ j. entity_at store (row_place store e j)) (code_uid (uid_at (store ++ work) uid)) standing told e.count lo hi l S

  -- ---- what a search by halves says of the k-th
  abbrev pub Tells : ℕ → Ordering → Type 0
  Tells k o = o ≡ order_uid (uid_at (store ++ work) uid) (uid_at (store ++ work) (row_place store e k))

  all_left : Seeking standing e.count 0 e.count
  all_left = record { within = omega arith; ends = omega arith; below = λ j l. absurd (omega arith); above = λ j l l'. absurd (omega arith) }

  pub found_there : (k : ℕ) → k < e.count → Tells k Equal → (row : ℕ) → row ≡ row_place store e k → FoundRow store (Some row) (find_entity (uid_at (store ++ work) uid) (entities_at store e))
  found_there k l f row q = rw q (there 0 e.count k (row_place store e k) all_left (omega arith) l refl f)

  right_of : (k : ℕ) → k ≤ e.count → (0 < k → Tells (k - 1) Greater) → Seeking standing e.count k e.count
  right_of k h f = elim (cases_lt 0 k) [
    | inl p ↦ subst (λ n. Seeking standing e.count n e.count) {x = k - 1 + 1} (omega arith) (behind 0 e.count (k - 1) (row_place store e (k - 1)) all_left (omega arith) (omega arith) refl (f p))
    | inr p ↦ subst (λ n. Seeking standing e.count n e.count) {x = 0} (omega arith) all_left
  ]

  between : (k : ℕ) → k ≤ e.count → (0 < k → Tells (k - 1) Greater) → (k < e.count → Tells k Less) → Seeking standing e.count k k
  between k h f g = elim (cases_lt k e.count) [
    | inl p ↦ before k e.count k (row_place store e k) (right_of k h f) (omega arith) p refl (g p)
    | inr p ↦ subst (λ n. Seeking standing e.count k n) {x = e.count} (omega arith) (right_of k h f)
  ]

  pub not_there : (k : ℕ) → k ≤ e.count → (0 < k → Tells (k - 1) Greater) → (k < e.count → Tells k Less) → find_entity (uid_at (store ++ work) uid) (entities_at store e) ≡ none
  not_there k h f g = missing k k (omega arith) (between k h f g)
