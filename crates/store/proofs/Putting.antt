-- The items of a store as one comes or goes.
use Rattle.std.proofs.Common.{◌≡◌, ℕ, ◌+◌, ◌*◌, ◌/◌, ◌≤◌, List, ◌∷◌, ◌++◌, length, sym, refl, ap, ◌∙◌, subst, arith}
use Rattle.std.proofs.lemmas.List.{length-append}
use Rattle.spec.specs.Basics.{Text, insert, remove}
use Rattle.shelves.specs.Items.{Item, numbers, laid, sizes, IdIn, UidIn, Each}
use Rattle.shelves.specs.Spots.{there, taken, before, here, behind, Place, Found}
use Rattle.shelves.specs.declared.finding.Spot.{Spot}
use Rattle.shelves.proofs.Laid.{laid-append, sizes-append, each_append, each_take, each-drop}
use Rattle.shelves.proofs.Spotted.{three}
use Rattle.shelves.proofs.Offsets.{length-here}
use Rattle.store.specs.Sections.{size_of, policies_at, entities_at, table_at, sections, Kept, Good}
use Rattle.store.specs.Places.{Says}
use Rattle.store.specs.declared.layout.Header.{Header}
use Rattle.store.proofs.Rooms.{bounded}
use Rattle.store.proofs.Reading.{bounds}

-- ---- the numbers of a spot
pub record Sums (from : ℕ) (xs : List Item) (s : Spot) : Type 0 where
  pub start : s.at ≡ from + length (laid (before s xs))
  pub old-here : length (laid (here s xs)) ≡ (taken s).numbers
  pub all : length (laid xs) ≡ length (laid (before s xs)) + ((taken s).numbers + length (laid (behind s xs)))
  pub size-all : (taken s).size ≤ sizes xs
  pub index_is : length (before s xs) ≡ s.index
  pub behind-is : length (behind s xs) + (s.index + there s) ≡ length xs

module _ (from : ℕ) (xs : List Item) (s : Spot) (p : Place from xs s) where
  pub laid-three : laid xs ≡ laid (before s xs) ++ (laid (here s xs) ++ laid (behind s xs))
  laid-three = ap laid (three xs s.index (there s)) ∙ laid-append (before s xs) (here s xs ++ behind s xs) ∙ ap (λ l. laid (before s xs) ++ l) (laid-append (here s xs) (behind s xs))

  pub sums : Sums from xs s
  sums =
      let a = ap length laid-three in
      let b = length-append (laid (before s xs)) (laid (here s xs) ++ laid (behind s xs)) in
      let c = length-append (laid (here s xs)) (laid (behind s xs)) in
      let d = p.old-is in
      let z = ap sizes (three xs s.index (there s)) ∙ sizes-append (before s xs) (here s xs ++ behind s xs) in
      let y = sizes-append (here s xs) (behind s xs) in
      let w = p.size_is in
      let l = length-here xs s p.within in
      let v = p.within in
      record { start = p.at-is; old-here = sym d; all = omega arith; size-all = omega arith; index_is = l.0; behind-is = omega (arith, l.2) }

-- ---- one comes
module _ (key : Item → Text) (KeyIn : Item → Type 0) (from : ℕ) (xs : List Item) (s : Spot) (i : Item) (f : Found key from xs (key i) s) where
  pub laid-with : laid (insert key i xs) ≡ laid (before s xs) ++ (numbers i ++ laid (behind s xs))
  laid-with = ap laid (f.puts i refl) ∙ laid-append (before s xs) (i ∷ behind s xs)

  pub length-with : length (insert key i xs) + there s ≡ length xs + 1
  length-with =
      let a = ap length (f.puts i refl) ∙ length-append (before s xs) (i ∷ behind s xs) in
      let b = sums from xs s f.place in
      omega arith

  pub kept-with : Kept KeyIn i → Each (Kept KeyIn) xs → Each (Kept KeyIn) (insert key i xs)
  kept-with k h =
      subst (Each (Kept KeyIn)) (sym (f.puts i refl)) (each_append (Kept KeyIn) (before s xs) (i ∷ behind s xs) (each_take (Kept KeyIn) s.index xs h) (k, each-drop (Kept KeyIn) (s.index + there s) xs h))

-- ---- one goes
module _ (key : Item → Text) (KeyIn : Item → Type 0) (from : ℕ) (xs : List Item) (s : Spot) (t : Text) (f : Found key from xs t s) where
  pub laid-without : laid (remove key t xs) ≡ laid (before s xs) ++ laid (behind s xs)
  laid-without = ap laid f.removes ∙ laid-append (before s xs) (behind s xs)

  pub length_without : length (remove key t xs) + there s ≡ length xs
  length_without =
      let a = ap length f.removes ∙ length-append (before s xs) (behind s xs) in
      let b = sums from xs s f.place in
      omega arith

  pub sizes-without : sizes (remove key t xs) + (taken s).size ≡ sizes xs
  sizes-without =
      let a = ap sizes f.removes ∙ sizes-append (before s xs) (behind s xs) in
      let z = ap sizes (three xs s.index (there s)) ∙ sizes-append (before s xs) (here s xs ++ behind s xs) in
      let y = sizes-append (here s xs) (behind s xs) in
      let w = f.place.size_is in
      omega arith

  pub kept-without : Each (Kept KeyIn) xs → Each (Kept KeyIn) (remove key t xs)
  kept-without h =
      subst (Each (Kept KeyIn)) (sym f.removes) (each_append (Kept KeyIn) (before s xs) (behind s xs) (each_take (Kept KeyIn) s.index xs h) (each-drop (Kept KeyIn) (s.index + there s) xs h))

-- ---- what the others take
pub spare : (KeyIn : Item → Type 0) (from : ℕ) (xs : List Item) (s : Spot) → Place from xs s → Each (Kept KeyIn) xs →
    (2 * (length (laid (before s xs)) + length (laid (behind s xs))) + 9 * (taken s).size ≤ 9 * sizes xs) × (2 * (length (before s xs) + length (behind s xs)) + (taken s).size ≤ sizes xs)
spare KeyIn from xs s p k =
    let a = bounded KeyIn (before s xs) (each_take (Kept KeyIn) s.index xs k) in
    let b = bounded KeyIn (behind s xs) (each-drop (Kept KeyIn) (s.index + there s) xs k) in
    let z = ap sizes (three xs s.index (there s)) ∙ sizes-append (before s xs) (here s xs ++ behind s xs) in
    let y = sizes-append (here s xs) (behind s xs) in
    let w = p.size_is in
    (omega arith, omega arith)

-- ---- the arithmetic of a change: of `(taken spot).numbers` numbers to new many, and of a size
pub record Change (m : List ℕ) (h : Header) (spot : Spot) (new size : ℕ) : Type 0 where
  pub low : 10 ≤ spot.at
  pub within : spot.at + (taken spot).numbers ≤ h.used
  pub size-le : (taken spot).size ≤ h.size
  pub size-new : h.size + size ≤ 16777216 + (taken spot).size
  pub used-new : h.used + new ≤ table_at h.capacity + (taken spot).numbers
  pub used-long : table_at h.capacity + h.capacity / 2 ≤ length m
  pub used_le : h.used ≤ length m
  pub limit : h.capacity ≤ 16777216
  pub few-policies : h.policy_count ≤ 16777216
  pub few-entities : 2 * h.entity_count ≤ h.size
  pub size_small : h.size ≤ h.capacity

module _ (m : List ℕ) (g : Good m) (h : Header) (k : Says (sections m) h) (spot : Spot) (new size : ℕ) (b : 2 * new ≤ 9 * size) (f : size_of (sections m) + size ≤ (sections m).capacity + (taken spot).size) where
  pub policy-change : Place (policies_at (sections m)) (sections m).policies spot → Change m h spot new size × (spot.at + (taken spot).numbers ≤ h.entities) × (there spot ≤ h.policy_count)
  policy-change p =
      let a = sums (policies_at (sections m)) (sections m).policies spot p in
      let z = spare IdIn (policies_at (sections m)) (sections m).policies spot p g.ordered.policies-kept in
      let e = bounded UidIn (sections m).entities g.ordered.entities-kept in
      let o = bounds (sections m) g.ordered in
      let c = g.ordered.schema-bounded in
      let l = g.fits in (
        record {
          low = omega arith;
          within = omega arith;
          size-le = omega arith;
          size-new = omega arith;
          used-new = omega arith;
          used-long = omega arith;
          used_le = omega arith;
          limit = omega arith;
          few-policies = omega arith;
          few-entities = omega arith;
          size_small = omega arith;
        },
        omega arith,
        omega arith,
      )

  pub entity-change : Place (entities_at (sections m)) (sections m).entities spot → Change m h spot new size × (h.entities ≤ spot.at) × (there spot ≤ h.entity_count)
      × (2 * h.entity_count + (taken spot).size ≤ h.size + 2 * there spot)
  entity-change p =
      let a = sums (entities_at (sections m)) (sections m).entities spot p in
      let z = spare UidIn (entities_at (sections m)) (sections m).entities spot p g.ordered.entities-kept in
      let e = bounded IdIn (sections m).policies g.ordered.policies-kept in
      let o = bounds (sections m) g.ordered in
      let c = g.ordered.schema-bounded in
      let l = g.fits in (
        record {
          low = omega arith;
          within = omega arith;
          size-le = omega arith;
          size-new = omega arith;
          used-new = omega arith;
          used-long = omega arith;
          used_le = omega arith;
          limit = omega arith;
          few-policies = omega arith;
          few-entities = omega arith;
          size_small = omega arith;
        },
        omega arith,
        omega arith,
        omega arith,
      )
