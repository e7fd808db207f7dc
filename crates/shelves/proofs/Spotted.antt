-- The spot of a key in a list that is in the order of keys.
use Rattle.std.proofs.Common.{◌≡◌, ℕ, ◌+◌, ◌<◌, ◌≤◌, List, [], ◌∷◌, ◌++◌, length, take, drop, Some, None, Option, IsSome, sym, refl, ap, ◌∙◌, arith}
use Rattle.std.proofs.lemmas.List.{take-append-drop, drop-drop, length-append}
use Rattle.spec.specs.Basics.{Text, first, insert, remove, find}
use Rattle.laws.proofs.Keyed.{Before, not_found}
use Rattle.shelves.specs.Items.{Item, laid, sizes}
use Rattle.shelves.specs.Spots.{there_of, there, taken_of, taken, before, here, behind, Place, Found}
use Rattle.shelves.specs.declared.finding.Extent.{Extent}
use Rattle.shelves.specs.declared.finding.Spot.{Spot}
use Rattle.shelves.proofs.Splits.{Under, insert-past, remove-past, find_past, insert-here, remove-here, find-here, insert-before, remove-none, nth}
use Rattle.shelves.proofs.Laid.{sizes-append, place_of}

pub there_small : (s : Spot) → there s ≤ 1
there_small s = small s.item
  where
    small : (i : Option Extent) → there_of i ≤ 1
    small (Some e) = omega arith
    small None = omega arith

pub there_some : (s : Spot) → IsSome s.item → there s ≡ 1
there_some s h = some s.item h
  where
    some : (i : Option Extent) → IsSome i → there_of i ≡ 1
    some (Some e) h = refl
    some None h = cc

-- the three parts
pub three : (xs : List Item) (k g : ℕ) → xs ≡ take k xs ++ (take g (drop k xs) ++ drop (k + g) xs)
three xs k g = sym (take-append-drop k xs) ∙ ap (λ l. take k xs ++ l) (sym (take-append-drop g (drop k xs)) ∙ ap (λ l. take g (drop k xs) ++ l) (drop-drop g k xs))

module _ (key : Item → Text) (from : ℕ) (xs : List Item) (t : Text) (s : Spot) (u : Under key t (take s.index xs)) where
  -- from what an insertion, a removal and a search do with what is not less
  spotted : (g : ℕ) → there s ≡ g → Place from xs s → ((i : Item) → key i ≡ t → insert key i (drop s.index xs) ≡ i ∷ drop (s.index + g) xs) →
      remove key t (drop s.index xs) ≡ drop (s.index + g) xs → find key t (drop s.index xs) ≡ first (take g (drop s.index xs)) → Found key from xs t s
  spotted g e p ins rem fin =
      let k : ℕ = s.index in
      let cut : xs ≡ take k xs ++ drop k xs = sym (take-append-drop k xs) in
      let back : drop (k + g) xs ≡ behind s xs = ap (λ n. drop (k + n) xs) (sym e) in
      let put : (i : Item) → key i ≡ t → insert key i xs ≡ before s xs ++ (i ∷ behind s xs) =
      λ i h. ap (insert key i) cut ∙ insert-past key t i (take k xs) (drop k xs) h u ∙ ap (λ l. take k xs ++ l) (ins i h ∙ ap (λ l. i ∷ l) back) in
      record {
        place = p;
        finds = ap (find key t) cut ∙ find_past key t (take k xs) (drop k xs) u ∙ fin ∙ ap (λ n. first (take n (drop k xs))) (sym e);
        puts = put;
        weighs = λ i h.
            (let a = ap sizes (put i h) ∙ sizes-append (before s xs) (i ∷ behind s xs) in
            let b = ap sizes (three xs k (there s)) ∙ sizes-append (before s xs) (here s xs ++ behind s xs) in
            let c = sizes-append (here s xs) (behind s xs) in
            let d = p.size_is in
            omega arith);
        removes = ap (remove key t) cut ∙ remove-past key t (take k xs) (drop k xs) u ∙ ap (λ l. take k xs ++ l) (rem ∙ back);
      }

  -- nothing has the key
  pub found-new : s.index ≤ length xs → s.at ≡ place_of from xs s.index → s.item ≡ None → Before key t (drop s.index xs) → Found key from xs t s
  found-new l a q b =
      let k : ℕ = s.index in
      let e : there s ≡ 0 = ap there_of q in
      let o : (taken s).numbers ≡ 0 = ap (λ i. (taken_of i).numbers) q in
      let z : (taken s).size ≡ 0 = ap (λ i. (taken_of i).size) q in
      let n : take (there s) (drop k xs) ≡ [] = ap (λ n. take n (drop k xs)) e in
      let d : drop k xs ≡ drop (k + 0) xs = ap (λ n. drop n xs) (omega arith) in
      let p : Place from xs s = record { within = omega arith; at-is = a; old-is = o ∙ ap (λ l. length (laid l)) (sym n); size_is = z ∙ ap sizes (sym n) } in
      spotted 0 e p (λ i h. insert-before key t i (drop k xs) h b ∙ ap (λ l. i ∷ l) d) (remove-none key t (drop k xs) b ∙ d) (not_found key t (drop k xs) b)

  -- the k-th has it
  pub found-there : (h : s.index < length xs) → s.at ≡ place_of from xs s.index → (x : Extent) → s.item ≡ Some x → x.numbers ≡ 2 + length (nth xs s.index h).one.row → x.size ≡ (nth xs s.index h).one.size →
      key (nth xs s.index h).one ≡ t → Found key from xs t s
  found-there h a there-is q i j b =
      let k : ℕ = s.index in
      let x : Item = (nth xs k h).one in
      let r : drop k xs ≡ x ∷ drop (k + 1) xs = (nth xs k h).rest in
      let e : there s ≡ 1 = ap there_of q in
      let o : (taken s).numbers ≡ 2 + length x.row = ap (λ i. (taken_of i).numbers) q ∙ i in
      let z : (taken s).size ≡ x.size = ap (λ i. (taken_of i).size) q ∙ j in
      let n : take (there s) (drop k xs) ≡ x ∷ [] = ap (λ n. take n (drop k xs)) e ∙ ap (take 1) r in
      let l = ap (λ l. length (laid l)) n in
      let w = length-append x.row [] in
      let v = ap sizes n in
      let p : Place from xs s = record { within = omega arith; at-is = a; old-is = omega arith; size_is = omega arith } in
      spotted 1 e p (λ i j. ap (insert key i) r ∙ insert-here key t i x (drop (k + 1) xs) j b) (ap (remove key t) r ∙ remove-here key t x (drop (k + 1) xs) b)
      (ap (find key t) r ∙ find-here key t x (drop (k + 1) xs) b ∙ ap (λ l. first (take 1 l)) (sym r))
