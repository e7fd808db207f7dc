-- The store as an entity comes or goes.
use Rattle.std.proofs.Common.{◌≡◌, ℕ, ◌+◌, ◌-◌, ◌*◌, ◌^◌, ◌<◌, ◌≤◌, List, [], ◌∷◌, ◌++◌, length, get_or, take, drop, set, sym, refl, ap, ◌∙◌, subst, ap₂, append_assoc, arith, take-add}
use borrow.Rule.Slice.PartMut.{put_mid}
use Rattle.std.proofs.lemmas.List.{length-append, length-drop, length-take-le, take_rest, take_at, drop_at, drop_all, append-nil}
use Rattle.spec.specs.Basics.{Text, insert, remove}
use Rattle.laws.proofs.Stores.{ascending-insert, ascending-remove}
use Rattle.copy.specs.Writing.{written}
use Rattle.shelves.specs.Items.{numbers, laid, items_at, offsets, uid_key, UidIn, Tabled}
use Rattle.shelves.specs.Spots.{there, taken, before, here, behind, Place, Found, EntryAt, EntryOf}
use Rattle.shelves.specs.Moves.{tabled_with, tabled_without}
use Rattle.shelves.specs.declared.finding.Extent.{Extent}
use Rattle.shelves.specs.declared.finding.Spot.{Spot}
use Rattle.shelves.specs.declared.finding.Entry.{Entry}
use Rattle.shelves.proofs.Walks.{entry_here}
use Rattle.shelves.specs.declared.table.Table.{Table}
use Rattle.shelves.proofs.Offsets.{table-with, table-without, table-bounds}
use Rattle.store.specs.Sections.{Sections, entities_at, used_of, table_at, header, layout, sections, Ordered, Good, Holds}
use Rattle.store.specs.Places.{header_row, Says, reopened}
use Rattle.store.specs.Changes.{Comes, item, with_entity, without_entity, EntityRoom}
use Rattle.store.specs.declared.layout.Header.{Header}
use Rattle.store.proofs.Reading.{held_after, header_is, says, entity-table, bounds}
use Rattle.store.proofs.Splices.{put, closed, whole_item}
use Rattle.store.proofs.Putting.{sums, laid-three, laid-with, length-with, kept-with, laid-without, length_without, sizes-without, kept-without, Change, entity-change}

-- ---- what the table asks for
pub record InsertNeeds (t : List ℕ) (spot : Spot) (from count new : ℕ) : Type 0 where
  pub within : spot.index + there spot ≤ count
  pub old : count ≤ length t
  pub room : count + 1 ≤ length t + there spot
  pub behind : (j : ℕ) → spot.index + there spot ≤ j → j < count → ((taken spot).numbers ≤ get_or t j 0) × (get_or t j 0 + new < 2 ^ 64)

pub record RemoveNeeds (t : List ℕ) (spot : Spot) (count : ℕ) : Type 0 where
  pub under : spot.index < count
  pub old : count ≤ length t
  pub behind : (j : ℕ) → spot.index < j → j < count → ((taken spot).numbers ≤ get_or t j 0) × (get_or t j 0 < 2 ^ 64)

-- ---- among the entities
module _ (m : List ℕ) (g : Good m) (h : Header) (k : Says (sections m) h) where
  from_is : get_or m 3 0 ≡ h.entities
  from_is = (says m g).entities-is ∙ sym k.entities-is

  count-is : get_or m 6 0 ≡ h.entity_count
  count-is = (says m g).entity-count-is ∙ sym k.entity-count-is

  module _ (t : Table) (f : t.from ≡ h.entities) (p : t.places ≡ table_at h.capacity) (n : t.count ≡ h.entity_count) where
    pub tabled : Tabled uid_key UidIn m t.from t.places t.count
    tabled =
        let a : get_or m 3 0 ≡ t.from = from_is ∙ sym f in
        let b : table_at (get_or m 0 0) ≡ t.places = ap table_at (sym k.capacity-is) ∙ sym p in
        let d : get_or m 6 0 ≡ t.count = count-is ∙ sym n in
        subst (λ z. Tabled uid_key UidIn m t.from t.places z) d
        (subst (λ z. Tabled uid_key UidIn m t.from z (get_or m 6 0)) b (subst (λ z. Tabled uid_key UidIn m z (table_at (get_or m 0 0)) (get_or m 6 0)) a (entity-table m g)))

    items-are : items_at m t.from t.count ≡ (sections m).entities
    items-are = ap₂ (λ p n. items_at m p n) (f ∙ sym from_is) (n ∙ sym count-is)

    pub ends : h.used ≡ t.from + length (laid (items_at m t.from t.count))
    ends = let a = ap (λ l. length (laid l)) items-are in omega (arith, k.used-is, k.entities-is)

    pub found : (u : Text) (spot : Spot) → Found uid_key t.from (items_at m t.from t.count) u spot → Found uid_key (entities_at (sections m)) (sections m).entities u spot
    found u spot x =
        subst (λ xs. Found uid_key (entities_at (sections m)) xs u spot) items-are (subst (λ p. Found uid_key p (items_at m t.from t.count) u spot) (f ∙ k.entities-is) x)

    pub entry-is : (j : ℕ) → j < t.count → (at : ℕ) → at ≡ t.from + length (laid (take j (items_at m t.from t.count))) → (e : Entry) → EntryAt m at e → EntryOf m (entities_at (sections m)) (sections m).entities j e
    entry-is j l at a e x =
        subst (λ xs. EntryOf m (entities_at (sections m)) xs j e) items-are
        (subst (λ p. EntryOf m p (items_at m t.from t.count) j e) (f ∙ k.entities-is) (entry_here uid_key UidIn m t.from t.count [] tabled.shelf j l at a e x))

  -- ---- the store in parts
  abbrev B : Spot → List ℕ
  B spot = laid (before spot (sections m).entities)

  abbrev A : Spot → List ℕ
  A spot = laid (behind spot (sections m).entities)

  abbrev S : List ℕ
  S = (sections m).schema ++ laid (sections m).policies

  -- ---- memory under a new table
  module _ (b : ℕ) (bt : b ≡ table_at h.capacity) (T : List ℕ) (tl : length T ≡ length (take (length m - b) (drop b m))) where
    abbrev pub under : List ℕ
    under = put_mid b (length m - b) m T

    b-is : b ≡ table_at (sections m).capacity
    b-is = bt ∙ ap table_at k.capacity-is

    pub b-fits : b ≤ length m
    b-fits = let f = g.fits in omega (arith, b-is)

    T-long : length T ≡ length m - b
    T-long = tl ∙ ap length (take_rest m b) ∙ length-drop b m

    under-is : under ≡ take b m ++ T
    under-is =
        let e : drop (length m - b) (drop b m) ≡ [] = drop_all (length m - b) (drop b m) (let d = length-drop b m in omega arith) in
        ap (λ l. take b m ++ (T ++ l)) e ∙ ap (λ l. take b m ++ l) (append-nil T)

    pub under-long : length under ≡ length m
    under-long = ap length under-is ∙ length-append (take b m) T ∙ (let a = length-take-le b m b-fits in let c = T-long in let d = b-fits in omega arith)

    pub under_back : drop (table_at (sections m).capacity) under ≡ T
    under_back = ap (λ n. drop n under) (sym b-is) ∙ ap (drop b) under-is ∙ drop_at (take b m) T b (length-take-le b m b-fits)

    flat : (H X P E R : List ℕ) → H ++ (X ++ (P ++ (E ++ R))) ≡ (H ++ (X ++ (P ++ E))) ++ R
    flat H X P E R = simp append_assoc

    under-layout : (R : List ℕ) → R ≡ take (b - used_of (sections m)) g.rest → under ≡ layout (sections m) (R ++ T)
    under-layout R r =
        let s : Sections = sections m in
        let L : List ℕ = header s ++ (s.schema ++ (laid s.policies ++ laid s.entities)) in
        let o = (bounds s g.ordered).room in
        let q = b-is in
        let n = length-append s.schema (laid s.policies ++ laid s.entities) in
        let w = length-append (laid s.policies) (laid s.entities) in
        let ll : length L ≡ used_of s = omega arith in
        let e : b ≡ used_of s + (b - used_of s) = omega arith in
        let f : m ≡ L ++ g.rest = g.is ∙ flat (header s) s.schema (laid s.policies) (laid s.entities) g.rest in
        let t : take b m ≡ L ++ R =
        ap (λ n. take n m) e ∙ take-add (used_of s) (b - used_of s) m
        ∙ ap₂ (λ x y. x ++ take (b - used_of s) y) (ap (take (used_of s)) f ∙ take_at L g.rest (used_of s) ll) (ap (drop (used_of s)) f ∙ drop_at L g.rest (used_of s) ll)
        ∙ ap (λ l. L ++ l) (sym r) in
        under-is ∙ ap (λ l. l ++ T) t ∙ append_assoc L R T ∙ sym (flat (header s) s.schema (laid s.policies) (laid s.entities) (R ++ T))

    regroup : (H X P E R : List ℕ) → H ++ (X ++ (P ++ (E ++ R))) ≡ H ++ ((X ++ P) ++ (E ++ R))
    regroup H X P E R = simp append_assoc

    parts : (spot : Spot) → Place (entities_at (sections m)) (sections m).entities spot →
        under ≡ header (sections m) ++ (S ++ ((B spot ++ (laid (here spot (sections m).entities) ++ A spot)) ++ ([] ++ (take (b - used_of (sections m)) g.rest ++ T))))
    parts spot p =
        let R : List ℕ = take (b - used_of (sections m)) g.rest ++ T in
        under-layout (take (b - used_of (sections m)) g.rest) refl
        ∙ regroup (header (sections m)) (sections m).schema (laid (sections m).policies) (laid (sections m).entities) R
        ∙ ap (λ l. header (sections m) ++ (S ++ (l ++ R))) (laid-three (entities_at (sections m)) (sections m).entities spot p)

  table_is : (b : ℕ) → b ≡ table_at h.capacity → drop b m ≡ offsets 0 (sections m).entities ++ g.behind
  table_is b e = ap (λ n. drop n m) (e ∙ ap table_at k.capacity-is) ∙ g.table

  -- ---- one comes
  abbrev pub header-with : Spot → ℕ → ℕ → ℕ → Header
  header-with spot gone n z = record {
    capacity = h.capacity;
    size = h.size - (taken spot).size + z;
    policies = h.policies;
    entities = h.entities;
    used = h.used - (taken spot).numbers + (2 + n);
    policy_count = h.policy_count;
    entity_count = h.entity_count - gone + 1;
    schema_size = h.schema_size;
    unfit = h.unfit;
    missing = h.missing;
  }

  -- the header that the code makes
  abbrev summed : Extent → ℕ → ℕ → Header
  summed x n z = record h { size = h.size - x.size + z; used = h.used - x.numbers + n }

  pub with-after : (spot : Spot) (n z gone : ℕ) (old : Extent) (w : Header) → old ≡ taken spot → w ≡ summed old (2 + n) z → record w { entity_count = h.entity_count - gone + 1 } ≡ header-with spot gone n z
  with-after spot n z gone old w q e =
      let put : Header → Header = λ w. record w { entity_count = h.entity_count - gone + 1 } in
      ap put e ∙ ap (λ (x : Extent). put (summed x (2 + n) z)) q

  pub changes : (spot : Spot) (n z : ℕ) → Comes (sections m) (entities_at (sections m)) (sections m).entities spot n z → Change m h spot (2 + n) z × (h.entities ≤ spot.at) × (there spot ≤ h.entity_count)
      × (2 * h.entity_count + (taken spot).size ≤ h.size + 2 * there spot)
  changes spot n z c = entity-change m g h k spot (2 + n) z (let a = c.bounded in let b = c.least in omega arith) c.fits c.place

  module _ (spot : Spot) (n z gone : ℕ) (c : Comes (sections m) (entities_at (sections m)) (sections m).entities spot n z) (e : gone ≡ there spot) (b : ℕ) (bt : b ≡ table_at h.capacity) where
    pub insert-needs : InsertNeeds (take (length m - b) (drop b m)) spot h.entities h.entity_count (2 + n)
    insert-needs = subst (λ t. InsertNeeds t spot h.entities h.entity_count (2 + n)) (sym (take_rest m b)) here-needs
      where
        bounded-here : (j : ℕ) → spot.index + there spot ≤ j → j < h.entity_count → ((taken spot).numbers ≤ get_or (drop b m) j 0) × (get_or (drop b m) j 0 + (2 + n) < 2 ^ 64)
        bounded-here j lo hi =
            let w = changes spot n z c in
            let q = k.entity-count-is in
            let d = table-bounds (entities_at (sections m)) (sections m).entities spot (drop b m) g.behind (table_is b bt) c.place j (omega arith) (omega arith) in
            let a = k.used-is in
            let r = bounds (sections m) g.ordered in
            (d.0, omega (arith, d.1, r.room, r.limit, w.0.used-new, w.0.limit, w.0.within))

        here-needs : InsertNeeds (drop b m) spot h.entities h.entity_count (2 + n)
        here-needs =
            let w = changes spot n z c in
            let l = length-drop b m in
            let p = c.place.within in
            let q = k.entity-count-is in
            let f = c.fits in
            let x = c.least in
            let y = k.size_is in
            let o = k.capacity-is in
            let v = w.0.used-long in
            let r = w.0.few-entities in
            record { within = omega arith; old = omega arith; room = omega arith; behind = bounded-here }

    -- the table and the memory with it
    module _ (T : List ℕ) (tl : length T ≡ length (take (length m - b) (drop b m))) (te : T ≡ tabled_with (take (length m - b) (drop b m)) spot.index (there spot) h.entity_count (spot.at - h.entities) (taken spot).numbers (2 + n)) where
      module _ (row : List ℕ) (l : length row ≡ n) (f : Found uid_key (entities_at (sections m)) (sections m).entities (uid_key (item z row)) spot) where
        abbrev s' : Sections
        s' = with_entity (item z row) (sections m)

        table-after : T ≡ offsets 0 s'.entities ++ drop (spot.index + 1 + (h.entity_count - (spot.index + there spot))) (drop b m)
        table-after =
            let a = k.entities-is in
            let w = changes spot n z c in
            let p = c.place.at-is in
            te ∙ ap (λ t. tabled_with t spot.index (there spot) h.entity_count (spot.at - h.entities) (taken spot).numbers (2 + n)) (take_rest m b)
            ∙ table-with (entities_at (sections m)) (sections m).entities spot (drop b m) g.behind (table_is b bt) c.place (item z row) h.entity_count (spot.at - h.entities) (2 + n) k.entity-count-is (omega arith) (omega arith)
            ∙ ap (λ xs. offsets 0 xs ++ drop (spot.index + 1 + (h.entity_count - (spot.index + there spot))) (drop b m)) (sym (f.puts (item z row) refl))

        long-with : length (laid (insert uid_key (item z row) (sections m).entities)) ≡ length (B spot) + (2 + n + length (A spot))
        long-with =
            let a = ap length (laid-with uid_key UidIn (entities_at (sections m)) (sections m).entities spot (item z row) f) in
            let b = length-append (B spot) (numbers (item z row) ++ A spot) in
            let d = length-append row (A spot) in
            omega arith

        says-with : Says s' (header-with spot gone n z)
        says-with =
            let a = sums (entities_at (sections m)) (sections m).entities spot c.place in
            let b = f.weighs (item z row) refl in
            let d = long-with in
            let j = length-with uid_key UidIn (entities_at (sections m)) (sections m).entities spot (item z row) f in
            let q = changes spot n z c in
            record {
              capacity-is = k.capacity-is;
              size_is = omega arith;
              policies-is = k.policies-is;
              entities-is = k.entities-is;
              used-is = omega arith;
              policy-count-is = k.policy-count-is;
              entity-count-is = omega arith;
              schema-size-is = k.schema-size-is;
              unfit-is = k.unfit-is;
              missing-is = k.missing-is;
            }

        ordered-with : UidIn (item z row) → Ordered s'
        ordered-with i =
            let o = g.ordered in
            let b = f.weighs (item z row) refl in
            let d = c.fits in
            record {
              policies-ordered = o.policies-ordered;
              entities-ordered = ascending-insert uid_key (item z row) (sections m).entities o.entities-ordered;
              policies-kept = o.policies-kept;
              entities-kept = kept-with uid_key UidIn (entities_at (sections m)) (sections m).entities spot (item z row) f (record { key = i; bounded = (let a = c.bounded in omega arith); least = c.least }) o.entities-kept;
              schema-bounded = o.schema-bounded;
              small = omega arith;
              least = o.least;
              limit = o.limit;
            }

        with-is : (M : List ℕ) → M ≡ reopened (under b bt T tl) (header-with spot gone n z) spot.at (taken spot).numbers (2 + n) h.used → written M spot.at (numbers (item z row)) ≡ layout s' (drop (used_of s') (under b bt T tl))
        with-is M q =
            let N : List ℕ = numbers (item z row) in
            let D : List ℕ = drop (spot.at + (2 + n) + (length (A spot) + 0)) (under b bt T tl) in
            let a = sums (entities_at (sections m)) (sections m).entities spot c.place in
            let w = changes spot n z c in
            let d = long-with in
            let u = says-with.used-is in
            let y = under-long b bt T tl in
            let x = length-append (sections m).schema (laid (sections m).policies) in
            let v : spot.at + (2 + n) + (length (A spot) + 0) ≡ used_of s' = omega arith in
            ap (λ x. written x spot.at N) q
            ∙ put (header (sections m)) (header_row (header-with spot gone n z)) S (B spot) (laid (here spot (sections m).entities)) (A spot) [] (take (b - used_of (sections m)) g.rest ++ T) (under b bt T tl) spot.at (taken spot).numbers (2 + n) h.used
            (parts b bt T tl spot c.place) refl refl (omega arith) a.old-here (omega arith) (omega arith) N (omega arith)
            ∙ ap (λ x. x ++ (S ++ ((B spot ++ (N ++ A spot)) ++ D))) (header_is s' (header-with spot gone n z) says-with)
            ∙ ap (λ x. header s' ++ (S ++ (x ++ D))) (sym (laid-with uid_key UidIn (entities_at (sections m)) (sections m).entities spot (item z row) f))
            ∙ sym (regroup b bt T tl (header s') (sections m).schema (laid (sections m).policies) (laid s'.entities) D)
            ∙ ap (λ x. layout s' (drop x (under b bt T tl))) v

      pub room : (M N : List ℕ) (to : ℕ) → M ≡ reopened (under b bt T tl) (header-with spot gone n z) spot.at (taken spot).numbers (2 + n) h.used → length M ≡ length (under b bt T tl) → N ≡ set (set M spot.at n) (spot.at + 1) z → to ≡ spot.at + 2 → length N ≡ length (under b bt T tl) →
          EntityRoom (sections m) N spot n z to
      room M N to q lm w t ln =
          let a = changes spot n z c in
          let y = under-long b bt T tl in
          record {
            fits = omega arith;
            holds = λ row l i f.
                held_after (with_entity (item z row) (sections m)) (under b bt T tl) (written N to row) (drop (spot.index + 1 + (h.entity_count - (spot.index + there spot))) (drop b m))
                (ap (λ x. written x to row) w ∙ ap (λ x. written (set (set M spot.at n) (spot.at + 1) z) x row) t ∙ whole_item M spot.at n z row (omega arith)
                ∙ ap (λ x. written M spot.at (x ∷ (z ∷ row))) (sym l) ∙ with-is row l f M q)
                (ordered-with row l f i) (under_back b bt T tl ∙ table-after row l f) (let x = g.fits in omega arith);
          }

  -- ---- one goes
  abbrev pub header-without : Spot → Header
  header-without spot = record {
    capacity = h.capacity;
    size = h.size - (taken spot).size;
    policies = h.policies;
    entities = h.entities;
    used = h.used - (taken spot).numbers;
    policy_count = h.policy_count;
    entity_count = h.entity_count - 1;
    schema_size = h.schema_size;
    unfit = h.unfit;
    missing = h.missing;
  }

  pub without-after : (spot : Spot) (old : Extent) (w : Header) → old ≡ taken spot → w ≡ summed old 0 0 → record w { entity_count = h.entity_count - 1 } ≡ header-without spot
  without-after spot old w q e =
      let put : Header → Header = λ w. record w { entity_count = h.entity_count - 1 } in
      let x : Extent = taken spot in
      let a : h.size - x.size + 0 ≡ h.size - x.size = omega arith in
      let b : h.used - x.numbers + 0 ≡ h.used - x.numbers = omega arith in
      ap put e ∙ ap (λ (x : Extent). put (summed x 0 0)) q
      ∙ ap (λ (z : ℕ). put (record h { size = z; used = h.used - x.numbers + 0 })) a ∙ ap (λ (u : ℕ). put (record h { size = h.size - x.size; used = u })) b

  module _ (spot : Spot) (p : Place (entities_at (sections m)) (sections m).entities spot) (one : there spot ≡ 1) where
    pub changes-without : Change m h spot 0 0 × (h.entities ≤ spot.at) × (there spot ≤ h.entity_count) × (2 * h.entity_count + (taken spot).size ≤ h.size + 2 * there spot)
    changes-without = entity-change m g h k spot 0 0 (omega arith) (let a = g.ordered.small in omega arith) p

    module _ (b : ℕ) (bt : b ≡ table_at h.capacity) where
      pub remove-needs : RemoveNeeds (take (length m - b) (drop b m)) spot h.entity_count
      remove-needs = subst (λ t. RemoveNeeds t spot h.entity_count) (sym (take_rest m b)) here-needs
        where
          bounded-here : (j : ℕ) → spot.index < j → j < h.entity_count → ((taken spot).numbers ≤ get_or (drop b m) j 0) × (get_or (drop b m) j 0 < 2 ^ 64)
          bounded-here j lo hi =
              let q = k.entity-count-is in
              let d = table-bounds (entities_at (sections m)) (sections m).entities spot (drop b m) g.behind (table_is b bt) p j (omega arith) (omega arith) in
              let a = k.used-is in
              let r = bounds (sections m) g.ordered in
              (d.0, omega (arith, d.1, r.room, r.limit))

          here-needs : RemoveNeeds (drop b m) spot h.entity_count
          here-needs =
              let w = changes-without in
              let l = length-drop b m in
              let v = p.within in
              let q = k.entity-count-is in
              record { under = omega arith; old = omega (arith, w.0.used-long, w.0.few-entities, w.0.size_small); behind = bounded-here }

      module _ (T : List ℕ) (tl : length T ≡ length (take (length m - b) (drop b m))) (te : T ≡ tabled_without (take (length m - b) (drop b m)) spot.index h.entity_count (taken spot).numbers)
          (t : Text) (f : Found uid_key (entities_at (sections m)) (sections m).entities t spot) where
        abbrev s'' : Sections
        s'' = without_entity t (sections m)

        table-left : T ≡ offsets 0 s''.entities ++ drop (spot.index + (h.entity_count - (spot.index + 1))) (drop b m)
        table-left =
            te ∙ ap (λ t. tabled_without t spot.index h.entity_count (taken spot).numbers) (take_rest m b)
            ∙ table-without (entities_at (sections m)) (sections m).entities spot (drop b m) g.behind (table_is b bt) p h.entity_count k.entity-count-is (omega arith)
            ∙ ap (λ xs. offsets 0 xs ++ drop (spot.index + (h.entity_count - (spot.index + 1))) (drop b m)) (sym f.removes)

        long-without : length (laid (remove uid_key t (sections m).entities)) ≡ length (B spot) + length (A spot)
        long-without = ap length (laid-without uid_key UidIn (entities_at (sections m)) (sections m).entities spot t f) ∙ length-append (B spot) (A spot)

        says-without : Says s'' (header-without spot)
        says-without =
            let a = sums (entities_at (sections m)) (sections m).entities spot p in
            let b = sizes-without uid_key UidIn (entities_at (sections m)) (sections m).entities spot t f in
            let d = long-without in
            let j = length_without uid_key UidIn (entities_at (sections m)) (sections m).entities spot t f in
            let q = changes-without in
            record {
              capacity-is = k.capacity-is;
              size_is = omega arith;
              policies-is = k.policies-is;
              entities-is = k.entities-is;
              used-is = omega arith;
              policy-count-is = k.policy-count-is;
              entity-count-is = omega arith;
              schema-size-is = k.schema-size-is;
              unfit-is = k.unfit-is;
              missing-is = k.missing-is;
            }

        ordered-without : Ordered s''
        ordered-without =
            let o = g.ordered in
            let b = sizes-without uid_key UidIn (entities_at (sections m)) (sections m).entities spot t f in
            record {
              policies-ordered = o.policies-ordered;
              entities-ordered = ascending-remove uid_key t (sections m).entities o.entities-ordered;
              policies-kept = o.policies-kept;
              entities-kept = kept-without uid_key UidIn (entities_at (sections m)) (sections m).entities spot t f o.entities-kept;
              schema-bounded = o.schema-bounded;
              small = omega arith;
              least = o.least;
              limit = o.limit;
            }

        pub gone : (M : List ℕ) → M ≡ reopened (under b bt T tl) (header-without spot) spot.at (taken spot).numbers 0 h.used → Holds M s''
        gone M q =
            let D : List ℕ = drop (spot.at + 0 + (length (A spot) + 0)) (under b bt T tl) in
            let a = sums (entities_at (sections m)) (sections m).entities spot p in
            let w = changes-without in
            let d = long-without in
            let u = says-without.used-is in
            let y = under-long b bt T tl in
            let x = length-append (sections m).schema (laid (sections m).policies) in
            let v : spot.at + 0 + (length (A spot) + 0) ≡ used_of s'' = omega arith in
            held_after s'' (under b bt T tl) M (drop (spot.index + (h.entity_count - (spot.index + 1))) (drop b m))
            (q
            ∙ closed (header (sections m)) (header_row (header-without spot)) S (B spot) (laid (here spot (sections m).entities)) (A spot) [] (take (b - used_of (sections m)) g.rest ++ T) (under b bt T tl) spot.at (taken spot).numbers 0 h.used
            (parts b bt T tl spot p) refl refl (omega arith) a.old-here (omega arith) (omega arith) refl
            ∙ ap (λ x. x ++ (S ++ ((B spot ++ A spot) ++ D))) (header_is s'' (header-without spot) says-without)
            ∙ ap (λ x. header s'' ++ (S ++ (x ++ D))) (sym (laid-without uid_key UidIn (entities_at (sections m)) (sections m).entities spot t f))
            ∙ sym (regroup b bt T tl (header s'') (sections m).schema (laid (sections m).policies) (laid s''.entities) D)
            ∙ ap (λ x. layout s'' (drop x (under b bt T tl))) v)
            ordered-without (under_back b bt T tl ∙ table-left) (let x = g.fits in omega arith)
