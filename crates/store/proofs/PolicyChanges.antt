-- The store as a policy comes or goes.
use Rattle.std.proofs.Common.{◌≡◌, ℕ, ◌+◌, ◌-◌, ◌<◌, ◌≤◌, List, [], ◌∷◌, ◌++◌, length, get_or, take, drop, set, sym, refl, ap, ◌∙◌, subst, ap₂, arith}
use Rattle.std.proofs.lemmas.List.{length-append}
use Rattle.spec.specs.Basics.{Text, insert, remove}
use Rattle.laws.proofs.Stores.{ascending-insert, ascending-remove}
use Rattle.copy.specs.Writing.{written}
use Rattle.shelves.specs.Items.{numbers, laid, items_at, id_key, IdIn, Shelf}
use Rattle.shelves.specs.Spots.{there, taken, before, here, behind, Place, Found, EntryAt, EntryOf}
use Rattle.shelves.specs.declared.finding.Extent.{Extent}
use Rattle.shelves.specs.declared.finding.Spot.{Spot}
use Rattle.shelves.specs.declared.finding.Entry.{Entry}
use Rattle.shelves.proofs.Walks.{fits-here, entry_here}
use Rattle.store.specs.Sections.{Sections, policies_at, used_of, header, layout, sections, Ordered, Good, Holds}
use Rattle.store.specs.Places.{header_row, Says, reopened}
use Rattle.store.specs.Changes.{Begins, Comes, item, with_policy, without_policy, PolicyRoom}
use Rattle.store.specs.declared.layout.Header.{Header}
use Rattle.store.proofs.Reading.{held_after, header_is, says, policy-shelf}
use Rattle.store.proofs.Splices.{put, closed, whole_item}
use Rattle.store.proofs.Putting.{sums, laid-three, laid-with, length-with, kept-with, laid-without, length_without, sizes-without, kept-without, Change, policy-change}

-- ---- among the policies
module _ (m : List ℕ) (g : Good m) (h : Header) (k : Says (sections m) h) where
  from_is : get_or m 2 0 ≡ h.policies
  from_is = (says m g).policies-is ∙ sym k.policies-is

  count-is : get_or m 5 0 ≡ h.policy_count
  count-is = (says m g).policy-count-is ∙ sym k.policy-count-is

  pub shelf : Shelf id_key IdIn m h.policies h.policy_count
  shelf = subst (λ n. Shelf id_key IdIn m h.policies n) count-is (subst (λ p. Shelf id_key IdIn m p (get_or m 5 0)) from_is (policy-shelf m g))

  pub found : (t : Text) (spot : Spot) → Found id_key h.policies (items_at m h.policies h.policy_count) t spot → Found id_key (policies_at (sections m)) (sections m).policies t spot
  found t spot f =
      let e : items_at m h.policies h.policy_count ≡ (sections m).policies = ap₂ (λ p n. items_at m p n) (sym from_is) (sym count-is) in
      subst (λ xs. Found id_key (policies_at (sections m)) xs t spot) e (subst (λ p. Found id_key p (items_at m h.policies h.policy_count) t spot) k.policies-is f)

  -- ---- the store in parts
  abbrev B : Spot → List ℕ
  B spot = laid (before spot (sections m).policies)

  abbrev A : Spot → List ℕ
  A spot = laid (behind spot (sections m).policies)

  abbrev E : List ℕ
  E = laid (sections m).entities

  parts : (spot : Spot) → Place (policies_at (sections m)) (sections m).policies spot →
      m ≡ header (sections m) ++ ((sections m).schema ++ ((B spot ++ (laid (here spot (sections m).policies) ++ A spot)) ++ (E ++ g.rest)))
  parts spot p = g.is ∙ ap (λ l. header (sections m) ++ ((sections m).schema ++ (l ++ (E ++ g.rest)))) (laid-three (policies_at (sections m)) (sections m).policies spot p)

  -- ---- one comes
  abbrev pub header-with : Spot → ℕ → ℕ → ℕ → Header
  header-with spot gone n z = record {
    capacity = h.capacity;
    size = h.size - (taken spot).size + z;
    policies = h.policies;
    entities = h.entities - (taken spot).numbers + (2 + n);
    used = h.used - (taken spot).numbers + (2 + n);
    policy_count = h.policy_count - gone + 1;
    entity_count = h.entity_count;
    schema_size = h.schema_size;
    unfit = h.unfit;
    missing = h.missing;
  }

  -- the header that the code makes
  abbrev summed : Extent → ℕ → ℕ → Header
  summed x n z = record h { size = h.size - x.size + z; used = h.used - x.numbers + n }

  abbrev after-with : Header → Extent → ℕ → ℕ → Header
  after-with w x gone n = record w { entities = h.entities - x.numbers + (2 + n); policy_count = h.policy_count - gone + 1 }

  pub with-after : (spot : Spot) (n z gone : ℕ) (old : Extent) (w : Header) → old ≡ taken spot → w ≡ summed old (2 + n) z → after-with w old gone n ≡ header-with spot gone n z
  with-after spot n z gone old w q e =
      ap (λ (w : Header). after-with w old gone n) e ∙ ap (λ (x : Extent). after-with (summed x (2 + n) z) x gone n) q

  pub changes : (spot : Spot) (n z : ℕ) → Comes (sections m) (policies_at (sections m)) (sections m).policies spot n z → Change m h spot (2 + n) z × (spot.at + (taken spot).numbers ≤ h.entities) × (there spot ≤ h.policy_count)
  changes spot n z c = policy-change m g h k spot (2 + n) z (let a = c.bounded in let b = c.least in omega arith) c.fits c.place

  module _ (spot : Spot) (n z gone : ℕ) (c : Comes (sections m) (policies_at (sections m)) (sections m).policies spot n z) (e : gone ≡ there spot) where
    module _ (row : List ℕ) (l : length row ≡ n) (f : Found id_key (policies_at (sections m)) (sections m).policies (id_key (item z row)) spot) where
      abbrev s' : Sections
      s' = with_policy (item z row) (sections m)

      long-with : length (laid (insert id_key (item z row) (sections m).policies)) ≡ length (B spot) + (2 + n + length (A spot))
      long-with =
          let a = ap length (laid-with id_key IdIn (policies_at (sections m)) (sections m).policies spot (item z row) f) in
          let b = length-append (B spot) (numbers (item z row) ++ A spot) in
          let d = length-append row (A spot) in
          omega arith

      says-with : Says s' (header-with spot gone n z)
      says-with =
          let a = sums (policies_at (sections m)) (sections m).policies spot c.place in
          let b = f.weighs (item z row) refl in
          let d = long-with in
          let j = length-with id_key IdIn (policies_at (sections m)) (sections m).policies spot (item z row) f in
          let q = changes spot n z c in
          record {
            capacity-is = k.capacity-is;
            size_is = omega arith;
            policies-is = k.policies-is;
            entities-is = omega arith;
            used-is = omega arith;
            policy-count-is = omega arith;
            entity-count-is = k.entity-count-is;
            schema-size-is = k.schema-size-is;
            unfit-is = k.unfit-is;
            missing-is = k.missing-is;
          }

      ordered-with : IdIn (item z row) → Ordered s'
      ordered-with i =
          let o = g.ordered in
          let b = f.weighs (item z row) refl in
          let d = c.fits in
          record {
            policies-ordered = ascending-insert id_key (item z row) (sections m).policies o.policies-ordered;
            entities-ordered = o.entities-ordered;
            policies-kept = kept-with id_key IdIn (policies_at (sections m)) (sections m).policies spot (item z row) f (record { key = i; bounded = (let a = c.bounded in omega arith); least = c.least }) o.policies-kept;
            entities-kept = o.entities-kept;
            schema-bounded = o.schema-bounded;
            small = omega arith;
            least = o.least;
            limit = o.limit;
          }

      with-is : (M : List ℕ) → M ≡ reopened m (header-with spot gone n z) spot.at (taken spot).numbers (2 + n) h.used → written M spot.at (numbers (item z row)) ≡ layout s' (drop (used_of s') m)
      with-is M q =
          let a = sums (policies_at (sections m)) (sections m).policies spot c.place in
          let w = changes spot n z c in
          let d = long-with in
          let u = says-with.used-is in
          let v : spot.at + (2 + n) + (length (A spot) + length E) ≡ used_of s' = omega arith in
          ap (λ x. written x spot.at (numbers (item z row))) q
          ∙ put (header (sections m)) (header_row (header-with spot gone n z)) (sections m).schema (B spot) (laid (here spot (sections m).policies)) (A spot) E g.rest m spot.at (taken spot).numbers (2 + n) h.used
          (parts spot c.place) refl refl (omega arith) a.old-here (omega arith) (omega arith) (numbers (item z row)) (omega arith)
          ∙ ap (λ x. x ++ ((sections m).schema ++ ((B spot ++ (numbers (item z row) ++ A spot)) ++ (E ++ drop (spot.at + (2 + n) + (length (A spot) + length E)) m)))) (header_is s' (header-with spot gone n z) says-with)
          ∙ ap (λ x. header s' ++ ((sections m).schema ++ (x ++ (E ++ drop (spot.at + (2 + n) + (length (A spot) + length E)) m)))) (sym (laid-with id_key IdIn (policies_at (sections m)) (sections m).policies spot (item z row) f))
          ∙ ap (λ x. layout s' (drop x m)) v

    pub room : (M N : List ℕ) (to : ℕ) → M ≡ reopened m (header-with spot gone n z) spot.at (taken spot).numbers (2 + n) h.used → length M ≡ length m → N ≡ set (set M spot.at n) (spot.at + 1) z → to ≡ spot.at + 2 → length N ≡ length m →
        PolicyRoom (sections m) N spot n z to
    room M N to q lm w t ln =
        let a = changes spot n z c in
        record {
          fits = omega arith;
          holds = λ row l i f.
              held_after (with_policy (item z row) (sections m)) m (written N to row) g.behind
              (ap (λ x. written x to row) w ∙ ap (λ x. written (set (set M spot.at n) (spot.at + 1) z) x row) t ∙ whole_item M spot.at n z row (omega arith)
              ∙ ap (λ x. written M spot.at (x ∷ (z ∷ row))) (sym l) ∙ with-is row l f M q)
              (ordered-with row l f i) g.table g.fits;
        }

  -- ---- one goes
  abbrev pub header-without : Spot → Header
  header-without spot = record {
    capacity = h.capacity;
    size = h.size - (taken spot).size;
    policies = h.policies;
    entities = h.entities - (taken spot).numbers;
    used = h.used - (taken spot).numbers;
    policy_count = h.policy_count - 1;
    entity_count = h.entity_count;
    schema_size = h.schema_size;
    unfit = h.unfit;
    missing = h.missing;
  }

  abbrev after-without : Header → Extent → Header
  after-without w x = record w { entities = h.entities - x.numbers; policy_count = h.policy_count - 1 }

  pub without-after : (spot : Spot) (old : Extent) (w : Header) → old ≡ taken spot → w ≡ summed old 0 0 → after-without w old ≡ header-without spot
  without-after spot old w q e =
      let x : Extent = taken spot in
      let a : h.size - x.size + 0 ≡ h.size - x.size = omega arith in
      let b : h.used - x.numbers + 0 ≡ h.used - x.numbers = omega arith in
      ap (λ (w : Header). after-without w old) e ∙ ap (λ (x : Extent). after-without (summed x 0 0) x) q
      ∙ ap (λ (z : ℕ). after-without (record h { size = z; used = h.used - x.numbers + 0 }) x) a ∙ ap (λ (u : ℕ). after-without (record h { size = h.size - x.size; used = u }) x) b

  module _ (spot : Spot) (p : Place (policies_at (sections m)) (sections m).policies spot) (one : there spot ≡ 1) where
    pub changes-without : Change m h spot 0 0 × (spot.at + (taken spot).numbers ≤ h.entities) × (there spot ≤ h.policy_count)
    changes-without = policy-change m g h k spot 0 0 (omega arith) (let a = g.ordered.small in omega arith) p

    module _ (t : Text) (f : Found id_key (policies_at (sections m)) (sections m).policies t spot) where
      abbrev s'' : Sections
      s'' = without_policy t (sections m)

      long-without : length (laid (remove id_key t (sections m).policies)) ≡ length (B spot) + length (A spot)
      long-without = ap length (laid-without id_key IdIn (policies_at (sections m)) (sections m).policies spot t f) ∙ length-append (B spot) (A spot)

      says-without : Says s'' (header-without spot)
      says-without =
          let a = sums (policies_at (sections m)) (sections m).policies spot p in
          let b = sizes-without id_key IdIn (policies_at (sections m)) (sections m).policies spot t f in
          let d = long-without in
          let j = length_without id_key IdIn (policies_at (sections m)) (sections m).policies spot t f in
          let q = changes-without in
          record {
            capacity-is = k.capacity-is;
            size_is = omega arith;
            policies-is = k.policies-is;
            entities-is = omega arith;
            used-is = omega arith;
            policy-count-is = omega arith;
            entity-count-is = k.entity-count-is;
            schema-size-is = k.schema-size-is;
            unfit-is = k.unfit-is;
            missing-is = k.missing-is;
          }

      ordered-without : Ordered s''
      ordered-without =
          let o = g.ordered in
          let b = sizes-without id_key IdIn (policies_at (sections m)) (sections m).policies spot t f in
          record {
            policies-ordered = ascending-remove id_key t (sections m).policies o.policies-ordered;
            entities-ordered = o.entities-ordered;
            policies-kept = kept-without id_key IdIn (policies_at (sections m)) (sections m).policies spot t f o.policies-kept;
            entities-kept = o.entities-kept;
            schema-bounded = o.schema-bounded;
            small = omega arith;
            least = o.least;
            limit = o.limit;
          }

      pub gone : (M : List ℕ) → M ≡ reopened m (header-without spot) spot.at (taken spot).numbers 0 h.used → Holds M s''
      gone M q =
          let a = sums (policies_at (sections m)) (sections m).policies spot p in
          let w = changes-without in
          let d = long-without in
          let u = says-without.used-is in
          let v : spot.at + 0 + (length (A spot) + length E) ≡ used_of s'' = omega arith in
          held_after s'' m M g.behind
          (q
          ∙ closed (header (sections m)) (header_row (header-without spot)) (sections m).schema (B spot) (laid (here spot (sections m).policies)) (A spot) E g.rest m spot.at (taken spot).numbers 0 h.used
          (parts spot p) refl refl (omega arith) a.old-here (omega arith) (omega arith) refl
          ∙ ap (λ x. x ++ ((sections m).schema ++ ((B spot ++ A spot) ++ (E ++ drop (spot.at + 0 + (length (A spot) + length E)) m)))) (header_is s'' (header-without spot) says-without)
          ∙ ap (λ x. header s'' ++ ((sections m).schema ++ (x ++ (E ++ drop (spot.at + 0 + (length (A spot) + length E)) m)))) (sym (laid-without id_key IdIn (policies_at (sections m)) (sections m).policies spot t f))
          ∙ ap (λ x. layout s'' (drop x m)) v)
          ordered-without g.table g.fits

-- ---- one after the other
module _ (m : List ℕ) (g : Good m) (k at : ℕ) (b : Begins (policies_at (sections m)) (sections m).policies k at) where
  start_is : get_or m 2 0 ≡ policies_at (sections m)
  start_is = (says m g).policies-is

  under-count : k < get_or m 5 0
  under-count = omega (arith, b.under, (says m g).policy-count-is)

  place_is : at ≡ get_or m 2 0 + length (laid (take k (sections m).policies))
  place_is = omega (arith, b.is, start_is)

  pub entry-fits : at + 2 + get_or m at 0 ≤ length m
  entry-fits = fits-here id_key IdIn m (get_or m 2 0) (get_or m 5 0) [] (policy-shelf m g) k under-count at place_is

  pub entry-is : (e : Entry) → EntryAt m at e → EntryOf m (policies_at (sections m)) (sections m).policies k e
  entry-is e a = subst (λ p. EntryOf m p (sections m).policies k e) start_is (entry_here id_key IdIn m (get_or m 2 0) (get_or m 5 0) [] (policy-shelf m g) k under-count at place_is e a)
