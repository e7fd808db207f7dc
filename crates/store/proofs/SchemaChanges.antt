-- The store as a schema comes in place of another.
use Rattle.std.proofs.Common.{◌≡◌, ℕ, ◌+◌, ◌-◌, ◌≤◌, List, [], ◌++◌, length, drop, sym, refl, ap, ◌∙◌, append_assoc, arith}
use Rattle.copy.specs.Writing.{written}
use Rattle.shelves.specs.Items.{laid, IdIn, UidIn}
use Rattle.store.specs.Sections.{Sections, used_of, table_at, header, layout, sections, Ordered, Good}
use Rattle.store.specs.Places.{header_row, Says, reopened}
use Rattle.store.specs.Changes.{SchemaComes, item, with_schema, SchemaRoom}
use Rattle.store.specs.declared.layout.Header.{Header}
use Rattle.store.proofs.Rooms.{bounded}
use Rattle.store.proofs.Reading.{held_after, header_is, bounds}
use Rattle.store.proofs.Splices.{put}

-- the arithmetic of the change
pub record Room (m : List ℕ) (h : Header) (old n size : ℕ) : Type 0 where
  pub low : 10 + old ≡ h.policies
  pub within : h.policies ≤ h.entities
  pub ends : h.entities ≤ h.used
  pub size-le : h.schema_size ≤ h.size
  pub size-new : h.size + size ≤ 16777216 + h.schema_size
  pub used-new : h.used + n ≤ table_at h.capacity + old
  pub used_le : h.used ≤ length m
  pub used-long : table_at h.capacity ≤ length m
  pub limit : h.capacity ≤ 16777216

module _ (m : List ℕ) (g : Good m) (h : Header) (k : Says (sections m) h) (n z : ℕ) (c : SchemaComes (sections m) n z) where
  pub changes : Room m h (h.policies - 10) n z
  changes =
      let p = bounded IdIn (sections m).policies g.ordered.policies-kept in
      let e = bounded UidIn (sections m).entities g.ordered.entities-kept in
      let o = bounds (sections m) g.ordered in
      let l = g.fits in
      let b = c.bounded in
      let f = c.fits in
      record {
        low = omega arith;
        within = omega arith;
        ends = omega arith;
        size-le = omega arith;
        size-new = omega arith;
        used-new = omega arith;
        used_le = omega arith;
        used-long = omega arith;
        limit = omega arith;
      }

  abbrev pub header-with : Header
  header-with = record {
    capacity = h.capacity;
    size = h.size - h.schema_size + z;
    policies = 10 + n;
    entities = h.entities - (h.policies - 10) + n;
    used = h.used - (h.policies - 10) + n;
    policy_count = h.policy_count;
    entity_count = h.entity_count;
    schema_size = z;
    unfit = h.unfit;
    missing = h.missing;
  }

  -- the header that the code makes
  abbrev after : Header → Header
  after w = record w { policies = 10 + n; entities = h.entities - (h.policies - 10) + n; schema_size = z }

  pub after-is : (w : Header) → w ≡ record h { size = h.size - h.schema_size + z; used = h.used - (h.policies - 10) + n } → after w ≡ header-with
  after-is w e = ap after e

  module _ (row : List ℕ) (l : length row ≡ n) where
    abbrev s' : Sections
    s' = with_schema (item z row) (sections m)

    says-with : Says s' header-with
    says-with =
        let w = changes in
        record {
          capacity-is = k.capacity-is;
          size_is = omega arith;
          policies-is = omega arith;
          entities-is = omega arith;
          used-is = omega arith;
          policy-count-is = k.policy-count-is;
          entity-count-is = k.entity-count-is;
          schema-size-is = refl;
          unfit-is = k.unfit-is;
          missing-is = k.missing-is;
        }

    ordered-with : Ordered s'
    ordered-with =
        let o = g.ordered in
        let b = c.bounded in
        let f = c.fits in
        record {
          policies-ordered = o.policies-ordered;
          entities-ordered = o.entities-ordered;
          policies-kept = o.policies-kept;
          entities-kept = o.entities-kept;
          schema-bounded = omega arith;
          small = omega arith;
          least = o.least;
          limit = o.limit;
        }

    with-is : (M : List ℕ) → M ≡ reopened m header-with 10 (h.policies - 10) n h.used → written M 10 row ≡ layout s' (drop (used_of s') m)
    with-is M q =
        let s : Sections = sections m in
        let P : List ℕ = laid s.policies in
        let E : List ℕ = laid s.entities in
        let w = changes in
        let u = says-with.used-is in
        let v : 10 + n + (length P + length E) ≡ used_of s' = omega arith in
        ap (λ x. written x 10 row) q
        ∙ put (header s) (header_row header-with) [] [] s.schema P E g.rest m 10 (h.policies - 10) n h.used
        (g.is ∙ ap (λ x. header s ++ x) (sym (append_assoc s.schema P (E ++ g.rest)))) refl refl (omega arith) (omega arith) (omega arith) (omega arith) row l
        ∙ ap (λ x. header_row header-with ++ x) (append_assoc row P (E ++ drop (10 + n + (length P + length E)) m))
        ∙ ap (λ x. x ++ (row ++ (P ++ (E ++ drop (10 + n + (length P + length E)) m)))) (header_is s' header-with says-with)
        ∙ ap (λ x. layout s' (drop x m)) v

  pub room : (M : List ℕ) → M ≡ reopened m header-with 10 (h.policies - 10) n h.used → length M ≡ length m → SchemaRoom (sections m) M n z 10
  room M q lm =
      let w = changes in
      record { fits = omega arith; holds = λ row l. held_after (with_schema (item z row) (sections m)) m (written M 10 row) g.behind (with-is row l M q) (ordered-with row l) g.table g.fits }
