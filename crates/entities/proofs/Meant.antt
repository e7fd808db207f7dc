-- Rows of entities and of a request mean what they were made from; and a request keeps its meaning.
use Rattle.std.specs.declared.cmp.Ordering.TheVariants.{Less}
use Rattle.std.proofs.Common.{◌≡◌, ℕ, zero, suc, ◌+◌, ◌*◌, ◌<◌, ◌≤◌, true, ◌&&◌, List, [], ◌∷◌, ◌++◌, length, get_or, take, drop, sym, refl, ap, ◌∙◌, subst, ap₂, inl, inr, arith}
use Rattle.std.proofs.lemmas.Bool.{and_parts, cases_eq}
use Rattle.std.proofs.lemmas.List.{length-append}
use Rattle.spec.specs.Basics.{Text, less, all, ascending}
use Rattle.spec.specs.Values as s
use Rattle.spec.specs.Values.{EntityUID, Attrs, prim, entity_uid, record_of, code_text, code_uid, Entity, entity_key, find_entity}
use Rattle.spec.specs.Calls.{put_entity, canonical_record, admissible, encodable, encodable_uid, encodable_value}
use Rattle.laws.proofs.Keyed.{Before, Sorted, ascending-sorted}
use Rattle.rows.specs.Rows.{rows_of, counted, attr_entries, behind_attrs, count_fields, row_attrs, row_entity, row_request}
use Rattle.values.specs.Order.{order_uid}
use Rattle.values.specs.Held.{behind_text, uid_at, UIDIn}
use Rattle.values.specs.Making.{up_to, listed}
use Rattle.values.specs.Stored.{LiesAt}
use Rattle.values.proofs.Frame.{uid-on, uid-in-on}
use Rattle.values.proofs.Orders.{less-is}
use Rattle.values.proofs.Rising.{its_less}
use Rattle.values.proofs.Made.{up-to-on}
use Rattle.values.proofs.Means.{rows-mean}
use Rattle.values.proofs.Placed.{Lies, lies, lies-move, lies-append, lies_at, uid-lies}
use Rattle.entities.specs.Rows.{behind_uid, behind_node, record_at, RecordAt, uids_at, UIDsIn, attrs_place, tags_place, ancestors_place, ancestors_at, entity_at, EntityIn, row_place, entities_at, FoundRow, SubjectIn, request_at, RequestIn, action_place, resource_place, context_place}
use Rattle.entities.specs.Meaning.{RowsLie, EntitiesMean, RequestMeans, RequestGrows}
use Rattle.shelves.specs.declared.table.Table.{Table}
use Rattle.entities.specs.declared.requests.Subject.{Subject}
use Rattle.entities.specs.declared.requests.Request.{Request}
use Rattle.entities.proofs.Framed.{fields_told, record-on, record-in-on}

-- ---- names, one behind the other
-- a name that lies at a place, and where what comes behind it lies
record Named (m : List ℕ) (p : ℕ) (u : EntityUID) (ys : List ℕ) : Type 0 where
  name : UIDIn m p
  is : uid_at m p ≡ u
  rest : Lies m (behind_uid m p) ys

uid-long : (m : List ℕ) (p : ℕ) (u : EntityUID) → Lies m p (code_uid u) → behind_uid m p ≡ p + length (code_uid u)
uid-long m p u h =
    let r = lies-append m p (code_text u.ty) (code_text u.eid) h in
    let q : p + suc (length u.ty) ≡ behind_text m p = omega (arith, r.0.1) in
    let k = lies-move m (p + suc (length u.ty)) (behind_text m p) (code_text u.eid) q r.1 in
    let e = length-append (code_text u.ty) (code_text u.eid) in
    omega (arith, r.0.1, k.1)

named : (m : List ℕ) (p : ℕ) (u : EntityUID) (ys : List ℕ) → Lies m p (code_uid u ++ ys) → Named m p u ys
named m p u ys h =
    let r = lies-append m p (code_uid u) ys h in
    let k = uid-lies m p u r.0 in
    record { name = k.0; is = k.1; rest = lies-move m (p + length (code_uid u)) (behind_uid m p) ys (sym (uid-long m p u r.0)) r.1 }

pub uids-lie : (us : List EntityUID) (m : List ℕ) (p : ℕ) → Lies m p (rows_of code_uid us) → UIDsIn m p (length us) × (uids_at m p (length us) ≡ us)
uids-lie [] m p h = (tt, refl)
uids-lie (u ∷ us) m p h =
    let n = named m p u (rows_of code_uid us) h in
    let r = uids-lie us m (behind_uid m p) n.rest in
    ((n.name, r.0), ap₂ ◌∷◌ n.is r.1)

-- ---- a record of attributes, of tags or of a context, and what comes behind it
record Noded (m : List ℕ) (p : ℕ) (r : Attrs) (ys : List ℕ) : Type 0 where
  node : RecordAt m p
  is : record_at m p ≡ r
  rest : Lies m (behind_node m p) ys

noded : (m : List ℕ) (p : ℕ) (r : Attrs) (ys : List ℕ) → canonical_record r ≡ true → encodable_value (record_of r) 64 ≡ true → Lies m p (row_attrs r ++ ys) → Noded m p r ys
noded m p r ys c w h =
    let q = lies-append m p (row_attrs r) ys h in
    let S = rows-mean.1 r 64 m p c (rows-mean.2 (record_of r) 64 w) (lies_at m p (row_attrs r) q.0) in
    let a = length-append (attr_entries (2 + 3 * count_fields r) r) (behind_attrs r) in
    let e : p + length (row_attrs r) ≡ behind_node m p = omega (arith, q.0.1, a) in
    record { node = S.good; is = fields_told (record_at m p) r S.is; rest = lies-move m (p + length (row_attrs r)) (behind_node m p) ys e q.1 }

-- ---- an entity
record Meant (m : List ℕ) (p : ℕ) (x : Entity) : Type 0 where
  good : EntityIn m p
  is : entity_at m p ≡ x

entity-means : (m : List ℕ) (p : ℕ) (x : Entity) → admissible (put_entity x) ≡ true → encodable (put_entity x) ≡ true → Lies m p (row_entity x) → Meant m p x
entity-means m p x a w h =
    let a₁ = and_parts (canonical_record x.attrs && canonical_record x.tags) (ascending code_uid x.ancestors) a in
    let a₂ = and_parts (canonical_record x.attrs) (canonical_record x.tags) a₁.0 in
    let w₁ = and_parts (encodable_uid x.uid && encodable_value (record_of x.attrs) 64) (all encodable_uid x.ancestors && encodable_value (record_of x.tags) 64) w in
    let w₂ = and_parts (encodable_uid x.uid) (encodable_value (record_of x.attrs) 64) w₁.0 in
    let w₃ = and_parts (all encodable_uid x.ancestors) (encodable_value (record_of x.tags) 64) w₁.1 in
    let n = named m p x.uid (row_attrs x.attrs ++ (row_attrs x.tags ++ counted code_uid x.ancestors)) h in
    let b = noded m (attrs_place m p) x.attrs (row_attrs x.tags ++ counted code_uid x.ancestors) a₂.0 w₂.1 n.rest in
    let t = noded m (tags_place m p) x.tags (counted code_uid x.ancestors) a₂.1 w₃.1 b.rest in
    let u = uids-lie x.ancestors m (ancestors_place m p + 1) t.rest.2 in
    let k : length x.ancestors ≡ get_or m (ancestors_place m p) 0 = sym t.rest.1 in
    let e₁ = n.is in
    let e₂ = b.is in
    let e₃ : ancestors_at m p ≡ x.ancestors = sym (ap (uids_at m (ancestors_place m p + 1)) k) ∙ u.1 in
    let e₄ = t.is in
    record {
      good = record { name = n.name; attrs = b.node; tags = t.node; fits = t.rest.0; ancestors = subst (UIDsIn m (ancestors_place m p + 1)) k u.0 };
      is = λ i. record { uid = e₁ i; attrs = e₂ i; ancestors = e₃ i; tags = e₄ i };
    }

-- ---- all entities, from the k-th on
record Listed (m : List ℕ) (e : Table) (k : ℕ) (xs : s.Entities) : Type 0 where
  good : (j : ℕ) → k ≤ j → j < k + length xs → EntityIn m (row_place m e j)
  are : listed (λ j. entity_at m (row_place m e j)) k (length xs) ≡ xs

all-mean : (xs : s.Entities) (m : List ℕ) (e : Table) (k : ℕ) → all (λ x. admissible (put_entity x)) xs ≡ true → all (λ x. encodable (put_entity x)) xs ≡ true → RowsLie m e k xs → Listed m e k xs
all-mean [] m e k a w h = record { good = λ j l l'. absurd (omega arith); are = refl }
all-mean (x ∷ xs) m e k a w h =
    let a₁ = and_parts (admissible (put_entity x)) (all (λ x. admissible (put_entity x)) xs) a in
    let w₁ = and_parts (encodable (put_entity x)) (all (λ x. encodable (put_entity x)) xs) w in
    let X = entity-means m (row_place m e k) x a₁.0 w₁.0 (lies m (row_place m e k) (row_entity x) h.0) in
    let R = all-mean xs m e (k + 1) a₁.1 w₁.1 h.1 in
    record {
      good = λ j l l'. elim (cases_eq j k) [
        | inl q ↦ subst (λ i. EntityIn m (row_place m e i)) (sym q) X.good
        | inr u ↦ R.good j (omega arith) (omega arith)
      ];
      are = ap₂ ◌∷◌ X.is R.are;
    }

-- names that are kept in order rise
less-uid : (u w : EntityUID) → less (code_uid u) (code_uid w) ≡ true → order_uid u w ≡ Less
unfolding less
less-uid u w h = its_less (order_uid u w) (sym (less-is (prim (entity_uid u)) (prim (entity_uid w))) ∙ h)

module _ (f : ℕ → Entity) where
  before_at : (t : Text) (i n : ℕ) → Before entity_key t (listed f i n) → (k : ℕ) → i ≤ k → k < i + n → less t (entity_key (f k)) ≡ true
  before_at t i zero b k l l' = absurd (omega arith)
  before_at t i (suc n) b k l l' = elim (cases_eq i k) [ inl q ↦ ap (λ j. less t (entity_key (f j))) (sym q) ∙ b.0 | inr u ↦ before_at t (i + 1) n b.1 k (omega arith) (omega arith) ]

  names-rise : (i n : ℕ) → Sorted entity_key (listed f i n) → (j k : ℕ) → i ≤ j → j < k → k < i + n → order_uid (f j).uid (f k).uid ≡ Less
  names-rise i zero h j k l l' l'' = absurd (omega arith)
  names-rise i (suc n) h j k l l' l'' = elim (cases_eq i j) [
    | inl q ↦ less-uid (f j).uid (f k).uid (ap (λ x. less (entity_key (f x)) (entity_key (f k))) (sym q) ∙ before_at (entity_key (f i)) (i + 1) n h.0 k (omega arith) (omega arith))
    | inr u ↦ names-rise (i + 1) n h.1 j k (omega arith) l' (omega arith)
  ]

pub entities-mean : EntitiesMean
entities-mean es m e up a w n t h =
    let L = all-mean es m e 0 a w h in
    let f : ℕ → Entity = λ j. entity_at m (row_place m e j) in
    let sorted : Sorted entity_key (listed f 0 (length es)) = subst (Sorted entity_key) (sym L.are) (ascending-sorted entity_key es up) in (
      record {
        fits = t;
        each = λ k l. L.good k (omega arith) (omega arith);
        rising = λ i j l l'. names-rise f 0 (length es) sorted i j (omega arith) l (omega arith);
      },
      ap (listed f 0) n ∙ L.are,
    )

-- ---- a request
pub request-means : RequestMeans
request-means q m p a w h =
    let a₁ = and_parts (canonical_record q.context) _ a in
    let w₁ = and_parts (encodable_uid q.principal && encodable_uid q.action) (encodable_uid q.resource && encodable_value (record_of q.context) 64) w in
    let w₂ = and_parts (encodable_uid q.resource) (encodable_value (record_of q.context) 64) w₁.1 in
    let x = named m p q.principal (code_uid q.action ++ (code_uid q.resource ++ row_attrs q.context)) (lies m p (row_request q) h) in
    let y = named m (action_place m p) q.action (code_uid q.resource ++ row_attrs q.context) x.rest in
    let z = named m (resource_place m p) q.resource (row_attrs q.context) y.rest in
    let r : LiesAt m (context_place m p) (row_attrs q.context) = lies_at m (context_place m p) (row_attrs q.context) z.rest in
    let S = rows-mean.1 q.context 64 m (context_place m p) a₁.0 (rows-mean.2 (record_of q.context) 64 w₂.1) r in
    let e₁ = x.is in
    let e₂ = y.is in
    let e₃ = z.is in
    let e₄ = fields_told (record_at m (context_place m p)) q.context S.is in (
      record { principal = x.name; action = y.name; resource = z.name; context = S.good },
      (λ i. record { principal = e₁ i; action = e₂ i; resource = e₃ i; context = e₄ i }),
    )

module _ (store m x : List ℕ) (e : Table) where
  subject-on : (j : Subject) → SubjectIn store m e j → SubjectIn store (m ++ x) e j
  subject-on j h = record {
    name = uid-in-on m x j.uid h.name;
    found = subst (λ u. FoundRow store j.row (find_entity u (entities_at store e))) (sym (uid-on m x j.uid h.name)) h.found;
  }

  request-on : (q : Request) → RequestIn store m e q → RequestIn store (m ++ x) e q × (request_at (m ++ x) q ≡ request_at m q)
  request-on q h =
      let e₁ = uid-on m x q.principal.uid h.principal.name in
      let e₂ = uid-on m x q.action.uid h.action.name in
      let e₃ = uid-on m x q.resource.uid h.resource.name in
      let e₄ = record-on m x q.context h.context in (
        record {
          principal = subject-on q.principal h.principal;
          action = subject-on q.action h.action;
          resource = subject-on q.resource h.resource;
          context = record-in-on m x q.context h.context;
        },
        (λ i. record { principal = e₁ i; action = e₂ i; resource = e₃ i; context = e₄ i }),
      )

pub request-grows : RequestGrows
request-grows store w₁ w₂ t₁ t₂ e q l h r =
    subst (λ m. RequestIn store m e q × (request_at m q ≡ request_at (up_to store w₁ t₁) q)) (sym (up-to-on store w₁ w₂ t₁ t₂ l h)) (request-on store (up_to store w₁ t₁) (drop t₁ (take t₂ w₂)) e q r)
