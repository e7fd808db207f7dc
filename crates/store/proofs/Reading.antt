-- A store is read back as it was laid out; and memory in which a new one is laid out holds it.
use Rattle.std.proofs.Common.{◌≡◌, ℕ, ◌+◌, ◌-◌, ◌≤◌, List, [], ◌∷◌, ◌++◌, length, get_or, take, drop, sym, refl, ap, ◌∙◌, subst, ap₂, arith}
use Rattle.std.proofs.lemmas.List.{length-append, length-drop, drop-drop, drop_at, take_at}
use Rattle.values.specs.Held.{part}
use Rattle.shelves.specs.Items.{Item, laid, items_in, items_at, offsets, id_key, IdIn, uid_key, UidIn, Each, Shelf, Tabled}
use Rattle.shelves.proofs.Laid.{read_back}
use Rattle.store.specs.Sections.{Sections, policies_at, entities_at, used_of, table_at, store_numbers, header, layout, sections, Kept, Ordered, Held, Good, Holds}
use Rattle.store.specs.Places.{header_row, header_at, Says, Bounds}
use Rattle.store.specs.declared.layout.Header.{Header}
use Rattle.store.proofs.Rooms.{bounded, never-runs-out}

-- ---- the parts of a memory
module _ (s : Sections) (rest m : List ℕ) (is : m ≡ layout s rest) where
  schema-at : drop 10 m ≡ s.schema ++ (laid s.policies ++ (laid s.entities ++ rest))
  schema-at = ap (drop 10) is

  policies-at : drop (policies_at s) m ≡ laid s.policies ++ (laid s.entities ++ rest)
  policies-at = sym (drop-drop (length s.schema) 10 m) ∙ ap (drop (length s.schema)) schema-at ∙ drop_at s.schema (laid s.policies ++ (laid s.entities ++ rest)) (length s.schema) refl

  entities-at : drop (entities_at s) m ≡ laid s.entities ++ rest
  entities-at =
      sym (drop-drop (length (laid s.policies)) (policies_at s) m) ∙ ap (drop (length (laid s.policies))) policies-at ∙ drop_at (laid s.policies) (laid s.entities ++ rest) (length (laid s.policies)) refl

  pub rest_at : drop (used_of s) m ≡ rest
  rest_at = sym (drop-drop (length (laid s.entities)) (entities_at s) m) ∙ ap (drop (length (laid s.entities))) entities-at ∙ drop_at (laid s.entities) rest (length (laid s.entities)) refl

  pub long : length m ≡ used_of s + length rest
  long =
      let a = ap length is in
      let b = length-append s.schema (laid s.policies ++ (laid s.entities ++ rest)) in
      let c = length-append (laid s.policies) (laid s.entities ++ rest) in
      let d = length-append (laid s.entities) rest in
      omega arith

  pub read_again : sections m ≡ s
  read_again =
      let p2 : get_or m 2 0 ≡ policies_at s = ap (λ l. get_or l 2 0) is in
      let p3 : get_or m 3 0 ≡ entities_at s = ap (λ l. get_or l 3 0) is in
      let p5 : get_or m 5 0 ≡ length s.policies = ap (λ l. get_or l 5 0) is in
      let p6 : get_or m 6 0 ≡ length s.entities = ap (λ l. get_or l 6 0) is in
      let c : get_or m 0 0 ≡ s.capacity = ap (λ l. get_or l 0 0) is in
      let z : get_or m 7 0 ≡ s.schema_size = ap (λ l. get_or l 7 0) is in
      let u : get_or m 8 0 ≡ s.unfit = ap (λ l. get_or l 8 0) is in
      let k : get_or m 9 0 ≡ s.missing = ap (λ l. get_or l 9 0) is in
      let n : length s.schema ≡ get_or m 2 0 - 10 = omega arith in
      let h : part m 10 (get_or m 2 0 - 10) ≡ s.schema = ap (take (get_or m 2 0 - 10)) schema-at ∙ take_at s.schema (laid s.policies ++ (laid s.entities ++ rest)) (get_or m 2 0 - 10) n in
      let a : items_at m (get_or m 2 0) (get_or m 5 0) ≡ s.policies =
      ap₂ (λ p q. items_at m p q) p2 p5 ∙ ap (items_in (length s.policies)) policies-at ∙ read_back s.policies (laid s.entities ++ rest) in
      let b : items_at m (get_or m 3 0) (get_or m 6 0) ≡ s.entities =
      ap₂ (λ p q. items_at m p q) p3 p6 ∙ ap (items_in (length s.entities)) entities-at ∙ read_back s.entities rest in
      λ i. record { capacity = c i; schema_size = z i; schema = h i; policies = a i; entities = b i; unfit = u i; missing = k i }

pub holds : (s : Sections) (m : List ℕ) → Held s m → Holds m s
holds s m h = let e = read_again s h.rest m h.is in record { good = subst (λ z. Held z m) (sym e) h; is = e }

pub bounds : (s : Sections) → Ordered s → Bounds s
bounds s o =
    let a = never-runs-out s o.policies-kept o.entities-kept o.schema-bounded o.small in
    let p = bounded IdIn s.policies o.policies-kept in
    let e = bounded UidIn s.entities o.entities-kept in
    record { small = o.small; limit = o.limit; room = a.0; few = omega arith }

-- ---- memory in which a new store is laid out, over what was there
pub held_after : (s : Sections) (m m' behind : List ℕ) → m' ≡ layout s (drop (used_of s) m) → Ordered s → drop (table_at s.capacity) m ≡ offsets 0 s.entities ++ behind → store_numbers s.capacity ≤ length m → Holds m' s
held_after s m m' behind is o t f =
    let b = (bounds s o).room in
    let l = long s (drop (used_of s) m) m' is in
    let d = length-drop (used_of s) m in
    let e : table_at s.capacity ≡ used_of s + (table_at s.capacity - used_of s) = omega arith in
    let r : drop (table_at s.capacity) m' ≡ drop (table_at s.capacity) m =
    ap (λ n. drop n m') e ∙ sym (drop-drop (table_at s.capacity - used_of s) (used_of s) m') ∙ ap (drop (table_at s.capacity - used_of s)) (rest_at s (drop (used_of s) m) m' is)
    ∙ drop-drop (table_at s.capacity - used_of s) (used_of s) m ∙ ap (λ n. drop n m) (sym e) in
    holds s m' (record { rest = drop (used_of s) m; is = is; behind = behind; table = r ∙ t; fits = omega arith; ordered = o })

-- ---- the first numbers
pub says : (m : List ℕ) → Good m → Says (sections m) (header_at m)
says m g = record {
  capacity-is = refl;
  size_is = ap (λ l. get_or l 1 0) g.is;
  policies-is = ap (λ l. get_or l 2 0) g.is;
  entities-is = ap (λ l. get_or l 3 0) g.is;
  used-is = ap (λ l. get_or l 4 0) g.is;
  policy-count-is = ap (λ l. get_or l 5 0) g.is;
  entity-count-is = ap (λ l. get_or l 6 0) g.is;
  schema-size-is = refl;
  unfit-is = refl;
  missing-is = refl;
}

-- the first ten numbers are enough
pub says_first : (m : List ℕ) → Good m → (xs : List ℕ) → xs ≡ take 10 m → Says (sections m) (header_at xs)
says_first m g xs e =
    subst (Says (sections m)) (ap header_at g.is ∙ sym (ap (λ l. header_at (take 10 l)) g.is) ∙ ap header_at (sym e)) (says m g)

pub header_is : (s : Sections) (h : Header) → Says s h → header_row h ≡ header s
header_is s h k =
    let a = k.capacity-is in
    let b = k.size_is in
    let c = k.policies-is in
    let d = k.entities-is in
    let e = k.used-is in
    let f = k.policy-count-is in
    let g = k.entity-count-is in
    let i = k.schema-size-is in
    let j = k.unfit-is in
    let l = k.missing-is in
    λ x. a x ∷ (b x ∷ (c x ∷ (d x ∷ (e x ∷ (f x ∷ (g x ∷ (i x ∷ (j x ∷ (l x ∷ [])))))))))

-- ---- policies and entities among others
keys_of : (KeyIn : Item → Type 0) (xs : List Item) → Each (Kept KeyIn) xs → Each KeyIn xs
keys_of KeyIn [] h = tt
keys_of KeyIn (x ∷ xs) h = (h.0.key, keys_of KeyIn xs h.1)

pub policy-shelf : (m : List ℕ) → Good m → Shelf id_key IdIn m (get_or m 2 0) (get_or m 5 0)
policy-shelf m g =
    let s : Sections = sections m in
    let e : get_or m 2 0 ≡ policies_at s = ap (λ l. get_or l 2 0) g.is in
    record {
      rest = laid s.entities ++ g.rest;
      is = ap (λ n. drop n m) e ∙ policies-at s g.rest m g.is;
      ordered = g.ordered.policies-ordered;
      keys = keys_of IdIn s.policies g.ordered.policies-kept;
    }

pub entity-table : (m : List ℕ) → Good m → Tabled uid_key UidIn m (get_or m 3 0) (table_at (get_or m 0 0)) (get_or m 6 0)
entity-table m g =
    let s : Sections = sections m in
    let e : get_or m 3 0 ≡ entities_at s = ap (λ l. get_or l 3 0) g.is in
    record {
      shelf = record {
        rest = g.rest;
        is = ap (λ n. drop n m) e ∙ entities-at s g.rest m g.is;
        ordered = g.ordered.entities-ordered;
        keys = keys_of UidIn s.entities g.ordered.entities-kept;
      };
      behind = g.behind;
      offsets_are = g.table;
    }
