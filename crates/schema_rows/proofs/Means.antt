-- The row of a schema means that schema, wherever it lies.
use Rattle.std.proofs.Common.{◌≡◌, ℕ, suc, ◌+◌, Bool, true, not, ◌&&◌, leb, List, [], ◌∷◌, ◌++◌, length, sym, refl, ap, ◌∙◌, subst, ap₂, arith}
use Rattle.std.proofs.lemmas.Bool.{and_parts}
use Rattle.std.proofs.lemmas.List.{length-append}
use Rattle.spec.specs.Basics.{Text, all, is_some, ascending, itself}
use Rattle.spec.specs.Values.{EntityUID, code_text, code_uid}
use Rattle.spec.specs.Types.{CedarType, Schema, bool, int, string, entity, set, record_of, RecordType, empty, attr, EntitySchemaEntry, ActionSchemaEntry, entity_type_key, action_key, find_entity_type, find_action, known_type}
use Rattle.spec.specs.Validate.{well_formed_type, well_formed_entry, well_formed_action}
use Rattle.spec.specs.Calls.{encodable_type, encodable_entry, encodable_action, encodable_uid, is_bytes}
use Rattle.rows.specs.Rows.{rows_of, counted, row_type, row_types, row_record_type, count_types, row_entry, row_action, row_schema}
use Rattle.values.specs.Held.{text_at, TextIn, behind_text, uid_at, UIDIn}
use Rattle.values.proofs.Placed.{Lies, lies, lies_at, lies-move, lies-append, text-lies, uid-lies}
use Rattle.types.specs.Held.{behind_row, next_at}
use Rattle.types.proofs.Means.{mean, formed-plain, type-rows-mean}
use Rattle.schema_rows.specs.Lists.{list_from, past, AllFrom, list_at, behind_list, ListIn, behind_uid}
use Rattle.schema_rows.specs.Entries.{type_depth, type_at, attr_types_at, RecordTypeIn, TypeIn, entry_attrs, entry_tags, behind_entry, entry_at, EntryIn, action_resources, action_ancestors, action_context, behind_action, action_at, ActionIn}
use Rattle.schema_rows.specs.Schemas.{schema_actions, SchemaRowsMean}

depth_is : 64 ≡ type_depth
unfolding type_depth
depth_is = refl

all_both : {A : Type 0} (f g : A → Bool) (xs : List A) → all f xs ≡ true → all g xs ≡ true → all (λ x. f x && g x) xs ≡ true
all_both f g [] h k = refl
all_both f g (x ∷ xs) h k =
    let p = and_parts (f x) (all f xs) h in
    let q = and_parts (g x) (all g xs) k in
    ap₂ (λ a b. (a && b) && all (λ y. f y && g y) xs) p.0 q.0 ∙ all_both f g xs p.1 q.1

any_of : {A : Type 0} (xs : List A) → all (λ x. true) xs ≡ true
any_of [] = refl
any_of (x ∷ xs) = any_of xs

-- ---- things one after the other
pub record Item {A : Type 0} (row : A → List ℕ) (f : ℕ → A) (next : ℕ → ℕ) (G : ℕ → Type 0) (x : A) (e : ℕ) : Type 0 where
  pub good : G e
  pub is : f e ≡ x
  pub behind : next e ≡ e + length (row x)

pub record Items {A : Type 0} (row : A → List ℕ) (f : ℕ → A) (next : ℕ → ℕ) (G : ℕ → Type 0) (m : List ℕ) (xs : List A) (p : ℕ) : Type 0 where
  pub good : ListIn G next m p
  pub is : list_at f next m p ≡ xs
  pub behind : behind_list next m p ≡ p + length (counted row xs)

module _ {A : Type 0} (m : List ℕ) (row : A → List ℕ) (f : ℕ → A) (next : ℕ → ℕ) (G : ℕ → Type 0) (test : A → Bool)
    (K : (x : A) (e : ℕ) → test x ≡ true → Lies m e (row x) → Item row f next G x e) where
  each : (xs : List A) (e : ℕ) → all test xs ≡ true → Lies m e (rows_of row xs) → AllFrom G next (length xs) e × (list_from f next (length xs) e ≡ xs) × (past next (length xs) e ≡ e + length (rows_of row xs))
  each [] e t h = (tt, refl, omega arith)
  each (x ∷ xs) e t h =
      let t' = and_parts (test x) (all test xs) t in
      let l = lies-append m e (row x) (rows_of row xs) h in
      let i = K x e t'.0 l.0 in
      let r = each xs (next e) t'.1 (lies-move m (e + length (row x)) (next e) (rows_of row xs) (sym i.behind) l.1) in
      ((i.good, r.0), ap₂ ◌∷◌ i.is r.1, r.2 ∙ omega (arith, i.behind, length-append (row x) (rows_of row xs)))

  pub items : (xs : List A) (p : ℕ) → all test xs ≡ true → Lies m p (counted row xs) → Items row f next G m xs p
  items xs p t h =
      let r = each xs (p + 1) t h.2 in
      let q = sym h.1 in
      record {
        good = record { counts = h.0; each = subst (λ n. AllFrom G next n (p + 1)) q r.0 };
        is = ap (λ n. list_from f next n (p + 1)) (sym q) ∙ r.1;
        behind = ap (λ n. past next n (p + 1)) (sym q) ∙ r.2 ∙ omega arith;
      }

-- ---- texts, names, types
module _ (m : List ℕ) where
  text-item : (t : Text) (e : ℕ) → true ≡ true → Lies m e (code_text t) → Item code_text (text_at m) (behind_text m) (TextIn m) t e
  text-item t e k h = let x = text-lies m e t h in record { good = x.0; is = x.1; behind = omega (arith, h.1) }

  pub uid-item : (u : EntityUID) (e : ℕ) → true ≡ true → Lies m e (code_uid u) → Item code_uid (uid_at m) (behind_uid m) (UIDIn m) u e
  uid-item u e k h =
      let x = uid-lies m e u h in
      let r = lies-append m e (code_text u.ty) (code_text u.eid) h in
      let q : e + length (code_text u.ty) ≡ behind_text m e = omega (arith, r.0.1) in
      let r' = lies-move m (e + length (code_text u.ty)) (behind_text m e) (code_text u.eid) q r.1 in
      record { good = x.0; is = x.1; behind = omega (arith, r'.1, q, length-append (code_text u.ty) (code_text u.eid)) }

  pub texts : (ts : List Text) (p : ℕ) → Lies m p (counted code_text ts) → Items code_text (text_at m) (behind_text m) (TextIn m) m ts p
  texts ts p h = items m code_text (text_at m) (behind_text m) (TextIn m) (λ t. true) text-item ts p (any_of ts) h

  pub uids : (us : List EntityUID) (p : ℕ) → Lies m p (counted code_uid us) → Items code_uid (uid_at m) (behind_uid m) (UIDIn m) m us p
  uids us p h = items m code_uid (uid_at m) (behind_uid m) (UIDIn m) (λ t. true) uid-item us p (any_of us) h

  type-item : (s : Schema) (t : CedarType) (e : ℕ) → well_formed_type t s && encodable_type t 64 ≡ true → Lies m e (row_type t) → Item row_type (type_at m) (behind_row m) (TypeIn m) t e
  type-item s t e k h =
      let p = and_parts (well_formed_type t s) (encodable_type t 64) k in
      let x = mean m [] 0 0 t type_depth e (formed-plain t s p.0) (subst (λ d. encodable_type t d ≡ true) depth_is p.1) h in
      record { good = (x.row, x.good); is = x.is; behind = x.behind }

  types : (s : Schema) (ts : List CedarType) (p : ℕ) → all (λ t. well_formed_type t s) ts ≡ true → all (λ t. encodable_type t 64) ts ≡ true → Lies m p (counted row_type ts) → Items row_type (type_at m) (behind_row m) (TypeIn m) m ts p
  types s ts p a c h = items m row_type (type_at m) (behind_row m) (TypeIn m) (λ t. well_formed_type t s && encodable_type t 64) (type-item s) ts p (all_both (λ t. well_formed_type t s) (λ t. encodable_type t 64) ts a c) h

  -- ---- record types
  row-behind : (t : CedarType) (p : ℕ) → Lies m p (row_type t) → behind_row m p ≡ p + length (row_type t)
  row-behind (bool b) p h = omega (arith, h.2.1)
  row-behind int p h = omega (arith, h.2.1)
  row-behind string p h = omega (arith, h.2.1)
  row-behind (entity n) p h = omega (arith, h.2.1)
  row-behind (set t) p h = omega (arith, h.2.1)
  row-behind (record_of ts) p h = omega (arith, h.2.1)

  attrs-behind : (ts : RecordType) (e : ℕ) → Lies m e (row_types ts) → past (next_at true m) (count_types ts) e ≡ e + length (row_types ts)
  attrs-behind empty e h = omega arith
  attrs-behind (attr n r t ts) e h =
      let l = lies-append m (e + 1) (code_text n) (row_type t ++ row_types ts) h.2 in
      let q : e + 1 + length (code_text n) ≡ behind_text m (e + 1) = omega (arith, l.0.1) in
      let l' = lies-append m (behind_text m (e + 1)) (row_type t) (row_types ts) (lies-move m (e + 1 + length (code_text n)) (behind_text m (e + 1)) (row_type t ++ row_types ts) q l.1) in
      let b = row-behind t (behind_text m (e + 1)) l'.0 in
      let z = attrs-behind ts (behind_row m (behind_text m (e + 1))) (lies-move m (behind_text m (e + 1) + length (row_type t)) (behind_row m (behind_text m (e + 1))) (row_types ts) (sym b) l'.1) in
      let o : 1 + count_types ts ≡ suc (count_types ts) = omega arith in
      ap (λ k. past (next_at true m) k e) o ∙ z ∙ omega (arith, q, b, length-append (code_text n) (row_type t ++ row_types ts), length-append (row_type t) (row_types ts))

  pub record RecordItem (ts : RecordType) (p : ℕ) : Type 0 where
    pub good : RecordTypeIn m p
    pub is : attr_types_at m p ≡ ts
    pub behind : behind_list (next_at true m) m p ≡ p + length (row_record_type ts)

  record-item : (s : Schema) (ts : RecordType) (p : ℕ) → well_formed_type (record_of ts) s ≡ true → encodable_type (record_of ts) 64 ≡ true → Lies m p (row_record_type ts) → RecordItem ts p
  record-item s ts p a c h =
      let x = type-rows-mean.1 ts type_depth m [] p 0 0 (formed-plain (record_of ts) s a) (subst (λ d. encodable_type (record_of ts) d ≡ true) depth_is c) (lies_at m p (row_record_type ts) h) in
      let i = x.is in
      record { good = x.good; is = cc; behind = ap (λ n. past (next_at true m) n (p + 1)) h.1 ∙ attrs-behind ts (p + 1) h.2 ∙ omega arith }

  -- ---- the types of entities
  pub entry-item : (s : Schema) (d : EntitySchemaEntry) (e : ℕ) → well_formed_entry s d && encodable_entry d ≡ true → Lies m e (row_entry d) → Item row_entry (entry_at m) (behind_entry m) (EntryIn m) d e
  entry-item s d e k h =
      let k' = and_parts (well_formed_entry s d) (encodable_entry d) k in
      let f = (and_parts (ascending itself d.ancestors && all (λ n. is_some (find_entity_type n s)) d.ancestors) _ k'.0).1 in
      let f' = and_parts (well_formed_type (record_of d.attrs) s) _ f in
      let f'' = and_parts (leb (length d.tags) 1) (all (λ t. well_formed_type t s) d.tags) f'.1 in
      let g = (and_parts (is_bytes d.name && all is_bytes d.ancestors) _ k'.1).1 in
      let g' = and_parts (encodable_type (record_of d.attrs) 64) (all (λ t. encodable_type t 64) d.tags) g in
      let R₂ = row_record_type d.attrs ++ counted row_type d.tags in
      let R₁ = counted code_text d.ancestors ++ R₂ in
      let l₁ = lies-append m e (code_text d.name) R₁ h in
      let x₁ = text-item d.name e refl l₁.0 in
      let l₂ = lies-append m (behind_text m e) (counted code_text d.ancestors) R₂ (lies-move m (e + length (code_text d.name)) (behind_text m e) R₁ (sym x₁.behind) l₁.1) in
      let x₂ = texts d.ancestors (behind_text m e) l₂.0 in
      let l₃ = lies-append m (entry_attrs m e) (row_record_type d.attrs) (counted row_type d.tags) (lies-move m (behind_text m e + length (counted code_text d.ancestors)) (entry_attrs m e) R₂ (sym x₂.behind) l₂.1) in
      let x₃ = record-item s d.attrs (entry_attrs m e) f'.0 g'.0 l₃.0 in
      let x₄ = types s d.tags (entry_tags m e) f''.1 g'.1 (lies-move m (entry_attrs m e + length (row_record_type d.attrs)) (entry_tags m e) (counted row_type d.tags) (sym x₃.behind) l₃.1) in
      let i₁ = x₁.is in
      let i₂ = x₂.is in
      let i₃ = x₃.is in
      let i₄ = x₄.is in
      record {
        good = record { name = x₁.good; ancestors = x₂.good; attrs = x₃.good; tags = x₄.good };
        is = λ i. record { name = i₁ i; ancestors = i₂ i; attrs = i₃ i; tags = i₄ i };
        behind = omega (arith, x₁.behind, x₂.behind, x₃.behind, x₄.behind, length-append (code_text d.name) R₁, length-append (counted code_text d.ancestors) R₂, length-append (row_record_type d.attrs) (counted row_type d.tags));
      }

  -- ---- the actions
  pub action-item : (s : Schema) (a : ActionSchemaEntry) (e : ℕ) → well_formed_action s a && encodable_action a ≡ true → Lies m e (row_action a) → Item row_action (action_at m) (behind_action m) (ActionIn m) a e
  action-item s a e k h =
      let k' = and_parts (well_formed_action s a) (encodable_action a) k in
      let f = (and_parts ((ascending itself a.principals && ascending itself a.resources) && (ascending code_uid a.ancestors && not (is_some (find_entity_type a.uid.ty s)))) _ k'.0).1 in
      let f' = (and_parts ((all (known_type s) a.principals && all (known_type s) a.resources) && (all (λ u. is_some (find_action u s)) a.ancestors && well_formed_type (record_of a.context) s)) _ f).0 in
      let f'' = (and_parts (all (known_type s) a.principals && all (known_type s) a.resources) _ f').1 in
      let w = (and_parts (all (λ u. is_some (find_action u s)) a.ancestors) (well_formed_type (record_of a.context) s) f'').1 in
      let g = (and_parts (encodable_uid a.uid && all is_bytes a.principals) _ k'.1).1 in
      let g' = (and_parts (all is_bytes a.resources) _ g).1 in
      let c = (and_parts (all encodable_uid a.ancestors) (encodable_type (record_of a.context) 64) g').1 in
      let R₃ = counted code_uid a.ancestors ++ row_record_type a.context in
      let R₂ = counted code_text a.resources ++ R₃ in
      let R₁ = counted code_text a.principals ++ R₂ in
      let l₁ = lies-append m e (code_uid a.uid) R₁ h in
      let x₁ = uid-item a.uid e refl l₁.0 in
      let l₂ = lies-append m (behind_uid m e) (counted code_text a.principals) R₂ (lies-move m (e + length (code_uid a.uid)) (behind_uid m e) R₁ (sym x₁.behind) l₁.1) in
      let x₂ = texts a.principals (behind_uid m e) l₂.0 in
      let l₃ = lies-append m (action_resources m e) (counted code_text a.resources) R₃ (lies-move m (behind_uid m e + length (counted code_text a.principals)) (action_resources m e) R₂ (sym x₂.behind) l₂.1) in
      let x₃ = texts a.resources (action_resources m e) l₃.0 in
      let l₄ = lies-append m (action_ancestors m e) (counted code_uid a.ancestors) (row_record_type a.context) (lies-move m (action_resources m e + length (counted code_text a.resources)) (action_ancestors m e) R₃ (sym x₃.behind) l₃.1) in
      let x₄ = uids a.ancestors (action_ancestors m e) l₄.0 in
      let x₅ = record-item s a.context (action_context m e) w c (lies-move m (action_ancestors m e + length (counted code_uid a.ancestors)) (action_context m e) (row_record_type a.context) (sym x₄.behind) l₄.1) in
      let i₁ = x₁.is in
      let i₂ = x₂.is in
      let i₃ = x₃.is in
      let i₄ = x₄.is in
      let i₅ = x₅.is in
      record {
        good = record { uid = x₁.good; principals = x₂.good; resources = x₃.good; ancestors = x₄.good; context = x₅.good };
        is = λ i. record { uid = i₁ i; principals = i₂ i; resources = i₃ i; ancestors = i₄ i; context = i₅ i };
        behind = omega (arith, x₁.behind, x₂.behind, x₃.behind, x₄.behind, x₅.behind, length-append (code_uid a.uid) R₁, length-append (counted code_text a.principals) R₂, length-append (counted code_text a.resources) R₃, length-append (counted code_uid a.ancestors) (row_record_type a.context));
      }

pub schema-rows-mean : SchemaRowsMean
schema-rows-mean s m p a c h =
    let a' = (and_parts (ascending entity_type_key s.ets && ascending action_key s.acts) _ a).1 in
    let a'' = and_parts (all (well_formed_entry s) s.ets) (all (well_formed_action s) s.acts) a' in
    let c' = and_parts (all encodable_entry s.ets) (all encodable_action s.acts) c in
    let l = lies-append m p (counted row_entry s.ets) (counted row_action s.acts) (lies m p (row_schema s) h) in
    let x = items m row_entry (entry_at m) (behind_entry m) (EntryIn m) (λ d. well_formed_entry s d && encodable_entry d) (entry-item m s) s.ets p (all_both (well_formed_entry s) encodable_entry s.ets a''.0 c'.0) l.0 in
    let y = items m row_action (action_at m) (behind_action m) (ActionIn m) (λ d. well_formed_action s d && encodable_action d) (action-item m s) s.acts (schema_actions m p) (all_both (well_formed_action s) encodable_action s.acts a''.1 c'.1) (lies-move m (p + length (counted row_entry s.ets)) (schema_actions m p) (counted row_action s.acts) (sym x.behind) l.1) in
    let i = x.is in
    let j = y.is in
    (record { entries = x.good; actions = y.good }, (λ k. record { ets = i k; acts = j k }))
