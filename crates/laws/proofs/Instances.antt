-- The values of a type as a relation: each form of type once, with the tests on elements and attributes over lists.
use Rattle.std.proofs.Common.{◌≡◌, ℕ, Bool, true, false, List, sym, refl, ◌∙◌}
use Rattle.std.proofs.lemmas.Bool.{and_parts, and_from}
use Rattle.spec.specs.Basics.{ok, on_some, all, Text, same, lookup}
use Rattle.spec.specs.Values.{EntityUID, bool, int, string, entity_uid, Value, prim, set, record_of, Values, nil, cons, Attrs, empty, attr, elements, fields, Entities, Request}
use Rattle.spec.specs.Evaluate.{of_bool, as_bool, as_int, as_string, as_entity_uid, as_set}
use Rattle.spec.specs.Types.{BoolType, any_bool, is_true, is_false, CedarType, bool, int, string, entity, set, record_of, RecordType, attributes, Schema, known}
use Rattle.spec.specs.Typecheck.{Typed, just, literal_type, as_bool as bool_type, as_int as int_type, as_string as string_type, as_entity as entity_type, as_set as set_type}
use Rattle.spec.specs.Validate.{instance_of_bool_type, instance_of_entity_type, required_present, instance_of_type, all_instances, attr_instances}
use Rattle.laws.proofs.Texts.{false-true, same_true, same_refl}
use Rattle.laws.proofs.Fits.{Fits, refused, fine}
use Rattle.laws.proofs.Capabilities.{Holds, holds-none}

-- ---- truths
pub data InstanceBool : BoolType → Bool → Type 0 where
  either : {b : Bool} → InstanceBool any_bool b
  only-true : InstanceBool is_true true
  only-false : InstanceBool is_false false

bool-view : (t : BoolType) (b : Bool) → instance_of_bool_type b t ≡ true → InstanceBool t b
bool-view any_bool b h = either
bool-view is_true true h = only-true
bool-view is_true false h = false-true h
bool-view is_false true h = false-true h
bool-view is_false false h = only-false

bool-test : {t : BoolType} {b : Bool} → InstanceBool t b → instance_of_bool_type b t ≡ true
bool-test either = refl
bool-test only-true = refl
bool-test only-false = refl

pub literal-is : (b : Bool) → InstanceBool (literal_type b) b
literal-is true = only-true
literal-is false = only-false

-- ---- elements and attributes
abbrev pub is_of : Schema → CedarType → Value → Bool
is_of s t v = instance_of_type v t s

abbrev pub is_attr_of : Schema → RecordType → Text × Value → Bool
is_attr_of s ts f = on_some (lookup f.0 (attributes ts)) (λ q. instance_of_type f.1 q.type s)

all-elements : (s : Schema) (t : CedarType) (vs : Values) → all_instances vs t s ≡ all (is_of s t) (elements vs)
all-elements s t nil = refl
all-elements s t (cons v vs) = rw (all-elements s t vs)

all-fields : (s : Schema) (ts : RecordType) (r : Attrs) → attr_instances r ts s ≡ all (is_attr_of s ts) (fields r)
all-fields s ts empty = refl
all-fields s ts (attr a v r) = rw (all-fields s ts r)

-- ---- all values
pub data Instance (s : Schema) : CedarType → Value → Type 0 where
  a-bool : {t : BoolType} {b : Bool} → InstanceBool t b → Instance s (bool t) (prim (bool b))
  an_int : {n : ℕ} → Instance s int (prim (int n))
  a-string : {t : Text} → Instance s string (prim (string t))
  an-entity : {u : EntityUID} → known s u ≡ true → Instance s (entity u.ty) (prim (entity_uid u))
  a-set : {t : CedarType} {vs : Values} → all (is_of s t) (elements vs) ≡ true → Instance s (set t) (set vs)
  a-record : {ts : RecordType} {r : Attrs} → all (is_attr_of s ts) (fields r) ≡ true → required_present r ts ≡ true → Instance s (record_of ts) (record_of r)

entity-view : {s : Schema} (u : EntityUID) (n : Text) → instance_of_entity_type u n s ≡ true → Instance s (entity n) (prim (entity_uid u))
entity-view {s} u n h = let p = and_parts (same n u.ty) (known s u) h in rw (same_true n u.ty p.0) (an-entity p.1)

pub view : {s : Schema} (t : CedarType) (v : Value) → instance_of_type v t s ≡ true → Instance s t v
view (bool t) (prim (bool b)) h = a-bool (bool-view t b h)
view (bool t) (prim (int n)) h = false-true h
view (bool t) (prim (string x)) h = false-true h
view (bool t) (prim (entity_uid u)) h = false-true h
view (bool t) (set vs) h = false-true h
view (bool t) (record_of r) h = false-true h
view int (prim (bool b)) h = false-true h
view int (prim (int n)) h = an_int
view int (prim (string x)) h = false-true h
view int (prim (entity_uid u)) h = false-true h
view int (set vs) h = false-true h
view int (record_of r) h = false-true h
view string (prim (bool b)) h = false-true h
view string (prim (int n)) h = false-true h
view string (prim (string x)) h = a-string
view string (prim (entity_uid u)) h = false-true h
view string (set vs) h = false-true h
view string (record_of r) h = false-true h
view (entity n) (prim (bool b)) h = false-true h
view (entity n) (prim (int m)) h = false-true h
view (entity n) (prim (string x)) h = false-true h
view (entity n) (prim (entity_uid u)) h = entity-view u n h
view (entity n) (set vs) h = false-true h
view (entity n) (record_of r) h = false-true h
view (set t) (prim (bool b)) h = false-true h
view (set t) (prim (int n)) h = false-true h
view (set t) (prim (string x)) h = false-true h
view (set t) (prim (entity_uid u)) h = false-true h
view {s} (set t) (set vs) h = a-set (sym (all-elements s t vs) ∙ h)
view (set t) (record_of r) h = false-true h
view (record_of ts) (prim (bool b)) h = false-true h
view (record_of ts) (prim (int n)) h = false-true h
view (record_of ts) (prim (string x)) h = false-true h
view (record_of ts) (prim (entity_uid u)) h = false-true h
view (record_of ts) (set vs) h = false-true h
view {s} (record_of ts) (record_of r) h = let p = and_parts (attr_instances r ts s) (required_present r ts) h in a-record (sym (all-fields s ts r) ∙ p.0) p.1

-- and back
pub seen : {s : Schema} {t : CedarType} {v : Value} → Instance s t v → instance_of_type v t s ≡ true
seen (a-bool i) = bool-test i
seen an_int = refl
seen a-string = refl
seen (an-entity {u} h) = and_from _ _ (same_refl u.ty) h
seen {s} (a-set {t} {vs} h) = all-elements s t vs ∙ h
seen {s} (a-record {ts} {r} h m) = and_from _ _ (all-fields s ts r ∙ h) m

-- ---- what a type asks for, the value is
-- a truth, with the value that it is
pub record TruthOf (v : Value) (t : BoolType) (b : Bool) : Type 0 where
  pub is : InstanceBool t b
  pub value : v ≡ of_bool b

-- an entity, of this type
pub record EntityOf (v : Value) (n : Text) (u : EntityUID) : Type 0 where
  pub type : n ≡ u.ty
  pub value : v ≡ prim (entity_uid u)

module _ {s : Schema} where
  pub as-bool : {t : CedarType} {v : Value} → Instance s t v → Fits (TruthOf v) (bool_type t) (as_bool v)
  as-bool (a-bool i) = fine (record { is = i; value = refl })
  as-bool an_int = refused
  as-bool a-string = refused
  as-bool (an-entity h) = refused
  as-bool (a-set h) = refused
  as-bool (a-record h m) = refused

  pub as-int : {t : CedarType} {v : Value} → Instance s t v → Fits (λ (_ : Unit {0}) (_ : ℕ). Unit {0}) (int_type t) (as_int v)
  as-int (a-bool i) = refused
  as-int an_int = fine tt
  as-int a-string = refused
  as-int (an-entity h) = refused
  as-int (a-set h) = refused
  as-int (a-record h m) = refused

  pub as-string : {t : CedarType} {v : Value} → Instance s t v → Fits (λ (_ : Unit {0}) (x : Text). v ≡ prim (string x)) (string_type t) (as_string v)
  as-string (a-bool i) = refused
  as-string an_int = refused
  as-string a-string = fine refl
  as-string (an-entity h) = refused
  as-string (a-set h) = refused
  as-string (a-record h m) = refused

  pub as-entity : {t : CedarType} {v : Value} → Instance s t v → Fits (EntityOf v) (entity_type t) (as_entity_uid v)
  as-entity (a-bool i) = refused
  as-entity an_int = refused
  as-entity a-string = refused
  as-entity (an-entity h) = fine (record { type = refl; value = refl })
  as-entity (a-set h) = refused
  as-entity (a-record h m) = refused

  pub as-set : {t : CedarType} {v : Value} → Instance s t v → Fits (λ (t : CedarType) (vs : List Value). all (is_of s t) vs ≡ true) (set_type t) (as_set v)
  as-set (a-bool i) = refused
  as-set an_int = refused
  as-set a-string = refused
  as-set (an-entity h) = refused
  as-set (a-set h) = fine h
  as-set (a-record h m) = refused

-- ---- a value of the type, and if it is true, then what the type makes known is there
pub record Good (s : Schema) (q : Request) (es : Entities) (a : Typed) (v : Value) : Type 0 where
  pub is : Instance s a.0 v
  pub knows : v ≡ of_bool true → Holds q es a.1

module _ {s : Schema} {q : Request} {es : Entities} where
  -- nothing is made known
  pub gives : {t : CedarType} {v : Value} → Instance s t v → Fits (Good s q es) (just t) (ok v)
  gives i = fine (record { is = i; knows = λ _. holds-none })

  pub gives-any : (b : Bool) → Fits (Good s q es) (just (bool any_bool)) (ok (of_bool b))
  gives-any b = gives (a-bool either)

  pub gives-literal : (b : Bool) → Fits (Good s q es) (just (bool (literal_type b))) (ok (of_bool b))
  gives-literal b = gives (a-bool (literal-is b))
