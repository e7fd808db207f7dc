-- Attributes of a record, or of an entity.
use Rattle.std.proofs.Common.{◌≡◌, Bool, true, false, not as flip, ◌&&◌, ◌||◌, sym, refl, ◌∙◌, inl, inr}
use mathlib.Core.Option.{Option, some, none}
use Rattle.std.proofs.lemmas.Bool.{and_parts, or_cases}
use Rattle.spec.specs.Basics.{ok, ◌>>=◌, or_error, is_some, on_some, Text, find, lookup}
use Rattle.spec.specs.Values.{EntityUID, entity_uid, Value, prim, record_of, Attrs, fields, Entity, Entities, find_entity, attrs_or_empty, Request}
use Rattle.spec.specs.Exprs.{Expr}
use Rattle.spec.specs.Evaluate.{entity_does_not_exist, attr_does_not_exist, of_bool, get_attr_of, has_attr_of, evaluate}
use Rattle.spec.specs.Types.{CedarType, record_of, RecordType, QualifiedType, attributes, EntitySchemaEntry, Schema, find_entity_type, is_action_type, RequestType}
use Rattle.spec.specs.Typecheck.{Capability, attr_of, Capabilities, has, has_attr_type, has_entity_attr, type_of_has_attr, get_attr_type, get_entity_attr, type_of_get_attr}
use Rattle.spec.specs.Validate.{instance_of_type, valid_entity_by}
use Rattle.laws.proofs.Texts.{false-true}
use Rattle.laws.proofs.Found.{all-at, looked-up}
use Rattle.laws.proofs.Fits.{ok-is, Fits, refused, ends, by-test}
use Rattle.laws.proofs.Capabilities.{There, Holds, holds-one}
use Rattle.laws.proofs.Instances.{either, only-true, only-false, Instance, a-bool, an_int, a-string, an-entity, a-set, a-record, is_attr_of, view, Good, gives}
use Rattle.laws.proofs.Joins.{truth-is, truth}
use Rattle.laws.proofs.Setting.{Setting, found-valid, of-type, an-action}

-- ---- what has a name among the attributes of a type, and among those of a value; what is required is surely there
pub data Looked (s : Schema) (sure : Bool) : Option QualifiedType → Option Value → Type 0 where
  neither : Looked s sure none none
  missing : {a : QualifiedType} → (sure ≡ true → a.required ≡ false) → Looked s sure (some a) none
  there : {a : QualifiedType} {v : Value} → Instance s a.type v → Looked s sure (some a) (some v)

pub looked : {s : Schema} {ts : RecordType} {r : Attrs} (n : Text) → Instance s (record_of ts) (record_of r) → Looked s true (lookup n (attributes ts)) (lookup n (fields r))
looked {s} {ts} {r} n (a-record h m) = go (lookup n (attributes ts)) (lookup n (fields r)) refl refl
  where
    is : (v : Value) → lookup n (fields r) ≡ some v → on_some (lookup n (attributes ts)) (λ a. instance_of_type v a.type s) ≡ true
    is v e = all-at (is_attr_of s ts) (n, v) (fields r) h (looked-up n v (fields r) e)

    required : (a : QualifiedType) → lookup n (attributes ts) ≡ some a → (flip a.required || is_some (lookup n (fields r))) ≡ true
    required a e = all-at (λ f. flip f.1.required || is_some (lookup f.0 (fields r))) (n, a) (attributes ts) m (looked-up n a (attributes ts) e)

    off : (b : Bool) → (flip b || false) ≡ true → b ≡ false
    off true k = sym k
    off false k = refl

    go : (o : Option QualifiedType) (p : Option Value) → lookup n (attributes ts) ≡ o → lookup n (fields r) ≡ p → Looked s true o p
    go none none ho hp = neither
    go none (some v) ho hp = false-true (rw ho at (is v hp))
    go (some a) none ho hp = missing (λ _. off a.required (rw hp at (required a ho)))
    go (some a) (some v) ho hp = there (view a.type v (rw ho at (is v hp)))

-- where the entity may be missing
loose : {s : Schema} {o : Option QualifiedType} {p : Option Value} → Looked s true o p → Looked s false o p
loose neither = neither
loose (missing n) = missing (λ k. false-true k)
loose (there i) = there i

module _ {s : Schema} {q : Request} {es : Entities} where
  get-fits : {o : Option QualifiedType} {p : Option Value} (k : Capability) (c : Capabilities) → Looked s true o p → (has k c ≡ true → is_some p ≡ true) →
      Fits (Good s q es) (get_attr_type o k c) (or_error p attr_does_not_exist)
  get-fits k c neither cap = refused
  get-fits k c (missing {a} n) cap =
      by-test (a.required || has k c) (λ h. elim (or_cases a.required (has k c) h) [ inl e ↦ false-true (sym (n refl) ∙ e) | inr e ↦ false-true (cap e) ]) (λ _. refused)
  get-fits k c (there {a} i) cap = by-test (a.required || has k c) (λ _. gives i) (λ _. refused)

  has-fits : {sure : Bool} {o : Option QualifiedType} {p : Option Value} (k : Capability) (c : Capabilities) → Looked s sure o p → (has k c ≡ true → is_some p ≡ true) → (is_some p ≡ true → There q es k) →
      Fits (Good s q es) (has_attr_type o sure k c) (ok (of_bool (is_some p)))
  has-fits k c neither cap t = gives (a-bool only-false)
  has-fits {sure} k c (missing {a} n) cap t =
      by-test (has k c || (a.required && sure)) (λ h. elim (or_cases (has k c) (a.required && sure) h) [ inl e ↦ false-true (cap e) | inr e ↦ absent (and_parts a.required sure e) ])
      (λ _. truth either (λ h. holds-one k (t h)))
    where
      absent : {A : Type 0} → (a.required ≡ true) × (sure ≡ true) → A
      absent (r, u) = false-true (sym (n u) ∙ r)
  has-fits {sure} k c (there {a} i) cap t = by-test (has k c || (a.required && sure)) (λ _. gives (a-bool only-true)) (λ _. truth either (λ h. holds-one k (t h)))

-- ---- what a capability says of a value, and what says it
cap-there : {q : Request} {es : Entities} {c : Capabilities} (x : Expr) (n : Text) {v : Value} {b : Bool} → Holds q es c → evaluate x q es ≡ ok v → has_attr_of v n es ≡ ok (of_bool b) →
    has (attr_of x n) c ≡ true → b ≡ true
cap-there x n {v} hc ev e h = truth-is (ok-is (sym e ∙ hc.there (attr_of x n) h v ev))

there-cap : (q : Request) (es : Entities) (x : Expr) (n : Text) {v : Value} {b : Bool} → evaluate x q es ≡ ok v → has_attr_of v n es ≡ ok (of_bool b) → b ≡ true → There q es (attr_of x n)
there-cap q es x n {v} {b} ev e h w ew = let wv : w ≡ v = ok-is (sym ew ∙ ev) in rw (wv, e, h) refl

module _ {s : Schema} {r : RequestType} {q : Request} {es : Entities} (g : Setting s r q es) where
  get-entity : (x : Expr) (n : Text) (c : Capabilities) (u : EntityUID) → Holds q es c → evaluate x q es ≡ ok (prim (entity_uid u)) →
      Fits (Good s q es) (get_entity_attr (find_entity_type u.ty s) n (attr_of x n) c) (get_attr_of (prim (entity_uid u)) n es)
  get-entity x n c u hc ev = go (find_entity u es) (find_entity_type u.ty s) refl (found-valid s es g.valid u)
    where
      go : (o : Option Entity) (d : Option EntitySchemaEntry) → find_entity u es ≡ o → ((e : Entity) → find_entity u es ≡ some e → valid_entity_by d e s ≡ true) →
          Fits (Good s q es) (get_entity_attr d n (attr_of x n) c) ((or_error o entity_does_not_exist >>= λ e. ok e.attrs) >>= λ a. or_error (lookup n (fields a)) attr_does_not_exist)
      go none d ho f = ends refl
      go (some e) none ho f = refused
      go (some e) (some d) ho f = get-fits (attr_of x n) c (looked n (view _ _ (of-type s d e (f e ho)).attrs)) (cap-there x n hc ev (rw ho))

  pub get-attr-fits : (x : Expr) (n : Text) (c : Capabilities) {t : CedarType} {v : Value} → Holds q es c → evaluate x q es ≡ ok v → Instance s t v →
      Fits (Good s q es) (type_of_get_attr t n s (attr_of x n) c) (get_attr_of v n es)
  get-attr-fits x n c hc ev (a-bool b) = refused
  get-attr-fits x n c hc ev an_int = refused
  get-attr-fits x n c hc ev a-string = refused
  get-attr-fits x n c hc ev (an-entity {u} h) = get-entity x n c u hc ev
  get-attr-fits x n c hc ev (a-set h) = refused
  get-attr-fits x n c hc ev (a-record h m) = get-fits (attr_of x n) c (looked n (a-record h m)) (cap-there x n hc ev refl)

  has-entity : (x : Expr) (n : Text) (c : Capabilities) (u : EntityUID) → Holds q es c → evaluate x q es ≡ ok (prim (entity_uid u)) →
      Fits (Good s q es) (has_entity_attr (find_entity_type u.ty s) u.ty n s (attr_of x n) c) (has_attr_of (prim (entity_uid u)) n es)
  unfolding find
  has-entity x n c u hc ev = go (find_entity u es) (find_entity_type u.ty s) refl (found-valid s es g.valid u)
    where
      absent : (o : Option QualifiedType) → Looked s false o none
      absent none = neither
      absent (some a) = missing (λ k. false-true k)

      go : (o : Option Entity) (d : Option EntitySchemaEntry) → find_entity u es ≡ o → ((e : Entity) → find_entity u es ≡ some e → valid_entity_by d e s ≡ true) →
          Fits (Good s q es) (has_entity_attr d u.ty n s (attr_of x n) c) (ok (of_bool (is_some (lookup n (fields (attrs_or_empty o))))))
      go none none ho f = by-test (is_action_type u.ty s) (λ _. gives (a-bool only-false)) (λ _. refused)
      go none (some d) ho f = has-fits (attr_of x n) c (absent (lookup n (attributes d.attrs))) (cap-there x n hc ev (rw ho)) (there-cap q es x n ev (rw ho))
      go (some e) none ho f = by-test (is_action_type u.ty s) (λ _. rw (an-action s e (f e ho)).attrs (gives (a-bool only-false))) (λ _. refused)
      go (some e) (some d) ho f = has-fits (attr_of x n) c (loose (looked n (view _ _ (of-type s d e (f e ho)).attrs))) (cap-there x n hc ev (rw ho)) (there-cap q es x n ev (rw ho))

  pub has-attr-fits : (x : Expr) (n : Text) (c : Capabilities) {t : CedarType} {v : Value} → Holds q es c → evaluate x q es ≡ ok v → Instance s t v →
      Fits (Good s q es) (type_of_has_attr t n s (attr_of x n) c) (has_attr_of v n es)
  has-attr-fits x n c hc ev (a-bool b) = refused
  has-attr-fits x n c hc ev an_int = refused
  has-attr-fits x n c hc ev a-string = refused
  has-attr-fits x n c hc ev (an-entity {u} h) = has-entity x n c u hc ev
  has-attr-fits x n c hc ev (a-set h) = refused
  has-attr-fits x n c hc ev (a-record h m) = has-fits (attr_of x n) c (looked n (a-record h m)) (cap-there x n hc ev refl) (there-cap q es x n ev refl)
