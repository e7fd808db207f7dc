-- Tags of entities.
use Rattle.std.proofs.Common.{◌≡◌, Bool, true, cond, sym, refl, ◌∙◌}
use mathlib.Core.Option.{Option, some, none}
use Rattle.spec.specs.Basics.{ok, error, ◌>>=◌, or_error, is_some, Text, find, lookup}
use Rattle.spec.specs.Values.{EntityUID, string, entity_uid, Value, prim, Attrs, fields, Entity, Entities, find_entity, tags_or_empty, Request}
use Rattle.spec.specs.Exprs.{Expr, has_tag, get_tag}
use Rattle.spec.specs.Evaluate.{entity_does_not_exist, tag_does_not_exist, of_bool, has_tag_of, get_tag_of, apply2, evaluate}
use Rattle.spec.specs.Types.{CedarType, EntitySchemaEntry, tag_type, Schema, find_entity_type, is_action_type, RequestType}
use Rattle.spec.specs.Typecheck.{tag_not_found, Capability, tag_of, Capabilities, has, just, has_tag_type, type_of_has_tag, type_of_get_tag, type_of_binary}
use Rattle.spec.specs.Validate.{tag_instances, valid_entity_by}
use Rattle.laws.proofs.Texts.{false-true}
use Rattle.laws.proofs.Found.{all-at, looked-up}
use Rattle.laws.proofs.Fits.{ok-is, came, Fits, refused, ends, bind, by-test}
use Rattle.laws.proofs.Capabilities.{There, Holds, holds-one}
use Rattle.laws.proofs.Instances.{either, only-true, only-false, Instance, a-bool, is_of, view, as-string, as-entity, Good, gives}
use Rattle.laws.proofs.Joins.{truth-is, truth}
use Rattle.laws.proofs.Setting.{Setting, found-valid, of-type, nothing-in, an-action}

-- what has a name among tags is of their type; where there is no such type, nothing has
pub data LookedTag (s : Schema) : Option CedarType → Option Value → Type 0 where
  no-tags : LookedTag s none none
  no-tag : {t : CedarType} → LookedTag s (some t) none
  a-tag : {t : CedarType} {v : Value} → Instance s t v → LookedTag s (some t) (some v)

looked-tag : (s : Schema) (n : Text) (o : Option CedarType) (r : Attrs) → tag_instances o r s ≡ true → LookedTag s o (lookup n (fields r))
unfolding find
looked-tag s n none r h = rw (nothing-in (fields r) h) no-tags
looked-tag s n (some t) r h = go (lookup n (fields r)) refl
  where
    go : (p : Option Value) → lookup n (fields r) ≡ p → LookedTag s (some t) p
    go none e = no-tag
    go (some v) e = a-tag (view t v (all-at (λ f. is_of s t f.1) (n, v) (fields r) h (looked-up n v (fields r) e)))

no-tag-there : {s : Schema} (o : Option CedarType) → LookedTag s o none
no-tag-there none = no-tags
no-tag-there (some t) = no-tag

module _ {s : Schema} {q : Request} {es : Entities} where
  has-fits : {o : Option CedarType} {p : Option Value} (k : Capability) (c : Capabilities) → LookedTag s o p → (has k c ≡ true → is_some p ≡ true) → (is_some p ≡ true → There q es k) →
      Fits (Good s q es) (has_tag_type o k c) (ok (of_bool (is_some p)))
  has-fits k c no-tags cap t = gives (a-bool only-false)
  has-fits k c no-tag cap t = by-test (has k c) (λ h. false-true (cap h)) (λ _. truth either (λ h. holds-one k (t h)))
  has-fits k c (a-tag i) cap t = by-test (has k c) (λ _. gives (a-bool only-true)) (λ _. truth either (λ h. holds-one k (t h)))

  get-fits : {o : Option CedarType} {p : Option Value} (k : Capability) (c : Capabilities) → LookedTag s o p → (has k c ≡ true → is_some p ≡ true) →
      Fits (Good s q es) (or_error o tag_not_found >>= λ t. cond (has k c) (just t) (error tag_not_found)) (or_error p tag_does_not_exist)
  get-fits k c no-tags cap = refused
  get-fits k c no-tag cap = by-test (has k c) (λ h. false-true (cap h)) (λ _. refused)
  get-fits k c (a-tag i) cap = by-test (has k c) (λ _. gives i) (λ _. refused)

-- what a capability says of an entity and a name, and what says it
module _ (q : Request) (es : Entities) (x y : Expr) {u : EntityUID} {n : Text} (ev : evaluate x q es ≡ ok (prim (entity_uid u))) (ew : evaluate y q es ≡ ok (prim (string n))) where
  cap-there : {c : Capabilities} {b : Bool} → Holds q es c → has_tag_of u n es ≡ b → has (tag_of x y) c ≡ true → b ≡ true
  cap-there hc e h = sym e ∙ truth-is (ok-is (hc.there (tag_of x y) h _ _ ev ew))

  there-cap : {b : Bool} → has_tag_of u n es ≡ b → b ≡ true → There q es (tag_of x y)
  there-cap e h v w hv hw = let a : v ≡ prim (entity_uid u) = ok-is (sym hv ∙ ev) in let b : w ≡ prim (string n) = ok-is (sym hw ∙ ew) in rw (a, b, e, h) refl

module _ {s : Schema} {r : RequestType} {q : Request} {es : Entities} (g : Setting s r q es) where
  has-entity : (x y : Expr) (c : Capabilities) (u : EntityUID) (n : Text) → Holds q es c → evaluate x q es ≡ ok (prim (entity_uid u)) → evaluate y q es ≡ ok (prim (string n)) →
      Fits (Good s q es) (type_of_has_tag (find_entity_type u.ty s) u.ty s (tag_of x y) c) (ok (of_bool (has_tag_of u n es)))
  unfolding find
  has-entity x y c u n hc ev ew = go (find_entity u es) (find_entity_type u.ty s) refl (found-valid s es g.valid u)
    where
      go : (o : Option Entity) (d : Option EntitySchemaEntry) → find_entity u es ≡ o → ((e : Entity) → find_entity u es ≡ some e → valid_entity_by d e s ≡ true) →
          Fits (Good s q es) (type_of_has_tag d u.ty s (tag_of x y) c) (ok (of_bool (is_some (lookup n (fields (tags_or_empty o))))))
      go none none ho f = by-test (is_action_type u.ty s) (λ _. gives (a-bool only-false)) (λ _. refused)
      go none (some d) ho f = has-fits (tag_of x y) c (no-tag-there (tag_type d)) (cap-there q es x y ev ew hc (rw ho)) (there-cap q es x y ev ew (rw ho))
      go (some e) none ho f = by-test (is_action_type u.ty s) (λ _. rw (an-action s e (f e ho)).tags (gives (a-bool only-false))) (λ _. refused)
      go (some e) (some d) ho f =
          has-fits (tag_of x y) c (looked-tag s n (tag_type d) e.tags (of-type s d e (f e ho)).tags) (cap-there q es x y ev ew hc (rw ho)) (there-cap q es x y ev ew (rw ho))

  get-entity : (x y : Expr) (c : Capabilities) (u : EntityUID) (n : Text) → Holds q es c → evaluate x q es ≡ ok (prim (entity_uid u)) → evaluate y q es ≡ ok (prim (string n)) →
      Fits (Good s q es) (type_of_get_tag (find_entity_type u.ty s) (tag_of x y) c) (get_tag_of u n es)
  get-entity x y c u n hc ev ew = go (find_entity u es) (find_entity_type u.ty s) refl (found-valid s es g.valid u)
    where
      go : (o : Option Entity) (d : Option EntitySchemaEntry) → find_entity u es ≡ o → ((e : Entity) → find_entity u es ≡ some e → valid_entity_by d e s ≡ true) →
          Fits (Good s q es) (type_of_get_tag d (tag_of x y) c) (or_error o entity_does_not_exist >>= λ e. or_error (lookup n (fields e.tags)) tag_does_not_exist)
      go none d ho f = ends refl
      go (some e) none ho f = refused
      go (some e) (some d) ho f =
          get-fits (tag_of x y) c (looked-tag s n (tag_type d) e.tags (of-type s d e (f e ho)).tags) (cap-there q es x y ev ew hc (rw ho))

  pub has-tag-fits : (x y : Expr) (c : Capabilities) {t u : CedarType} {v w : Value} → Holds q es c → evaluate x q es ≡ ok v → evaluate y q es ≡ ok w → Instance s t v → Instance s u w →
      Fits (Good s q es) (type_of_binary has_tag t u x y c s) (apply2 has_tag v w es)
  has-tag-fits x y c hc ev ew i j =
      bind _ _ (as-entity i) λ m a e _. bind _ _ (as-string j) λ _ n f _. rw e.type (has-entity x y c a n hc (came ev e.value) (came ew f))

  pub get-tag-fits : (x y : Expr) (c : Capabilities) {t u : CedarType} {v w : Value} → Holds q es c → evaluate x q es ≡ ok v → evaluate y q es ≡ ok w → Instance s t v → Instance s u w →
      Fits (Good s q es) (type_of_binary get_tag t u x y c s) (apply2 get_tag v w es)
  get-tag-fits x y c hc ev ew i j =
      bind _ _ (as-entity i) λ m a e _. bind _ _ (as-string j) λ _ n f _. rw e.type (get-entity x y c a n hc (came ev e.value) (came ew f))
