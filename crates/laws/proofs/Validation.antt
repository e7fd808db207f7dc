-- What was validated is sound: requests are of some kind, whose action is known, and policies have the type of a truth for each kind.
use Rattle.std.proofs.Common.{◌≡◌, Bool, true, false, cond, ◌&&◌, List, [], ◌∷◌, sym, refl, ap, ◌∙◌, inl, inr}
use Rattle.std.proofs.lemmas.Bool.{and_parts, or_right}
use Rattle.spec.specs.Basics.{Except, ok, error, ◌>>=◌, is_ok, is_some, all, Text, same, ascending}
use Rattle.spec.specs.Values.{EntityUID, entity_uid, Value, prim, record_of, same_uid, Entities, Request}
use Rattle.spec.specs.Exprs.{substitute_action}
use Rattle.spec.specs.Evaluate.{Error, evaluate}
use Rattle.spec.specs.Policies.{Policy, Policies, to_expr}
use Rattle.spec.specs.Types.{any_bool, CedarType, bool, entity, record_of, subty, ActionSchemaEntry, Schema, entity_type_key, action_key, find_action, known, RequestType}
use Rattle.spec.specs.Typecheck.{TypeError, unexpected_type, unknown_entity, Typed}
use Rattle.spec.specs.Validate.{well_formed_entry, well_formed_action, well_formed, with_resources, with_principals, request_types_of, request_types, recognized, typecheck_policy, typecheck_all, validate_types, ValidationError, validate_policy, named, validate, instance_of_entity_type, instance_of_request_type, validate_request, valid_entity, action_present, validate_entities}
use Rattle.spec.specs.Promises.{Among, is_truth, truth_or_excused, ValidationIsSound, of_type_or_excused, TypecheckingIsSound}
use Rattle.laws.proofs.Texts.{false-true, same_true}
use Rattle.laws.proofs.Codes.{same_uid-true}
use Rattle.laws.proofs.Found.{all-at, any_at, among-append, finds}
use Rattle.laws.proofs.Fits.{Fits, refused, fine, ends}
use Rattle.laws.proofs.Capabilities.{holds-none}
use Rattle.laws.proofs.Instances.{Instance, a-bool, an_int, a-string, an-entity, a-set, a-record, view, seen, Good}
use Rattle.laws.proofs.Setting.{Setting}
use Rattle.laws.proofs.Soundness.{sound}
use Rattle.laws.proofs.Substitution.{substitution-keeps-meaning}

-- ---- the action of each kind of request is one of the schema's
by-resources : (x : RequestType) (a : ActionSchemaEntry) (p : Text) (rs : List Text) → Among x (with_resources a p rs) → x.action ≡ a.uid
by-resources x a p [] m = absurd m
by-resources x a p (r ∷ rs) (inl e) = ap (λ y. y.action) e
by-resources x a p (r ∷ rs) (inr m) = by-resources x a p rs m

by-principals : (x : RequestType) (a : ActionSchemaEntry) (ps : List Text) → Among x (with_principals a ps) → x.action ≡ a.uid
by-principals x a [] m = absurd m
by-principals x a (p ∷ ps) m = elim (among-append x (with_resources a p a.resources) (with_principals a ps) m) [ inl k ↦ by-resources x a p a.resources k | inr k ↦ by-principals x a ps k ]

by-actions : (x : RequestType) (acts : List ActionSchemaEntry) → Among x (request_types_of acts) → (a : ActionSchemaEntry) × Among a acts × (x.action ≡ a.uid)
by-actions x [] m = absurd m
by-actions x (a ∷ acts) m = elim (among-append x (with_principals a a.principals) (request_types_of acts) m) [ inl k ↦ (a, inl refl, by-principals x a a.principals k) | inr k ↦ later (by-actions x acts k) ]
  where
    later : (b : ActionSchemaEntry) × Among b acts × (x.action ≡ b.uid) → (b : ActionSchemaEntry) × Among b (a ∷ acts) × (x.action ≡ b.uid)
    later (b, n, e) = (b, inr n, e)

-- ---- the kind of a request
pub record OfKind (q : Request) (s : Schema) (k : RequestType) : Type 0 where
  pub among : Among k (request_types s)
  pub who : Instance s (entity k.principal) (prim (entity_uid q.principal))
  pub does : q.action ≡ k.action
  pub known : is_some (find_action k.action s) ≡ true
  pub what : Instance s (entity k.resource) (prim (entity_uid q.resource))
  pub about : Instance s (record_of k.context) (record_of q.context)

kind-of : (q : Request) (s : Schema) → validate_request q s ≡ true → (k : RequestType) × OfKind q s k
unfolding validate_request
kind-of q s h = go (any_at (instance_of_request_type q s) (request_types s) h)
  where
    go : (k : RequestType) × Among k (request_types s) × (instance_of_request_type q s k ≡ true) → (k : RequestType) × OfKind q s k
    go (k, m, e) =
        let p = and_parts (instance_of_entity_type q.principal k.principal s && same_uid q.action k.action) _ e in
        let a = and_parts (instance_of_entity_type q.principal k.principal s) (same_uid q.action k.action) p.0 in
        let b = and_parts (instance_of_entity_type q.resource k.resource s) _ p.1 in
        let (x, n, f) = by-actions k s.acts m in
        let w : is_some (find_action k.action s) ≡ true = rw f (finds action_key x s.acts n) in (
          k,
          record {
            among = m;
            who = view (entity k.principal) (prim (entity_uid q.principal)) a.0;
            does = same_uid-true q.action k.action a.1;
            known = w;
            what = view (entity k.resource) (prim (entity_uid q.resource)) b.0;
            about = view (record_of k.context) (record_of q.context) b.1;
          },
        )

setting : (s : Schema) (r : RequestType) (q : Request) (es : Entities) → well_formed s ≡ true → validate_entities es s ≡ true →
    Instance s (entity r.principal) (prim (entity_uid q.principal)) → q.action ≡ r.action → is_some (find_action r.action s) ≡ true →
    Instance s (entity r.resource) (prim (entity_uid q.resource)) → Instance s (record_of r.context) (record_of q.context) → Setting s r q es
setting s r q es w v who does known what about =
    let p = and_parts (all (valid_entity s) es) (all (action_present es) s.acts) v in
    record {
      who = who;
      does = rw does (an-entity (or_right _ _ known));
      what = what;
      about = about;
      valid = p.0;
      present = p.1;
      well = (and_parts (all (well_formed_entry s) s.ets) (all (well_formed_action s) s.acts) (and_parts (ascending entity_type_key s.ets && ascending action_key s.acts) _ w).1).1;
    }

-- ---- typechecking
type-fits : {s : Schema} {q : Request} {es : Entities} {T : Except TypeError Typed} {x : Except Error Value} (a : Typed) → Fits (Good s q es) T x → T ≡ ok a → of_type_or_excused a.0 s x ≡ true
type-fits a refused e = cc
type-fits a (fine {a = b} g) e = let ba : b ≡ a = cc in rw (← ba) (seen g.is)
type-fits a (ends h) e = h

known_of : {s : Schema} (u : EntityUID) {n : Text} (m : Text) → Instance s (entity n) (prim (entity_uid u)) → same u.ty m ≡ true → Instance s (entity m) (prim (entity_uid u))
known_of u m (an-entity h) e = rw (← same_true u.ty m e) (an-entity h)

pub typechecking-is-sound : TypecheckingIsSound
typechecking-is-sound s r q es x t c w v h hp ha hr hc e =
    let (k, i) = kind-of q s h in
    let g = setting s r q es w v (known_of q.principal r.principal i.who hp) ha (rw (sym i.does ∙ ha) at i.known)
    (known_of q.resource r.resource i.what hr) (view (record_of r.context) (record_of q.context) hc) in
    type-fits (t, c) (sound g x [] holds-none) e

-- ---- policies
truth-of : {s : Schema} {t : CedarType} {v : Value} → Instance s t v → is_ok (cond (subty t (bool any_bool)) (ok t) (error unexpected_type)) ≡ true → is_truth v ≡ true
truth-of (a-bool i) h = refl
truth-of an_int h = false-true h
truth-of a-string h = false-true h
truth-of (an-entity k) h = false-true h
truth-of (a-set k) h = false-true h
truth-of (a-record k m) h = false-true h

policy-fits : {s : Schema} {q : Request} {es : Entities} {T : Except TypeError Typed} {x : Except Error Value} → Fits (Good s q es) T x →
    is_ok (T >>= λ a. cond (subty a.0 (bool any_bool)) (ok a.0) (error unexpected_type)) ≡ true → truth_or_excused x ≡ true
policy-fits refused h = false-true h
policy-fits (fine g) h = truth-of g.is h
policy-fits (ends e) h = e

-- a policy that was validated has the type of a truth for each kind
each-kind : (p : Policy) (s : Schema) (rs : List RequestType) → is_ok (typecheck_all p s rs) ≡ true → all (λ r. is_ok (typecheck_policy p s r)) rs ≡ true
each-kind p s [] h = refl
each-kind p s (r ∷ rs) h = go (typecheck_policy p s r) (typecheck_all p s rs) (each-kind p s rs) h
  where
    go : (x : Except TypeError CedarType) (y : Except TypeError (List CedarType)) → (is_ok y ≡ true → all (λ r. is_ok (typecheck_policy p s r)) rs ≡ true) →
        is_ok (x >>= λ t. y >>= λ ts. ok (t ∷ ts)) ≡ true → (is_ok x && all (λ r. is_ok (typecheck_policy p s r)) rs) ≡ true
    go (ok t) (ok ts) ih k = ih refl
    go (ok t) (error e) ih k = false-true k
    go (error e) y ih k = k

policy-kinds : (p : Policy) (s : Schema) → is_ok (validate_policy p s) ≡ true → is_ok (typecheck_all p s (request_types s)) ≡ true
unfolding validate_policy
policy-kinds p s h = go (recognized (to_expr p) s) (typecheck_all p s (request_types s)) h
  where
    go : (b : Bool) (x : Except TypeError (List CedarType)) → is_ok (cond b (validate_types x) (error (ValidationError.type_error unknown_entity))) ≡ true → is_ok x ≡ true
    go true (ok ts) k = refl
    go true (error e) k = k
    go false x k = false-true k

policy-at : (p : Policy) (ps : Policies) (s : Schema) → is_ok (validate ps s) ≡ true → Among p ps → is_ok (validate_policy p s) ≡ true
policy-at p [] s h m = absurd m
policy-at p (x ∷ ps) s h m = go (validate_policy x s) refl h m (policy-at p ps s)
  where
    go : (y : Except ValidationError (Unit {0})) → validate_policy x s ≡ y → is_ok (named x.id y >>= λ _. validate ps s) ≡ true → Among p (x ∷ ps) →
        (is_ok (validate ps s) ≡ true → Among p ps → is_ok (validate_policy p s) ≡ true) → is_ok (validate_policy p s) ≡ true
    go (error e) f k n ih = false-true k
    go (ok u) f k (inl n) ih = rw (n, f) refl
    go (ok u) f k (inr n) ih = ih k n

pub validation-is-sound : ValidationIsSound
unfolding typecheck_policy
validation-is-sound s ps p q es w a h v m =
    let (k, i) = kind-of q s h in
    let g = setting s k q es w v i.who i.does i.known i.what i.about in
    let o = all-at (λ r. is_ok (typecheck_policy p s r)) k (request_types s) (each-kind p s (request_types s) (policy-kinds p s (policy-at p ps s (ap is_ok a) m))) i.among in
    let z = policy-fits (sound g (substitute_action k.action (to_expr p)) [] holds-none) o in
    ap truth_or_excused (sym (substitution-keeps-meaning (to_expr p) q es) ∙ ap (λ u. evaluate (substitute_action u (to_expr p)) q es) i.does) ∙ z
