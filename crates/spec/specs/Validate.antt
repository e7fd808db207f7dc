-- Schemas that are well-formed, policies that are validated by them, and requests and entities that fit. Assumes nothing: these are definitions.
use Rattle.std.specs.Prelude.{Bool, true, false, cond, not as flip, ◌&&◌, ◌||◌, List, [], ◌∷◌, ◌++◌, ℕ, leb, length}
use Rattle.std.proofs.Math.Option.{Option, some, none}
use Rattle.spec.specs.Basics.{Except, ok, error, ◌>>=◌, is_some, on_some, any, all, is_empty as is_nil, Text, same, ascending, itself, lookup, name}
use Rattle.spec.specs.Values.{EntityUID, Primitive, bool, int, string, entity_uid, Value, prim, set, record_of, Values, nil, cons, Attrs, empty, attr, fields, code_uid, same_uid, Entity, Entities, find_entity, Request}
use Rattle.spec.specs.Exprs.{UnaryOp, not, neg, is_empty, like, is, Expr, lit, var, ite, and, or, unary_app, binary_app, get_attr, has_attr, set, record_of, Exprs, nil, cons, ExprAttrs, empty, attr, substitute_action}
use Rattle.spec.specs.Policies.{Policy, Policies, to_expr}
use Rattle.spec.specs.Types.{BoolType, any_bool, is_true, is_false, CedarType, bool, int, string, entity, set, record_of, RecordType, empty, attr, same_type, attributes, subty, EntitySchemaEntry, tag_type, ActionSchemaEntry, Schema, entity_type_key, action_key, find_entity_type, find_action, known_type, known, RequestType, TypeEnv}
use Rattle.spec.specs.Typecheck.{TypeError, unexpected_type, unknown_entity, type_error_number, type_of}

-- ---- a well-formed schema: names and lists are in order, each once; all that is named is in it; truths may be either;
-- what is above an action above an action is above that action, which is not above itself; no action's type is a type of entities
abbrev mutual
  pub well_formed_type : CedarType → Schema → Bool
  well_formed_type (bool any_bool) s = true
  well_formed_type (bool is_true) s = false
  well_formed_type (bool is_false) s = false
  well_formed_type int s = true
  well_formed_type string s = true
  well_formed_type (entity n) s = known_type s n
  well_formed_type (set t) s = well_formed_type t s
  well_formed_type (record_of ts) s = ascending name (attributes ts) && well_formed_attrs ts s

  pub well_formed_attrs : RecordType → Schema → Bool
  well_formed_attrs empty s = true
  well_formed_attrs (attr a r t ts) s = well_formed_type t s && well_formed_attrs ts s

abbrev pub well_formed_entry : Schema → EntitySchemaEntry → Bool
well_formed_entry s d =
    (ascending itself d.ancestors && all (λ n. is_some (find_entity_type n s)) d.ancestors)
    && (well_formed_type (record_of d.attrs) s && (leb (length d.tags) 1 && all (λ t. well_formed_type t s) d.tags))

abbrev pub all_in : List EntityUID → List EntityUID → Bool
all_in us vs = all (λ u. any (same_uid u) vs) us

-- what is above b is above a, if b is
abbrev pub closed_at : ActionSchemaEntry → ActionSchemaEntry → Bool
closed_at a b = cond (any (same_uid b.uid) a.ancestors) (all_in b.ancestors a.ancestors) true

abbrev pub well_formed_action : Schema → ActionSchemaEntry → Bool
well_formed_action s a =
    ((ascending itself a.principals && ascending itself a.resources) && (ascending code_uid a.ancestors && flip (is_some (find_entity_type a.uid.ty s))))
    && (((all (known_type s) a.principals && all (known_type s) a.resources) && (all (λ u. is_some (find_action u s)) a.ancestors && well_formed_type (record_of a.context) s))
    && (flip (any (same_uid a.uid) a.ancestors) && all (closed_at a) s.acts))

abbrev pub well_formed : Schema → Bool
well_formed s =
    (ascending entity_type_key s.ets && ascending action_key s.acts) && (all (well_formed_entry s) s.ets && all (well_formed_action s) s.acts)

-- ---- all kinds of requests: each action with each type of principals and each of resources, in this order
abbrev pub with_resources : ActionSchemaEntry → Text → List Text → List RequestType
with_resources a p [] = []
with_resources a p (r ∷ rs) = record { principal = p; action = a.uid; resource = r; context = a.context } ∷ with_resources a p rs

abbrev pub with_principals : ActionSchemaEntry → List Text → List RequestType
with_principals a [] = []
with_principals a (p ∷ ps) = with_resources a p a.resources ++ with_principals a ps

abbrev pub request_types_of : List ActionSchemaEntry → List RequestType
request_types_of [] = []
request_types_of (a ∷ xs) = with_principals a a.principals ++ request_types_of xs

abbrev pub request_types : Schema → List RequestType
request_types s = request_types_of s.acts

-- ---- a policy is validated if all that it names is known, also where it is never come to; and it has the type of a truth for each kind of request,
-- with that action in place of the word, and is not only false for all of them
abbrev pub recognized_primitive : Primitive → Schema → Bool
recognized_primitive (bool b) s = true
recognized_primitive (int n) s = true
recognized_primitive (string t) s = true
recognized_primitive (entity_uid u) s = known s u

abbrev pub recognized_op : UnaryOp → Schema → Bool
recognized_op not s = true
recognized_op neg s = true
recognized_op is_empty s = true
recognized_op (like p) s = true
recognized_op (is n) s = known_type s n

abbrev mutual
  pub recognized : Expr → Schema → Bool
  recognized (lit p) s = recognized_primitive p s
  recognized (var v) s = true
  recognized (ite x y z) s = recognized x s && (recognized y s && recognized z s)
  recognized (and x y) s = recognized x s && recognized y s
  recognized (or x y) s = recognized x s && recognized y s
  recognized (unary_app o x) s = recognized_op o s && recognized x s
  recognized (binary_app o x y) s = recognized x s && recognized y s
  recognized (get_attr x a) s = recognized x s
  recognized (has_attr x a) s = recognized x s
  recognized (set xs) s = recognized_all xs s
  recognized (record_of xs) s = recognized_attrs xs s

  pub recognized_all : Exprs → Schema → Bool
  recognized_all nil s = true
  recognized_all (cons x xs) s = recognized x s && recognized_all xs s

  pub recognized_attrs : ExprAttrs → Schema → Bool
  recognized_attrs empty s = true
  recognized_attrs (attr a x xs) s = recognized x s && recognized_attrs xs s

abbrev pub type_env : Schema → RequestType → TypeEnv
type_env s r = record { schema = s; reqty = r }

unfoldable pub typecheck_policy : Policy → Schema → RequestType → Except TypeError CedarType
typecheck_policy p s r = do
  (t, _) ← type_of (substitute_action r.action (to_expr p)) [] (type_env s r)
  cond (subty t (bool any_bool)) (ok t) (error unexpected_type)

-- the types that a policy has for all kinds of requests, or the first error
abbrev pub typecheck_all : Policy → Schema → List RequestType → Except TypeError (List CedarType)
typecheck_all p s [] = ok []
typecheck_all p s (r ∷ rs) = do
  t ← typecheck_policy p s r
  ts ← typecheck_all p s rs
  ok (t ∷ ts)

pub data ValidationError : Type 0 where
  type_error : TypeError → ValidationError
  impossible_policy : ValidationError

abbrev pub validation_error_number : ValidationError → ℕ
validation_error_number (type_error e) = type_error_number e
validation_error_number impossible_policy = 7

abbrev pub all_false : List CedarType → Bool
all_false ts = all (λ t. same_type t (bool is_false)) ts

abbrev pub validate_types : Except TypeError (List CedarType) → Except ValidationError (Unit {0})
validate_types (ok ts) = cond (all_false ts) (error impossible_policy) (ok tt)
validate_types (error e) = error (type_error e)

unfoldable pub validate_policy : Policy → Schema → Except ValidationError (Unit {0})
validate_policy p s = cond (recognized (to_expr p) s) (validate_types (typecheck_all p s (request_types s))) (error (type_error unknown_entity))

-- the first policy that is not validated, and why
pub record Invalid : Type 0 where
  pub policy : Text
  pub why : ValidationError

abbrev pub named : Text → Except ValidationError (Unit {0}) → Except Invalid (Unit {0})
named n (ok u) = ok tt
named n (error e) = error (record { policy = n; why = e })

abbrev pub validate : Policies → Schema → Except Invalid (Unit {0})
validate [] s = ok tt
validate (p ∷ ps) s = do
  _ ← named p.id (validate_policy p s)
  validate ps s

-- ---- values of a type
abbrev pub instance_of_bool_type : Bool → BoolType → Bool
instance_of_bool_type b any_bool = true
instance_of_bool_type b is_true = b
instance_of_bool_type b is_false = flip b

abbrev pub instance_of_entity_type : EntityUID → Text → Schema → Bool
instance_of_entity_type u n s = same n u.ty && known s u

-- all that is required is there
abbrev pub required_present : Attrs → RecordType → Bool
required_present r ts = all (λ q. flip q.1.required || is_some (lookup q.0 (fields r))) (attributes ts)

abbrev pub instance_of_primitive : Primitive → CedarType → Schema → Bool
instance_of_primitive (bool b) (bool t) s = instance_of_bool_type b t
instance_of_primitive (bool b) int s = false
instance_of_primitive (bool b) string s = false
instance_of_primitive (bool b) (entity n) s = false
instance_of_primitive (bool b) (set t) s = false
instance_of_primitive (bool b) (record_of ts) s = false
instance_of_primitive (int n) (bool t) s = false
instance_of_primitive (int n) int s = true
instance_of_primitive (int n) string s = false
instance_of_primitive (int n) (entity m) s = false
instance_of_primitive (int n) (set t) s = false
instance_of_primitive (int n) (record_of ts) s = false
instance_of_primitive (string x) (bool t) s = false
instance_of_primitive (string x) int s = false
instance_of_primitive (string x) string s = true
instance_of_primitive (string x) (entity n) s = false
instance_of_primitive (string x) (set t) s = false
instance_of_primitive (string x) (record_of ts) s = false
instance_of_primitive (entity_uid u) (bool t) s = false
instance_of_primitive (entity_uid u) int s = false
instance_of_primitive (entity_uid u) string s = false
instance_of_primitive (entity_uid u) (entity n) s = instance_of_entity_type u n s
instance_of_primitive (entity_uid u) (set t) s = false
instance_of_primitive (entity_uid u) (record_of ts) s = false

abbrev mutual
  pub instance_of_type : Value → CedarType → Schema → Bool
  instance_of_type (prim p) t s = instance_of_primitive p t s
  instance_of_type (set vs) (bool t) s = false
  instance_of_type (set vs) int s = false
  instance_of_type (set vs) string s = false
  instance_of_type (set vs) (entity n) s = false
  instance_of_type (set vs) (set t) s = all_instances vs t s
  instance_of_type (set vs) (record_of ts) s = false
  instance_of_type (record_of r) (bool t) s = false
  instance_of_type (record_of r) int s = false
  instance_of_type (record_of r) string s = false
  instance_of_type (record_of r) (entity n) s = false
  instance_of_type (record_of r) (set t) s = false
  instance_of_type (record_of r) (record_of ts) s = attr_instances r ts s && required_present r ts

  pub all_instances : Values → CedarType → Schema → Bool
  all_instances nil t s = true
  all_instances (cons v vs) t s = instance_of_type v t s && all_instances vs t s

  -- each attribute is one of the type's, with a value of its type
  pub attr_instances : Attrs → RecordType → Schema → Bool
  attr_instances empty ts s = true
  attr_instances (attr a v r) ts s = on_some (lookup a (attributes ts)) (λ q. instance_of_type v q.type s) && attr_instances r ts s

-- ---- a request fits if it is of some kind
abbrev pub instance_of_request_type : Request → Schema → RequestType → Bool
instance_of_request_type q s r =
    (instance_of_entity_type q.principal r.principal s && same_uid q.action r.action)
    && (instance_of_entity_type q.resource r.resource s && instance_of_type (record_of q.context) (record_of r.context) s)

unfoldable pub validate_request : Request → Schema → Bool
validate_request q s = any (instance_of_request_type q s) (request_types s)

-- ---- entities fit if each is as its type says, or is an action without attributes and tags that is in just the actions above it; and all actions are there
abbrev pub tag_instances : Option CedarType → Attrs → Schema → Bool
tag_instances (some t) r s = all (λ f. instance_of_type f.1 t s) (fields r)
tag_instances none r s = is_nil (fields r)

abbrev pub valid_ancestor : EntitySchemaEntry → Schema → EntityUID → Bool
valid_ancestor d s u = any (same u.ty) d.ancestors && known s u

abbrev pub valid_action : Option ActionSchemaEntry → Entity → Bool
valid_action (some a) e = (is_nil (fields e.attrs) && is_nil (fields e.tags)) && (all_in e.ancestors a.ancestors && all_in a.ancestors e.ancestors)
valid_action none e = false

abbrev pub valid_entity_by : Option EntitySchemaEntry → Entity → Schema → Bool
valid_entity_by (some d) e s =
    (instance_of_type (record_of e.attrs) (record_of d.attrs) s && all (valid_ancestor d s) e.ancestors) && tag_instances (tag_type d) e.tags s
valid_entity_by none e s = valid_action (find_action e.uid s) e

unfoldable pub valid_entity : Schema → Entity → Bool
valid_entity s e = valid_entity_by (find_entity_type e.uid.ty s) e s

unfoldable pub action_present : Entities → ActionSchemaEntry → Bool
action_present es a = is_some (find_entity a.uid es)

abbrev pub validate_entities : Entities → Schema → Bool
validate_entities es s = all (valid_entity s) es && all (action_present es) s.acts
