-- What a store is told and asked, what it answers, and what each call leaves in it. Assumes nothing: these are definitions.
use Rattle.std.specs.Prelude.{Bool, true, cond, ◌&&◌, ◌||◌, List, [], ◌∷◌, ℕ, suc, ◌+◌, ◌-◌, ltb, leb, eqb, length}
use Rattle.std.proofs.Math.Option.{Option, some, none}
use Rattle.spec.specs.Basics.{Except, ok, error, is_some, all, Text, insert, find, remove, ascending, name}
use Rattle.spec.specs.Values.{EntityUID, Primitive, bool, int, string, entity_uid, Value, prim, set, record_of, Values, nil, cons, Attrs, empty, attr, elements, fields, code_uid, code, Entity, Entities, entity_key, find_entity, Request}
use Rattle.spec.specs.Exprs.{UnaryOp, not, neg, is_empty, like, is, Expr, lit, var, ite, and, or, unary_app, binary_app, get_attr, has_attr, set, record_of, Exprs, nil, cons, ExprAttrs, empty, attr}
use Rattle.spec.specs.Policies.{Scope, any, eq, mem, is, is_mem, ActionScope, in_scope, action_in_any, Condition, Policy, Policies, policy_key, Response, is_authorized}
use Rattle.spec.specs.Types.{CedarType, bool, int, string, entity, set, record_of, RecordType, empty, attr, EntitySchemaEntry, ActionSchemaEntry, Schema}
use Rattle.spec.specs.Validate.{well_formed, ValidationError, Invalid, validate, validate_request, validate_entities}

-- ---- calls
pub data Call : Type 0 where
  set_schema : Schema → Call  -- in place of the old one
  put_policy : Policy → Call  -- new, or in place of the one with its id
  remove_policy : Text → Call
  put_entity : Entity → Call  -- new, or in place of the one with its name
  remove_entity : EntityUID → Call
  validate_policies : Call
  authorize : Request → Call
  malformed : ℕ → Call  -- bytes that are no call, and the place where they cease to be one

abbrev pub call_number : Call → ℕ
call_number (set_schema s) = 0
call_number (put_policy p) = 1
call_number (remove_policy t) = 2
call_number (put_entity e) = 3
call_number (remove_entity u) = 4
call_number validate_policies = 5
call_number (authorize q) = 6
call_number (malformed k) = 255

-- ---- a store: a schema, policies by ids, entities by names
pub record Store : Type 0 where
  pub schema : Schema
  pub policies : Policies
  pub entities : Entities

abbrev pub empty_store : Store
empty_store = record { schema = record { ets = []; acts = [] }; policies = []; entities = [] }

-- which calls are done, by their numbers, and how large a store may be
pub record Limits : Type 0 where
  pub supports : ℕ → Bool
  pub capacity : ℕ

-- ---- sizes: one for each part and each byte
abbrev pub size_text : Text → ℕ
size_text t = suc (length t)

abbrev pub size_uid : EntityUID → ℕ
size_uid u = size_text u.ty + size_text u.eid

abbrev pub size_primitive : Primitive → ℕ
size_primitive (bool b) = 1
size_primitive (int n) = 1
size_primitive (string t) = size_text t
size_primitive (entity_uid u) = size_uid u

abbrev pub sum_of : {A : Type 0} → (A → ℕ) → List A → ℕ
sum_of f [] = 0
sum_of f (x ∷ xs) = f x + sum_of f xs

abbrev mutual
  pub size_value : Value → ℕ
  size_value (prim p) = size_primitive p
  size_value (set vs) = suc (size_values vs)
  size_value (record_of r) = suc (size_attrs r)

  pub size_values : Values → ℕ
  size_values nil = 0
  size_values (cons v vs) = size_value v + size_values vs

  pub size_attrs : Attrs → ℕ
  size_attrs empty = 0
  size_attrs (attr a v r) = size_text a + (size_value v + size_attrs r)

abbrev pub size_op : UnaryOp → ℕ
size_op not = 1
size_op neg = 1
size_op is_empty = 1
size_op (like p) = size_text p
size_op (is t) = size_text t

abbrev mutual
  pub size_expr : Expr → ℕ
  size_expr (lit p) = size_primitive p
  size_expr (var v) = 1
  size_expr (ite x y z) = suc (size_expr x + (size_expr y + size_expr z))
  size_expr (and x y) = suc (size_expr x + size_expr y)
  size_expr (or x y) = suc (size_expr x + size_expr y)
  size_expr (unary_app o x) = size_op o + size_expr x
  size_expr (binary_app o x y) = suc (size_expr x + size_expr y)
  size_expr (get_attr x a) = size_text a + size_expr x
  size_expr (has_attr x a) = size_text a + size_expr x
  size_expr (set xs) = suc (size_exprs xs)
  size_expr (record_of xs) = suc (size_expr_attrs xs)

  pub size_exprs : Exprs → ℕ
  size_exprs nil = 0
  size_exprs (cons x xs) = size_expr x + size_exprs xs

  pub size_expr_attrs : ExprAttrs → ℕ
  size_expr_attrs empty = 0
  size_expr_attrs (attr a x xs) = size_text a + (size_expr x + size_expr_attrs xs)

abbrev mutual
  pub size_type : CedarType → ℕ
  size_type (bool b) = 1
  size_type int = 1
  size_type string = 1
  size_type (entity n) = size_text n
  size_type (set t) = suc (size_type t)
  size_type (record_of ts) = suc (size_record_type ts)

  pub size_record_type : RecordType → ℕ
  size_record_type empty = 0
  size_record_type (attr a r t ts) = size_text a + (size_type t + size_record_type ts)

abbrev pub size_scope : Scope → ℕ
size_scope any = 1
size_scope (eq u) = size_uid u
size_scope (mem u) = size_uid u
size_scope (is t) = size_text t
size_scope (is_mem t u) = size_text t + size_uid u

abbrev pub size_action_scope : ActionScope → ℕ
size_action_scope (in_scope s) = size_scope s
size_action_scope (action_in_any us) = suc (sum_of size_uid us)

abbrev pub size_condition : Condition → ℕ
size_condition c = suc (size_expr c.body)

abbrev pub size_policy : Policy → ℕ
size_policy p =
    (size_text p.id + size_scope p.principal_scope) + ((size_action_scope p.action_scope + size_scope p.resource_scope) + sum_of size_condition p.conditions)

abbrev pub size_entity : Entity → ℕ
size_entity e = (size_uid e.uid + size_attrs e.attrs) + (sum_of size_uid e.ancestors + size_attrs e.tags)

abbrev pub size_entry : EntitySchemaEntry → ℕ
size_entry d = (size_text d.name + sum_of size_text d.ancestors) + (size_record_type d.attrs + sum_of size_type d.tags)

abbrev pub size_action : ActionSchemaEntry → ℕ
size_action a =
    (size_uid a.uid + sum_of size_text a.principals) + (sum_of size_text a.resources + (sum_of size_uid a.ancestors + size_record_type a.context))

abbrev pub size_schema : Schema → ℕ
size_schema s = sum_of size_entry s.ets + sum_of size_action s.acts

abbrev pub size_request : Request → ℕ
size_request q = (size_uid q.principal + size_uid q.action) + (size_uid q.resource + size_attrs q.context)

abbrev pub size_store : Store → ℕ
size_store s = size_schema s.schema + (sum_of size_policy s.policies + sum_of size_entity s.entities)

-- a policy or a request is at most so large
abbrev pub most_size : ℕ
most_size = 65536

-- ---- canonical values: the elements of a set in the order of values, each once; the attributes of a record in the order of names, each once
abbrev mutual
  pub canonical : Value → Bool
  canonical (prim p) = true
  canonical (set vs) = ascending code (elements vs) && canonical_all vs
  canonical (record_of r) = ascending name (fields r) && canonical_attrs r

  pub canonical_all : Values → Bool
  canonical_all nil = true
  canonical_all (cons v vs) = canonical v && canonical_all vs

  pub canonical_attrs : Attrs → Bool
  canonical_attrs empty = true
  canonical_attrs (attr a v r) = canonical v && canonical_attrs r

abbrev pub canonical_record : Attrs → Bool
canonical_record r = canonical (record_of r)

-- ---- what a call changes, if it is taken
abbrev pub changed : Store → Call → Store
changed s (set_schema d) = record { schema = d; policies = s.policies; entities = s.entities }
changed s (put_policy p) = record { schema = s.schema; policies = insert policy_key p s.policies; entities = s.entities }
changed s (remove_policy t) = record { schema = s.schema; policies = remove policy_key t s.policies; entities = s.entities }
changed s (put_entity e) = record { schema = s.schema; policies = s.policies; entities = insert entity_key e s.entities }
changed s (remove_entity u) = record { schema = s.schema; policies = s.policies; entities = remove entity_key (code_uid u) s.entities }
changed s validate_policies = s
changed s (authorize q) = s
changed s (malformed k) = s

-- ---- why a call is refused
pub data Refusal : Type 0 where
  not_a_call : Refusal  -- bytes that are no call
  inadmissible : Refusal  -- not canonical, a policy or request that is too large, or a call that is not done
  schema_not_well_formed : Refusal
  not_found : Refusal  -- a policy or an entity that is not there
  over_capacity : Refusal

abbrev pub refusal_number : Refusal → ℕ
refusal_number not_a_call = 1
refusal_number inadmissible = 2
refusal_number schema_not_well_formed = 3
refusal_number not_found = 4
refusal_number over_capacity = 5

-- what a call carries is as it is kept, and not too large
abbrev pub admissible : Call → Bool
admissible (set_schema s) = true
admissible (put_policy p) = leb (size_policy p) most_size
admissible (remove_policy t) = true
admissible (put_entity e) = (canonical_record e.attrs && canonical_record e.tags) && ascending code_uid e.ancestors
admissible (remove_entity u) = true
admissible validate_policies = true
admissible (authorize q) = canonical_record q.context && leb (size_request q) most_size
admissible (malformed k) = true

abbrev pub unless : Bool → Refusal → Option Refusal
unless b r = cond b none (some r)

abbrev pub fits : Limits → Store → Bool
fits l s = leb (size_store s) l.capacity

-- by what it carries and what the store holds
abbrev pub refused_by : Limits → Store → Call → Option Refusal
refused_by l s (set_schema d) = cond (well_formed d) (unless (fits l (changed s (set_schema d))) over_capacity) (some schema_not_well_formed)
refused_by l s (put_policy p) = unless (fits l (changed s (put_policy p))) over_capacity
refused_by l s (remove_policy t) = unless (is_some (find policy_key t s.policies)) not_found
refused_by l s (put_entity e) = unless (fits l (changed s (put_entity e))) over_capacity
refused_by l s (remove_entity u) = unless (is_some (find_entity u s.entities)) not_found
refused_by l s validate_policies = none
refused_by l s (authorize q) = none
refused_by l s (malformed k) = some not_a_call

-- bytes that are no call have no number, which 255 says
abbrev pub supported : Limits → Call → Bool
supported l c = eqb (call_number c) 255 || l.supports (call_number c)

unfoldable pub refusal : Limits → Store → Call → Option Refusal
refusal l s c = cond (supported l c && admissible c) (refused_by l s c) (some inadmissible)

-- where: of bytes that are no call the place where they cease to be one
abbrev pub place : Call → ℕ
place (set_schema s) = 0
place (put_policy p) = 0
place (remove_policy t) = 0
place (put_entity e) = 0
place (remove_entity u) = 0
place validate_policies = 0
place (authorize q) = 0
place (malformed k) = k

-- ---- answers
pub data Answer : Type 0 where
  refused : Refusal → ℕ → Answer
  done : Answer
  all_valid : Answer
  not_valid : Text → ValidationError → Answer  -- the first policy, by ids, that is not validated
  authorized : Response → Bool → Bool → Answer  -- and whether the request, and all entities, fit the schema

abbrev pub answer_number : Answer → ℕ
answer_number (refused r k) = 0
answer_number done = 1
answer_number all_valid = 2
answer_number (not_valid t e) = 3
answer_number (authorized r b c) = 4

abbrev pub validation_answer : {A : Type 0} → Except Invalid A → Answer
validation_answer (ok u) = all_valid
validation_answer (error i) = not_valid i.policy i.why

-- the answer to a call that is taken
abbrev pub taken : Store → Call → Answer
taken s (set_schema d) = done
taken s (put_policy p) = done
taken s (remove_policy t) = done
taken s (put_entity e) = done
taken s (remove_entity u) = done
taken s validate_policies = validation_answer (validate s.policies s.schema)
taken s (authorize q) = authorized (is_authorized q s.entities s.policies) (validate_request q s.schema) (validate_entities s.entities s.schema)
taken s (malformed k) = done

abbrev pub answer_by : Option Refusal → Store → Call → Answer
answer_by (some r) s c = refused r (place c)
answer_by none s c = taken s c

abbrev pub answer : Limits → Store → Call → Answer
answer l s c = answer_by (refusal l s c) s c

abbrev pub after_by : Option Refusal → Store → Call → Store
after_by (some r) s c = s
after_by none s c = changed s c

abbrev pub after_call : Limits → Store → Call → Store
after_call l s c = after_by (refusal l s c) s c

-- the store after all calls so far, the last first
abbrev pub store_after : Limits → List Call → Store
store_after l [] = empty_store
store_after l (c ∷ cs) = after_call l (store_after l cs) c

-- ---- what the bytes of a call can carry: bytes below 256, patterns with `star`, numbers and lengths below 2^64, and nothing deeper than 64
abbrev pub is_word : ℕ → Bool
is_word n = ltb n 18446744073709551616

abbrev pub all_below : ℕ → List ℕ → Bool
all_below b xs = all (λ x. ltb x b) xs

abbrev pub is_bytes : Text → Bool
is_bytes t = all_below 256 t && is_word (length t)

abbrev pub is_pattern : List ℕ → Bool
is_pattern p = all_below 257 p && is_word (length p)

abbrev pub encodable_uid : EntityUID → Bool
encodable_uid u = is_bytes u.ty && is_bytes u.eid

abbrev pub encodable_primitive : Primitive → Bool
encodable_primitive (bool b) = true
encodable_primitive (int n) = is_word n
encodable_primitive (string t) = is_bytes t
encodable_primitive (entity_uid u) = encodable_uid u

abbrev pub most_depth : ℕ
most_depth = 64

-- one of the d levels that are left
abbrev pub level : ℕ → Bool
level d = ltb 0 d

abbrev mutual
  pub encodable_value : Value → ℕ → Bool
  encodable_value (prim p) d = encodable_primitive p
  encodable_value (set vs) d = level d && encodable_values vs (d - 1)
  encodable_value (record_of r) d = level d && encodable_attrs r (d - 1)

  pub encodable_values : Values → ℕ → Bool
  encodable_values nil d = true
  encodable_values (cons v vs) d = encodable_value v d && encodable_values vs d

  pub encodable_attrs : Attrs → ℕ → Bool
  encodable_attrs empty d = true
  encodable_attrs (attr a v r) d = is_bytes a && (encodable_value v d && encodable_attrs r d)

abbrev pub encodable_op : UnaryOp → Bool
encodable_op not = true
encodable_op neg = true
encodable_op is_empty = true
encodable_op (like p) = is_pattern p
encodable_op (is t) = is_bytes t

abbrev mutual
  pub encodable_expr : Expr → ℕ → Bool
  encodable_expr (lit p) d = encodable_primitive p
  encodable_expr (var v) d = true
  encodable_expr (ite x y z) d = level d && (encodable_expr x (d - 1) && (encodable_expr y (d - 1) && encodable_expr z (d - 1)))
  encodable_expr (and x y) d = level d && (encodable_expr x (d - 1) && encodable_expr y (d - 1))
  encodable_expr (or x y) d = level d && (encodable_expr x (d - 1) && encodable_expr y (d - 1))
  encodable_expr (unary_app o x) d = level d && (encodable_op o && encodable_expr x (d - 1))
  encodable_expr (binary_app o x y) d = level d && (encodable_expr x (d - 1) && encodable_expr y (d - 1))
  encodable_expr (get_attr x a) d = level d && (is_bytes a && encodable_expr x (d - 1))
  encodable_expr (has_attr x a) d = level d && (is_bytes a && encodable_expr x (d - 1))
  encodable_expr (set xs) d = level d && encodable_exprs xs (d - 1)
  encodable_expr (record_of xs) d = level d && encodable_expr_attrs xs (d - 1)

  pub encodable_exprs : Exprs → ℕ → Bool
  encodable_exprs nil d = true
  encodable_exprs (cons x xs) d = encodable_expr x d && encodable_exprs xs d

  pub encodable_expr_attrs : ExprAttrs → ℕ → Bool
  encodable_expr_attrs empty d = true
  encodable_expr_attrs (attr a x xs) d = is_bytes a && (encodable_expr x d && encodable_expr_attrs xs d)

abbrev mutual
  pub encodable_type : CedarType → ℕ → Bool
  encodable_type (bool b) d = true
  encodable_type int d = true
  encodable_type string d = true
  encodable_type (entity n) d = is_bytes n
  encodable_type (set t) d = level d && encodable_type t (d - 1)
  encodable_type (record_of ts) d = level d && encodable_record_type ts (d - 1)

  pub encodable_record_type : RecordType → ℕ → Bool
  encodable_record_type empty d = true
  encodable_record_type (attr a r t ts) d = is_bytes a && (encodable_type t d && encodable_record_type ts d)

abbrev pub encodable_scope : Scope → Bool
encodable_scope any = true
encodable_scope (eq u) = encodable_uid u
encodable_scope (mem u) = encodable_uid u
encodable_scope (is t) = is_bytes t
encodable_scope (is_mem t u) = is_bytes t && encodable_uid u

abbrev pub encodable_action_scope : ActionScope → Bool
encodable_action_scope (in_scope s) = encodable_scope s
encodable_action_scope (action_in_any us) = all encodable_uid us

abbrev pub encodable_entry : EntitySchemaEntry → Bool
encodable_entry d =
    (is_bytes d.name && all is_bytes d.ancestors) && (encodable_type (record_of d.attrs) most_depth && all (λ t. encodable_type t most_depth) d.tags)

abbrev pub encodable_action : ActionSchemaEntry → Bool
encodable_action a =
    (encodable_uid a.uid && all is_bytes a.principals)
    && (all is_bytes a.resources && (all encodable_uid a.ancestors && encodable_type (record_of a.context) most_depth))

abbrev pub encodable : Call → Bool
encodable (set_schema s) = all encodable_entry s.ets && all encodable_action s.acts
encodable (put_policy p) =
    (is_bytes p.id && encodable_scope p.principal_scope)
    && ((encodable_action_scope p.action_scope && encodable_scope p.resource_scope) && all (λ c. encodable_expr c.body most_depth) p.conditions)
encodable (remove_policy t) = is_bytes t
encodable (put_entity e) =
    (encodable_uid e.uid && encodable_value (record_of e.attrs) most_depth) && (all encodable_uid e.ancestors && encodable_value (record_of e.tags) most_depth)
encodable (remove_entity u) = encodable_uid u
encodable validate_policies = true
encodable (authorize q) =
    (encodable_uid q.principal && encodable_uid q.action) && (encodable_uid q.resource && encodable_value (record_of q.context) most_depth)
encodable (malformed k) = is_word k
