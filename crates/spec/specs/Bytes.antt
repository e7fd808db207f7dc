-- The bytes of calls and answers. Assumes nothing: these are definitions.
use Rattle.std.specs.Prelude.{Bool, cond, List, [], ◌∷◌, ◌++◌, ℕ, ◌/◌, ◌%◌, length}
use Rattle.spec.specs.Basics.{Text}
use Rattle.spec.specs.Values.{EntityUID, Primitive, bool, int, string, entity_uid, Value, prim, set, record_of, Values, nil, cons, Attrs, empty, attr, Entity, Request}
use Rattle.spec.specs.Exprs.{Var, principal, action, resource, context, UnaryOp, not, neg, is_empty, like, is, BinaryOp, eq, mem, has_tag, get_tag, less, less_eq, add, sub, mul, contains, contains_all, contains_any, Expr, lit, var, ite, and, or, unary_app, binary_app, get_attr, has_attr, set, record_of, Exprs, nil, cons, ExprAttrs, empty, attr}
use Rattle.spec.specs.Policies.{Effect, permit, forbid, Scope, any, eq, mem, is, is_mem, ActionScope, in_scope, action_in_any, ConditionKind, when, unless, Condition, Policy, Decision, allow, deny}
use Rattle.spec.specs.Types.{BoolType, any_bool, is_true, is_false, CedarType, bool, int, string, entity, set, record_of, RecordType, empty, attr, EntitySchemaEntry, ActionSchemaEntry, Schema}
use Rattle.spec.specs.Validate.{validation_error_number}
use Rattle.spec.specs.Calls.{Call, set_schema, put_policy, remove_policy, put_entity, remove_entity, validate_policies, authorize, malformed, refusal_number, Answer, refused, done, all_valid, not_valid, authorized}

abbrev pub Bytes : Type 0
Bytes = List ℕ

-- ---- numbers, texts and lists
-- eight bytes, the greatest first
unfoldable pub encode_word : ℕ → Bytes
encode_word n = n / 72057594037927936 % 256 ∷ (n / 281474976710656 % 256 ∷ (n / 1099511627776 % 256 ∷ (n / 4294967296 % 256 ∷ (n / 16777216 % 256 ∷ (n / 65536 % 256 ∷ (n / 256 % 256 ∷ (n % 256 ∷ [])))))))

-- a text: its length, then its bytes
abbrev pub encode_text : Text → Bytes
encode_text t = encode_word (length t) ++ t

-- a list: a 1 before each of its elements, and a 0 behind them
abbrev pub encode_list : {A : Type 0} → (A → Bytes) → List A → Bytes
encode_list f [] = 0 ∷ []
encode_list f (x ∷ xs) = 1 ∷ (f x ++ encode_list f xs)

abbrev pub encode_bool : Bool → Bytes
encode_bool b = cond b 1 0 ∷ []

abbrev pub encode_uid : EntityUID → Bytes
encode_uid u = encode_text u.ty ++ encode_text u.eid

-- ---- values
abbrev pub encode_primitive : Primitive → Bytes
encode_primitive (bool b) = 0 ∷ encode_bool b
encode_primitive (int n) = 1 ∷ encode_word n
encode_primitive (string t) = 2 ∷ encode_text t
encode_primitive (entity_uid u) = 3 ∷ encode_uid u

abbrev mutual
  pub encode_value : Value → Bytes
  encode_value (prim p) = encode_primitive p
  encode_value (set vs) = 4 ∷ encode_values vs
  encode_value (record_of r) = 5 ∷ encode_attrs r

  pub encode_values : Values → Bytes
  encode_values nil = 0 ∷ []
  encode_values (cons v vs) = 1 ∷ (encode_value v ++ encode_values vs)

  pub encode_attrs : Attrs → Bytes
  encode_attrs empty = 0 ∷ []
  encode_attrs (attr a v r) = 1 ∷ (encode_text a ++ (encode_value v ++ encode_attrs r))

-- ---- expressions
abbrev pub var_number : Var → ℕ
var_number principal = 0
var_number action = 1
var_number resource = 2
var_number context = 3

abbrev pub binary_number : BinaryOp → ℕ
binary_number eq = 0
binary_number mem = 1
binary_number has_tag = 2
binary_number get_tag = 3
binary_number less = 4
binary_number less_eq = 5
binary_number add = 6
binary_number sub = 7
binary_number mul = 8
binary_number contains = 9
binary_number contains_all = 10
binary_number contains_any = 11

-- a pattern: how many elements, then each in two bytes
abbrev pub encode_elements : List ℕ → Bytes
encode_elements [] = []
encode_elements (p ∷ ps) = p / 256 % 256 ∷ (p % 256 ∷ encode_elements ps)

abbrev pub encode_pattern : List ℕ → Bytes
encode_pattern p = encode_word (length p) ++ encode_elements p

abbrev pub encode_unary : UnaryOp → Bytes
encode_unary not = 8 ∷ []
encode_unary neg = 9 ∷ []
encode_unary is_empty = 10 ∷ []
encode_unary (like p) = 11 ∷ encode_pattern p
encode_unary (is t) = 12 ∷ encode_text t

abbrev mutual
  pub encode_expr : Expr → Bytes
  encode_expr (lit p) = encode_primitive p
  encode_expr (var v) = 4 ∷ (var_number v ∷ [])
  encode_expr (ite x y z) = 5 ∷ (encode_expr x ++ (encode_expr y ++ encode_expr z))
  encode_expr (and x y) = 6 ∷ (encode_expr x ++ encode_expr y)
  encode_expr (or x y) = 7 ∷ (encode_expr x ++ encode_expr y)
  encode_expr (unary_app o x) = encode_unary o ++ encode_expr x
  encode_expr (binary_app o x y) = 13 ∷ (binary_number o ∷ (encode_expr x ++ encode_expr y))
  encode_expr (get_attr x a) = 14 ∷ (encode_text a ++ encode_expr x)
  encode_expr (has_attr x a) = 15 ∷ (encode_text a ++ encode_expr x)
  encode_expr (set xs) = 16 ∷ encode_exprs xs
  encode_expr (record_of xs) = 17 ∷ encode_expr_attrs xs

  pub encode_exprs : Exprs → Bytes
  encode_exprs nil = 0 ∷ []
  encode_exprs (cons x xs) = 1 ∷ (encode_expr x ++ encode_exprs xs)

  pub encode_expr_attrs : ExprAttrs → Bytes
  encode_expr_attrs empty = 0 ∷ []
  encode_expr_attrs (attr a x xs) = 1 ∷ (encode_text a ++ (encode_expr x ++ encode_expr_attrs xs))

-- ---- types
abbrev pub bool_type_number : BoolType → ℕ
bool_type_number any_bool = 0
bool_type_number is_true = 1
bool_type_number is_false = 2

abbrev mutual
  pub encode_type : CedarType → Bytes
  encode_type (bool b) = 0 ∷ (bool_type_number b ∷ [])
  encode_type int = 1 ∷ []
  encode_type string = 2 ∷ []
  encode_type (entity n) = 3 ∷ encode_text n
  encode_type (set t) = 4 ∷ encode_type t
  encode_type (record_of ts) = 5 ∷ encode_record_type ts

  pub encode_record_type : RecordType → Bytes
  encode_record_type empty = 0 ∷ []
  encode_record_type (attr a r t ts) = 1 ∷ (cond r 1 0 ∷ (encode_text a ++ (encode_type t ++ encode_record_type ts)))

-- ---- policies
abbrev pub encode_scope : Scope → Bytes
encode_scope any = 0 ∷ []
encode_scope (eq u) = 1 ∷ encode_uid u
encode_scope (mem u) = 2 ∷ encode_uid u
encode_scope (is t) = 3 ∷ encode_text t
encode_scope (is_mem t u) = 4 ∷ (encode_text t ++ encode_uid u)

abbrev pub encode_action_scope : ActionScope → Bytes
encode_action_scope (in_scope s) = encode_scope s
encode_action_scope (action_in_any us) = 5 ∷ encode_list encode_uid us

abbrev pub effect_number : Effect → ℕ
effect_number permit = 0
effect_number forbid = 1

abbrev pub kind_number : ConditionKind → ℕ
kind_number when = 0
kind_number unless = 1

abbrev pub encode_condition : Condition → Bytes
encode_condition c = kind_number c.kind ∷ encode_expr c.body

abbrev pub encode_policy : Policy → Bytes
encode_policy p =
    encode_text p.id
    ++ (effect_number p.effect
    ∷ (encode_scope p.principal_scope
    ++ (encode_action_scope p.action_scope
    ++ (encode_scope p.resource_scope
    ++ encode_list encode_condition p.conditions))))

-- ---- entities, schemas, requests
abbrev pub encode_entity : Entity → Bytes
encode_entity e = encode_uid e.uid ++ (encode_attrs e.attrs ++ (encode_list encode_uid e.ancestors ++ encode_attrs e.tags))

abbrev pub encode_entry : EntitySchemaEntry → Bytes
encode_entry d = encode_text d.name ++ (encode_list encode_text d.ancestors ++ (encode_record_type d.attrs ++ encode_list encode_type d.tags))

abbrev pub encode_action : ActionSchemaEntry → Bytes
encode_action a =
    encode_uid a.uid
    ++ (encode_list encode_text a.principals
    ++ (encode_list encode_text a.resources
    ++ (encode_list encode_uid a.ancestors
    ++ encode_record_type a.context)))

abbrev pub encode_schema : Schema → Bytes
encode_schema s = encode_list encode_entry s.ets ++ encode_list encode_action s.acts

abbrev pub encode_request : Request → Bytes
encode_request q = encode_uid q.principal ++ (encode_uid q.action ++ (encode_uid q.resource ++ encode_attrs q.context))

-- ---- calls; what is no call has no bytes of its own
abbrev pub encode_call : Call → Bytes
encode_call (set_schema s) = 0 ∷ encode_schema s
encode_call (put_policy p) = 1 ∷ encode_policy p
encode_call (remove_policy t) = 2 ∷ encode_text t
encode_call (put_entity e) = 3 ∷ encode_entity e
encode_call (remove_entity u) = 4 ∷ encode_uid u
encode_call validate_policies = 5 ∷ []
encode_call (authorize q) = 6 ∷ encode_request q
encode_call (malformed k) = []

-- ---- answers
abbrev pub decision_number : Decision → ℕ
decision_number allow = 1
decision_number deny = 0

abbrev pub encode_answer : Answer → Bytes
encode_answer (refused r k) = 0 ∷ (refusal_number r ∷ encode_word k)
encode_answer done = 1 ∷ []
encode_answer all_valid = 2 ∷ []
encode_answer (not_valid t e) = 3 ∷ (encode_text t ++ (validation_error_number e ∷ []))
encode_answer (authorized r q es) =
    4 ∷ (decision_number r.decision ∷ (encode_list encode_text r.determining_policies ++ (encode_list encode_text r.erroring_policies ++ (encode_bool q ++ encode_bool es))))
