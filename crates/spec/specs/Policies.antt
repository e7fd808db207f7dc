-- Policies, and what is allowed by them. Assumes nothing: these are definitions.
use Rattle.std.specs.Prelude.{Bool, true, false, cond, not as flip, ◌&&◌, List, [], ◌∷◌}
use Rattle.spec.specs.Basics.{Except, ok, error, is_empty as is_nil, Text, insert, itself}
use Rattle.spec.specs.Values.{EntityUID, bool, int, string, entity_uid, Value, prim, set, record_of, Entities, Request}
use Rattle.spec.specs.Exprs.{Var, principal, action, resource, not, is as is_op, eq as eq_op, mem as mem_op, Expr, lit, var, and, unary_app, binary_app, set, Exprs, nil, cons}
use Rattle.spec.specs.Evaluate.{Error, evaluate}

pub data Effect : Type 0 where
  permit : Effect
  forbid : Effect

-- which principals or resources a policy is about
pub data Scope : Type 0 where
  any : Scope
  eq : EntityUID → Scope
  mem : EntityUID → Scope  -- in an entity
  is : Text → Scope  -- of a type
  is_mem : Text → EntityUID → Scope  -- of a type and in an entity

-- which actions
pub data ActionScope : Type 0 where
  in_scope : Scope → ActionScope
  action_in_any : List EntityUID → ActionScope

pub data ConditionKind : Type 0 where
  when : ConditionKind
  unless : ConditionKind

pub record Condition : Type 0 where
  pub kind : ConditionKind
  pub body : Expr

pub record Policy : Type 0 where
  pub id : Text
  pub effect : Effect
  pub principal_scope : Scope
  pub action_scope : ActionScope
  pub resource_scope : Scope
  pub conditions : List Condition

abbrev pub policy_key : Policy → Text
policy_key p = p.id

abbrev pub Policies : Type 0
Policies = List Policy

-- ---- a policy as one expression: its scopes, and then its conditions, one after the other as far as they hold
abbrev pub of_uid : EntityUID → Expr
of_uid u = lit (entity_uid u)

abbrev pub scope_expr : Scope → Var → Expr
scope_expr any v = lit (bool true)
scope_expr (eq u) v = binary_app eq_op (var v) (of_uid u)
scope_expr (mem u) v = binary_app mem_op (var v) (of_uid u)
scope_expr (is t) v = unary_app (is_op t) (var v)
scope_expr (is_mem t u) v = and (unary_app (is_op t) (var v)) (binary_app mem_op (var v) (of_uid u))

abbrev pub uid_exprs : List EntityUID → Exprs
uid_exprs [] = nil
uid_exprs (u ∷ us) = cons (of_uid u) (uid_exprs us)

abbrev pub action_scope_expr : ActionScope → Expr
action_scope_expr (in_scope s) = scope_expr s action
action_scope_expr (action_in_any us) = binary_app mem_op (var action) (set (uid_exprs us))

abbrev pub body_expr : ConditionKind → Expr → Expr
body_expr when x = x
body_expr unless x = unary_app not x

abbrev pub condition_expr : Condition → Expr
condition_expr c = body_expr c.kind c.body

abbrev pub conditions_expr : List Condition → Expr
conditions_expr [] = lit (bool true)
conditions_expr (c ∷ []) = condition_expr c
conditions_expr (c ∷ (d ∷ ds)) = and (condition_expr c) (conditions_expr (d ∷ ds))

abbrev pub to_expr : Policy → Expr
to_expr p =
    and (scope_expr p.principal_scope principal)
    (and (action_scope_expr p.action_scope)
    (and (scope_expr p.resource_scope resource) (conditions_expr p.conditions)))

-- ---- a policy holds if it comes to true, and is in error if it fails
abbrev pub is_true_value : Value → Bool
is_true_value (prim (bool b)) = b
is_true_value (prim (int n)) = false
is_true_value (prim (string t)) = false
is_true_value (prim (entity_uid u)) = false
is_true_value (set vs) = false
is_true_value (record_of r) = false

abbrev pub is_true : Except Error Value → Bool
is_true (ok v) = is_true_value v
is_true (error e) = false

abbrev pub is_error : Except Error Value → Bool
is_error (ok v) = false
is_error (error e) = true

unfoldable pub satisfied : Policy → Request → Entities → Bool
satisfied p q es = is_true (evaluate (to_expr p) q es)

unfoldable pub has_error : Policy → Request → Entities → Bool
has_error p q es = is_error (evaluate (to_expr p) q es)

abbrev pub same_effect : Effect → Effect → Bool
same_effect permit permit = true
same_effect permit forbid = false
same_effect forbid permit = false
same_effect forbid forbid = true

abbrev pub satisfied_with_effect : Effect → Request → Entities → Policy → Bool
satisfied_with_effect f q es p = same_effect p.effect f && satisfied p q es

-- the ids, in order and each once, of the policies for which a test holds
unfoldable pub ids_where : (Policy → Bool) → Policies → List Text
ids_where f [] = []
ids_where f (p ∷ ps) = cond (f p) (insert itself p.id (ids_where f ps)) (ids_where f ps)

abbrev pub satisfied_policies : Effect → Policies → Request → Entities → List Text
satisfied_policies f ps q es = ids_where (satisfied_with_effect f q es) ps

abbrev pub error_policies : Policies → Request → Entities → List Text
error_policies ps q es = ids_where (λ p. has_error p q es) ps

pub data Decision : Type 0 where
  allow : Decision
  deny : Decision

pub record Response : Type 0 where
  pub decision : Decision
  pub determining_policies : List Text
  pub erroring_policies : List Text

-- by the permits that hold, the forbids that hold, and the policies that are in error
abbrev pub decide : List Text → List Text → List Text → Response
decide permits forbids errors =
    cond (is_nil forbids && flip (is_nil permits))
    (record { decision = allow; determining_policies = permits; erroring_policies = errors })
    (record { decision = deny; determining_policies = forbids; erroring_policies = errors })

unfoldable pub is_authorized : Request → Entities → Policies → Response
is_authorized q es ps = decide (satisfied_policies permit ps q es) (satisfied_policies forbid ps q es) (error_policies ps q es)
