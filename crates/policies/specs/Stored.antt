-- What the rows of policies stand for, and which are good.
use Rattle.std.specs.Prelude.{ℕ, zero, suc, ◌+◌, ◌<◌, ◌≤◌, cond, List, [], ◌∷◌, length, ◌==◌, slice_index}
use Rattle.spec.specs.Policies as s
use Rattle.spec.specs.Policies.{any, eq, mem, is, is_mem, in_scope, action_in_any, when, unless}
use Rattle.values.specs.Held.{text_at, TextIn, uid_at, UIDIn}
use Rattle.exprs.specs.Heads.{size, behind}
use Rattle.exprs.specs.Stored.{expr_at, Row, GoodExpr}
use Rattle.entities.specs.Rows.{uids_at, UIDsIn}
use Rattle.policies.specs.Heads.{scope_at, principal_place, action_place, resource_place, conditions_place, policy_head}
use Rattle.policies.specs.declared.reading.Effect.{Effect}
use Rattle.policies.specs.declared.reading.Effect.TheVariants.{Permit, Forbid}
use Rattle.policies.specs.declared.reading.Scope.{Scope}
use Rattle.policies.specs.declared.reading.Scope.TheVariants.{Any, Eq, Mem, Is, IsMem, InAny}
use Rattle.policies.specs.declared.reading.Policy.{Policy}

-- ---- scopes
abbrev pub scope_means : List ℕ → Scope → s.Scope
scope_means m Any = any
scope_means m (Eq p) = eq (uid_at m p)
scope_means m (Mem p) = mem (uid_at m p)
scope_means m (Is p) = is (text_at m p)
scope_means m (IsMem t p) = is_mem (text_at m t) (uid_at m p)
scope_means m (InAny n p) = any

abbrev pub action_scope_means : List ℕ → Scope → s.ActionScope
action_scope_means m Any = in_scope (scope_means m Any)
action_scope_means m (Eq p) = in_scope (scope_means m (Eq p))
action_scope_means m (Mem p) = in_scope (scope_means m (Mem p))
action_scope_means m (Is p) = in_scope (scope_means m (Is p))
action_scope_means m (IsMem t p) = in_scope (scope_means m (IsMem t p))
action_scope_means m (InAny n p) = action_in_any (uids_at m p n)

-- a principal or a resource is in no list
abbrev pub Plain : Scope → Type 0
Plain Any = Unit {0}
Plain (Eq p) = Unit {0}
Plain (Mem p) = Unit {0}
Plain (Is p) = Unit {0}
Plain (IsMem t p) = Unit {0}
Plain (InAny n p) = ⊥

-- the names and texts of a scope lie in the memory
abbrev pub ScopeIn : List ℕ → Scope → Type 0
ScopeIn m Any = Unit {0}
ScopeIn m (Eq p) = UIDIn m p
ScopeIn m (Mem p) = UIDIn m p
ScopeIn m (Is p) = TextIn m p
ScopeIn m (IsMem t p) = TextIn m t × UIDIn m p
ScopeIn m (InAny n p) = (p ≤ length m) × UIDsIn m p n

pub record ScopeRow (m : List ℕ) (p : ℕ) : Type 0 where
  pub fits : p + 2 ≤ length m
  pub parts : ScopeIn m (scope_at m p)

-- ---- conditions: a kind and an expression, n of them from a place on; 65 is the height of the deepest expression that a call can carry
abbrev pub kind_at : ℕ → s.ConditionKind
kind_at k = cond (k == 0) when unless

abbrev pub conditions_from : List ℕ → ℕ → ℕ → List s.Condition
conditions_from m p zero = []
conditions_from m p (suc n) = record { kind = kind_at (slice_index m p); body = expr_at 65 m (p + 1) } ∷ conditions_from m (behind m (p + 1)) n

abbrev pub ConditionsIn : List ℕ → ℕ → ℕ → Type 0
ConditionsIn m p zero = Unit {0}
ConditionsIn m p (suc n) = Row (GoodExpr 65 m) m (p + 1) × ConditionsIn m (behind m (p + 1)) n

-- how long the rows of their expressions are together
abbrev pub sizes_from : List ℕ → ℕ → ℕ → ℕ
sizes_from m p zero = 0
sizes_from m p (suc n) = size m (p + 1) + sizes_from m (behind m (p + 1)) n

-- ---- policies
abbrev pub effect_means : Effect → s.Effect
effect_means Permit = s.permit
effect_means Forbid = s.forbid

abbrev pub policy_means : List ℕ → Policy → s.Policy
policy_means m p = record {
  id = text_at m p.id;
  effect = effect_means p.effect;
  principal_scope = scope_means m p.principal;
  action_scope = action_scope_means m p.action;
  resource_scope = scope_means m p.resource;
  conditions = conditions_from m (p.conditions + 1) (slice_index m p.conditions);
}

-- the policy whose row begins at a place
abbrev pub policy_at : List ℕ → ℕ → s.Policy
policy_at m p = policy_means m (policy_head m p)

abbrev pub condition_sizes : List ℕ → ℕ → ℕ
condition_sizes m p = sizes_from m (conditions_place m p + 1) (slice_index m (conditions_place m p))

pub record PolicyIn (m : List ℕ) (p : ℕ) : Type 0 where
  pub id : TextIn m p
  pub principal : ScopeRow m (principal_place m p)
  pub action : ScopeRow m (action_place m p)
  pub resource : ScopeRow m (resource_place m p)
  pub plain_principal : Plain (scope_at m (principal_place m p))
  pub plain_resource : Plain (scope_at m (resource_place m p))
  pub fits : conditions_place m p < length m
  pub conditions : ConditionsIn m (conditions_place m p + 1) (slice_index m (conditions_place m p))
