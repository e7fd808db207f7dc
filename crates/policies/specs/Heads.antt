-- What stands at a place of a memory, as the code has it: a policy's effect, its scopes, and where its parts lie.
-- A policy's row is its id, its effect, its three scopes, and the number of its conditions with the conditions behind it.
use Rattle.std.specs.Prelude.{ℕ, ◌+◌, cond, List, ◌==◌, slice_index}
use Rattle.values.specs.Held.{behind_text}
use Rattle.exprs.specs.Heads.{behind}
use Rattle.policies.specs.declared.reading.Effect.{Effect}
use Rattle.policies.specs.declared.reading.Effect.TheVariants.{Permit, Forbid}
use Rattle.policies.specs.declared.reading.Scope.{Scope}
use Rattle.policies.specs.declared.reading.Scope.TheVariants.{Any, Eq, Mem, Is, IsMem, InAny}
use Rattle.policies.specs.declared.reading.Policy.{Policy}

abbrev pub effect_at : ℕ → Effect
effect_at n = cond (n == 0) Permit Forbid

-- by the form k, where the parts begin at x
abbrev pub scope_of : ℕ → List ℕ → ℕ → Scope
scope_of k m x =
    cond (k == 0) Any
    (cond (k == 1) (Eq x)
    (cond (k == 2) (Mem x)
    (cond (k == 3) (Is x)
    (cond (k == 4) (IsMem x (behind_text m x))
    (InAny (slice_index m x) (x + 1))))))

-- a scope's row is its form, its length, and then its parts
abbrev pub scope_at : List ℕ → ℕ → Scope
scope_at m p = scope_of (slice_index m p) m (p + 2)

-- ---- where the parts of the policy at a place lie
abbrev pub effect_place : List ℕ → ℕ → ℕ
effect_place m p = behind_text m p

abbrev pub principal_place : List ℕ → ℕ → ℕ
principal_place m p = effect_place m p + 1

abbrev pub action_place : List ℕ → ℕ → ℕ
action_place m p = behind m (principal_place m p)

abbrev pub resource_place : List ℕ → ℕ → ℕ
resource_place m p = behind m (action_place m p)

abbrev pub conditions_place : List ℕ → ℕ → ℕ
conditions_place m p = behind m (resource_place m p)

abbrev pub policy_head : List ℕ → ℕ → Policy
policy_head m p = record {
  id = p;
  effect = effect_at (slice_index m (effect_place m p));
  principal = scope_at m (principal_place m p);
  action = scope_at m (action_place m p);
  resource = scope_at m (resource_place m p);
  conditions = conditions_place m p;
}
