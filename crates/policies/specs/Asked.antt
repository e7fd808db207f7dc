-- What the scopes of a policy say of a request.
use Rattle.std.specs.Prelude.{◌≡◌, ℕ, Bool, List}
use Rattle.spec.specs.Basics.{ok}
use Rattle.spec.specs.Values.{entity_uid, prim}
use Rattle.spec.specs.Values as s
use Rattle.spec.specs.Exprs.{Var}
use Rattle.spec.specs.Evaluate.{of_bool, var_of, evaluate}
use Rattle.spec.specs.Policies.{scope_expr, action_scope_expr}
use Rattle.values.specs.Held.{uid_at}
use Rattle.entities.specs.Rows.{entities_at, SubjectIn}
use Rattle.shelves.specs.declared.table.Table.{Table}
use Rattle.entities.specs.declared.requests.Subject.{Subject}
use Rattle.policies.specs.Stored.{scope_means, action_scope_means, Plain}
use Rattle.policies.specs.declared.reading.Scope.{Scope}

-- r is what the scope comes to, of whichever request the subject is: as the scope of any word for it, and as that of an action.
-- The scope lies in the store, the subject's name in a memory m that begins with it.
pub record ScopeTells (store m : List ℕ) (x : Subject) (scope : Scope) (r : Bool) : Type 0 where
  pub plain : (e : Table) (v : Var) (q : s.Request) → SubjectIn store m e x → var_of v q ≡ prim (entity_uid (uid_at m x.uid)) → Plain scope →
      evaluate (scope_expr (scope_means store scope) v) q (entities_at store e) ≡ ok (of_bool r)
  pub action : (e : Table) (q : s.Request) → SubjectIn store m e x → q.action ≡ uid_at m x.uid → evaluate (action_scope_expr (action_scope_means store scope)) q (entities_at store e) ≡ ok (of_bool r)
