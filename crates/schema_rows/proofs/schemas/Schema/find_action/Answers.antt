use Rattle.std.proofs.Common.{ℕ, ◌+◌, Bool, List, get_or, sym, ◌∙◌, subst, rules}
use Rattle.spec.specs.Types as s
use Rattle.spec.specs.Types.{action_key}
use Rattle.spec.specs.Values.{code_uid, same_uid}
use Rattle.values.specs.Held.{uid_at}
use Rattle.schema_rows.specs.Entries.{action_at, behind_action}
use Rattle.schema_rows.specs.Read.{ActionFound}
use Rattle.schema_rows.specs.Schemas.{actions_at, schema_of}
use Rattle.schema_rows.proofs.Steps.{first-found, none-found}
use Rattle.schema_rows.proofs.Places.{find_first, action-found}
use Rattle.schema_rows.proofs.schemas.Schema.find_action.Goals as goal

pub returns-in_err-e : goal.returns-in_err-e
returns-in_err-e c =
    let m : List ℕ = c.args.self.now.store.now in
    let t : ℕ → Bool = λ e. same_uid (uid_at m c.args.uid) (uid_at m e) in
    let h = c.in_err-e.ensures.first t (λ e b l p. search rules) in
    let p : ℕ = c.args.self.now.actions in
    let f = none-found (λ a. same_uid (uid_at m c.args.uid) a.uid) (action_at m) (behind_action m) (get_or m p 0) (p + 1) (sym h) in
    subst (λ r. ActionFound m r (s.find_action (uid_at m c.args.uid) (schema_of c.args.self.now))) (sym c.from_residual.ensures) (find_first action_key (code_uid (uid_at m c.args.uid)) (actions_at m p) ∙ f)

pub returns : goal.returns
returns c =
    let m : List ℕ = c.args.self.now.store.now in
    let t : ℕ → Bool = λ e. same_uid (uid_at m c.args.uid) (uid_at m e) in
    let p : ℕ = c.args.self.now.actions in
    let h = c.in_ok-e.ensures.first t (λ e b l p. search rules) in
    let f = first-found (λ a. same_uid (uid_at m c.args.uid) a.uid) (action_at m) (behind_action m) (get_or m p 0) (p + 1) c.in_ok-e.e (sym h) in
    action-found m c.in_ok-e.e c.action_at.result _ c.action_at.ensures c.in_ok-e.ensures.lies (find_first action_key (code_uid (uid_at m c.args.uid)) (actions_at m p) ∙ f)
