-- The row of a policy means the policy that it was made from, wherever it lies.
use Rattle.std.proofs.Common.{◌≡◌, ℕ, suc, ◌+◌, ◌*◌, ◌≤◌, true, ◌&&◌, List, [], ◌∷◌, ◌++◌, length, get_or, sym, refl, ap, ◌∙◌, subst, arith}
use Rattle.std.proofs.lemmas.Bool.{and_parts}
use Rattle.std.proofs.lemmas.List.{length-append}
use Rattle.spec.specs.Basics.{all}
use Rattle.spec.specs.Values.{code_text, code_uid}
use Rattle.spec.specs.Policies as s
use Rattle.spec.specs.Policies.{any, eq, mem, is, is_mem, in_scope, action_in_any}
use Rattle.spec.specs.Bytes.{effect_number, kind_number}
use Rattle.spec.specs.Calls.{is_bytes, encodable_expr, encodable_scope, encodable_action_scope, sum_of, size_condition}
use Rattle.rows.specs.Rows.{headed, rows_of, counted, row_expr, row_scope, row_action_scope, row_condition, row_policy}
use Rattle.rows.proofs.Bounds.{expr-long}
use Rattle.values.specs.Held.{behind_text}
use Rattle.values.proofs.Placed.{Lies, lies, lies-move, lies-append, lies-long, lies_at, text-lies, uid-lies}
use Rattle.exprs.specs.Heads.{size, behind}
use Rattle.exprs.proofs.Means.{behind-text, rows-mean}
use Rattle.entities.proofs.Meant.{uids-lie}
use Rattle.policies.specs.Heads.{effect_at, scope_of, scope_at, principal_place, action_place, resource_place, conditions_place}
use Rattle.policies.specs.Stored.{scope_means, action_scope_means, Plain, ScopeIn, ScopeRow, kind_at, conditions_from, ConditionsIn, sizes_from, effect_means}
use Rattle.policies.specs.Meaning.{PolicyRowsMean}
use Rattle.policies.specs.declared.reading.Scope.{Scope}
use Rattle.policies.specs.declared.reading.Scope.TheVariants.{Any, Eq, Mem, Is, IsMem, InAny}

-- ---- scopes: an action's may be any of them
record ScopeMeant (m : List ℕ) (p : ℕ) (x : s.ActionScope) : Type 0 where
  good : ScopeRow m p
  is : action_scope_means m (scope_at m p) ≡ x
  long : size m p ≡ length (row_action_scope x)

-- a row behind its form and length
module _ (m : List ℕ) (p g : ℕ) (body : List ℕ) (l : Lies m p (headed g body)) where
  body-lies : Lies m (p + 2) body
  body-lies = lies-move m (p + 1 + 1) (p + 2) body (omega arith) l.2.2

  made : (x : s.ActionScope) (e : Scope) → row_action_scope x ≡ headed g body → scope_of g m (p + 2) ≡ e → ScopeIn m e → action_scope_means m e ≡ x → ScopeMeant m p x
  made x e row h parts means =
      let head : scope_at m p ≡ e = ap (λ k. scope_of k m (p + 2)) l.1 ∙ h in
      let lng = lies-long m p g ((2 + length body) ∷ body) l in
      let sz : size m p ≡ 2 + length body = l.2.1 in
      let r : length (row_action_scope x) ≡ suc (suc (length body)) = ap length row in
      record { good = record { fits = omega arith; parts = subst (ScopeIn m) (sym head) parts }; is = ap (action_scope_means m) head ∙ means; long = omega arith }

scope-means : (x : s.ActionScope) (m : List ℕ) (p : ℕ) → Lies m p (row_action_scope x) → ScopeMeant m p x
scope-means (in_scope any) m p l = made m p 0 [] l (in_scope any) Any refl refl tt refl
scope-means (in_scope (eq u)) m p l =
    let h = uid-lies m (p + 2) u (body-lies m p 1 (code_uid u) l) in
    made m p 1 (code_uid u) l (in_scope (eq u)) (Eq (p + 2)) refl refl h.0 (ap (λ v. in_scope (eq v)) h.1)
scope-means (in_scope (mem u)) m p l =
    let h = uid-lies m (p + 2) u (body-lies m p 2 (code_uid u) l) in
    made m p 2 (code_uid u) l (in_scope (mem u)) (Mem (p + 2)) refl refl h.0 (ap (λ v. in_scope (mem v)) h.1)
scope-means (in_scope (is t)) m p l =
    let h = text-lies m (p + 2) t (body-lies m p 3 (code_text t) l) in
    made m p 3 (code_text t) l (in_scope (is t)) (Is (p + 2)) refl refl h.0 (ap (λ v. in_scope (is v)) h.1)
scope-means (in_scope (is_mem t u)) m p l =
    let h = behind-text m (p + 2) t (code_uid u) (body-lies m p 4 (code_text t ++ code_uid u) l) in
    let k = uid-lies m (behind_text m (p + 2)) u h.2 in
    let a = h.1 in
    let b = k.1 in
    made m p 4 (code_text t ++ code_uid u) l (in_scope (is_mem t u)) (IsMem (p + 2) (behind_text m (p + 2))) refl refl (h.0, k.0) (λ i. in_scope (is_mem (a i) (b i)))
scope-means (action_in_any us) m p l =
    let b = body-lies m p 5 (counted code_uid us) l in
    let h = uids-lie us m (p + 2 + 1) b.2 in
    made m p 5 (counted code_uid us) l (action_in_any us) (InAny (length us) (p + 2 + 1)) refl (ap (λ n. InAny n (p + 2 + 1)) b.1) (omega (arith, b.0), h.0) (ap action_in_any h.1)

-- and what comes behind it
record Scoped (m : List ℕ) (p : ℕ) (x : s.ActionScope) (ys : List ℕ) : Type 0 where
  scope : ScopeMeant m p x
  rest : Lies m (behind m p) ys

scoped : (x : s.ActionScope) (m : List ℕ) (p : ℕ) (ys : List ℕ) → Lies m p (row_action_scope x ++ ys) → Scoped m p x ys
scoped x m p ys l =
    let r = lies-append m p (row_action_scope x) ys l in
    let S = scope-means x m p r.0 in
    record { scope = S; rest = lies-move m (p + length (row_action_scope x)) (behind m p) ys (omega (arith, S.long)) r.1 }

-- that of a principal or a resource
told : (a b : s.Scope) → in_scope a ≡ in_scope b → a ≡ b
told a b e = cc

plain : (m : List ℕ) (e : Scope) (x : s.Scope) → action_scope_means m e ≡ in_scope x → Plain e × (scope_means m e ≡ x)
plain m Any x h = (tt, told any x h)
plain m (Eq p) x h = (tt, told (scope_means m (Eq p)) x h)
plain m (Mem p) x h = (tt, told (scope_means m (Mem p)) x h)
plain m (Is p) x h = (tt, told (scope_means m (Is p)) x h)
plain m (IsMem t p) x h = (tt, told (scope_means m (IsMem t p)) x h)
plain m (InAny n p) x h = let z : ◌≡◌ {A = ℕ} 0 1 = cc in absurd (omega arith)

-- ---- conditions
record ConditionsMeant (m : List ℕ) (p : ℕ) (cs : List s.Condition) : Type 0 where
  good : ConditionsIn m p (length cs)
  are : conditions_from m p (length cs) ≡ cs
  few : sizes_from m p (length cs) ≤ 3 * sum_of size_condition cs
  short : sizes_from m p (length cs) ≤ length (rows_of row_condition cs)

kind-is : (k : s.ConditionKind) → kind_at (kind_number k) ≡ k
kind-is s.when = refl
kind-is s.unless = refl

conditions-mean : (cs : List s.Condition) (m : List ℕ) (p : ℕ) → all (λ c. encodable_expr c.body 64) cs ≡ true → Lies m p (rows_of row_condition cs) → ConditionsMeant m p cs
conditions-mean [] m p w l = record { good = tt; are = refl; few = omega arith; short = omega arith }
conditions-mean (x ∷ cs) m p w l =
    let ws = and_parts (encodable_expr x.body 64) (all (λ c. encodable_expr c.body 64) cs) w in
    let r = lies-append m (p + 1) (row_expr x.body) (rows_of row_condition cs) l.2 in
    let X = rows-mean x.body 64 m (p + 1) ws.0 (lies_at m (p + 1) (row_expr x.body) r.0) in
    let q : ℕ = behind m (p + 1) in
    let R = conditions-mean cs m q ws.1 (lies-move m (p + 1 + length (row_expr x.body)) q (rows_of row_condition cs) (omega (arith, X.long)) r.1) in
    let k = ap kind_at l.1 ∙ kind-is x.kind in
    let b = X.is in
    let rest = R.are in
    let a = length-append (row_expr x.body) (rows_of row_condition cs) in
    let e = expr-long x.body in
    let lx = X.long in
    let lf = R.few in
    let ls = R.short in
    record { good = (X.good, R.good); are = λ i. record { kind = k i; body = b i } ∷ rest i; few = omega arith; short = omega arith }

-- ---- policies
effect_is : (f : s.Effect) → effect_means (effect_at (effect_number f)) ≡ f
effect_is s.permit = refl
effect_is s.forbid = refl

pub policy-rows-mean : PolicyRowsMean
policy-rows-mean x m p w h =
    let ws = (and_parts (encodable_action_scope x.action_scope && encodable_scope x.resource_scope) (all (λ c. encodable_expr c.body 64) x.conditions)
    (and_parts (is_bytes x.id && encodable_scope x.principal_scope) _ w).1).1 in
    let row₁ : List ℕ = row_scope x.principal_scope in
    let row₂ : List ℕ = row_action_scope x.action_scope in
    let row₃ : List ℕ = row_scope x.resource_scope in
    let row₄ : List ℕ = counted row_condition x.conditions in
    let t = behind-text m p x.id (effect_number x.effect ∷ (row₁ ++ (row₂ ++ (row₃ ++ row₄)))) (lies m p (row_policy x) h) in
    let S₁ = scoped (in_scope x.principal_scope) m (principal_place m p) (row₂ ++ (row₃ ++ row₄)) t.2.2 in
    let S₂ = scoped x.action_scope m (action_place m p) (row₃ ++ row₄) S₁.rest in
    let S₃ = scoped (in_scope x.resource_scope) m (resource_place m p) row₄ S₂.rest in
    let P₁ = plain m (scope_at m (principal_place m p)) x.principal_scope S₁.scope.is in
    let P₃ = plain m (scope_at m (resource_place m p)) x.resource_scope S₃.scope.is in
    let q : ℕ = conditions_place m p + 1 in
    let C = conditions-mean x.conditions m q ws S₃.rest.2 in
    let n : length x.conditions ≡ get_or m (conditions_place m p) 0 = sym S₃.rest.1 in
    let e₀ = t.1 in
    let e₁ = ap (λ k. effect_means (effect_at k)) t.2.1 ∙ effect_is x.effect in
    let e₂ = P₁.1 in
    let e₃ = S₂.scope.is in
    let e₄ = P₃.1 in
    let e₅ : conditions_from m q (get_or m (conditions_place m p) 0) ≡ x.conditions = sym (ap (conditions_from m q) n) ∙ C.are in
    let few : sizes_from m q (get_or m (conditions_place m p) 0) ≤ 3 * sum_of size_condition x.conditions = subst (λ k. sizes_from m q k ≤ 3 * sum_of size_condition x.conditions) n C.few in
    let short : sizes_from m q (get_or m (conditions_place m p) 0) ≤ length (rows_of row_condition x.conditions) = subst (λ k. sizes_from m q k ≤ length (rows_of row_condition x.conditions)) n C.short in
    let l₀ = length-append (code_text x.id) (effect_number x.effect ∷ (row₁ ++ (row₂ ++ (row₃ ++ row₄)))) in
    let l₁ = length-append row₁ (row₂ ++ (row₃ ++ row₄)) in
    let l₂ = length-append row₂ (row₃ ++ row₄) in
    let l₃ = length-append row₃ row₄ in
    record {
      good = record {
        id = t.0;
        principal = S₁.scope.good;
        action = S₂.scope.good;
        resource = S₃.scope.good;
        plain_principal = P₁.0;
        plain_resource = P₃.0;
        fits = S₃.rest.0;
        conditions = subst (ConditionsIn m q) n C.good;
      };
      is = λ i. record { id = e₀ i; effect = e₁ i; principal_scope = e₂ i; action_scope = e₃ i; resource_scope = e₄ i; conditions = e₅ i };
      few = omega (arith, few);
      short = omega (arith, short, l₀, l₁, l₂, l₃);
    }
