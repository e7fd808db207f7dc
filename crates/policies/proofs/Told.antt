-- What the scopes of a policy come to, of the subjects of a request.
use Rattle.std.proofs.Common.{◌≡◌, ℕ, Bool, true, false, cond, ◌&&◌, ◌||◌, List, [], ◌∷◌, ◌++◌, sym, refl, ap, ◌∙◌, ap₂}
use Rattle.spec.specs.Basics.{ok, ◌>>=◌, any, Text, same, less, insert, insert_all}
use Rattle.spec.specs.Values as s
use Rattle.spec.specs.Values.{EntityUID, entity_uid, Value, prim, set, to_values, code, same_uid, same_value}
use Rattle.spec.specs.Exprs.{Var, action, Expr, var, mem, binary_app, set}
use Rattle.spec.specs.Evaluate.{of_bool, as_bool, as_entity_uid, as_entity_uids, in_entity, in_set, in_value, var_of, just_bool, evaluate}
use Rattle.spec.specs.Policies.{eq, mem, is, is_mem, scope_expr, uid_exprs, action_scope_expr}
use Rattle.laws.proofs.Codes.{same_code}
use Rattle.laws.proofs.Lists.{elements-values}
use Rattle.laws.proofs.Membership.{uid_values, uids-come, is_in_one, any-inserted}
use Rattle.values.specs.Held.{text_at, uid_at}
use Rattle.values.proofs.Frame.{text-on, uid-on}
use Rattle.entities.specs.Rows.{uids_at, entities_at, SubjectIn}
use Rattle.entities.specs.Code.{in_row}
use Rattle.shelves.specs.declared.table.Table.{Table}
use Rattle.entities.specs.declared.requests.Subject.{Subject}
use Rattle.entities.proofs.Framed.{uids-on}
use Rattle.entities.proofs.Ancestry.{any_same, in-row}
use Rattle.policies.specs.Stored.{scope_means, action_scope_means, Plain, ScopeIn}
use Rattle.policies.specs.Asked.{ScopeTells}
use Rattle.policies.specs.declared.reading.Scope.{Scope}
use Rattle.policies.specs.declared.reading.Scope.TheVariants.{Any, Eq, Mem, Is, IsMem, InAny}

-- ---- names that are written out as a set: to be in the set is to be in one of them
key : EntityUID → Text
key u = code (prim (entity_uid u))

insert-uid : (u : EntityUID) (us : List EntityUID) → insert code (prim (entity_uid u)) (uid_values us) ≡ uid_values (insert key u us)
unfolding insert key
insert-uid u [] = refl
insert-uid u (w ∷ ws) = go (less (key u) (key w)) (less (key w) (key u)) (insert-uid u ws)
  where
    go : (c d : Bool) → insert code (prim (entity_uid u)) (uid_values ws) ≡ uid_values (insert key u ws) →
        cond c (prim (entity_uid u) ∷ (prim (entity_uid w) ∷ uid_values ws)) (cond d (prim (entity_uid w) ∷ insert code (prim (entity_uid u)) (uid_values ws)) (prim (entity_uid u) ∷ uid_values ws))
        ≡ uid_values (cond c (u ∷ (w ∷ ws)) (cond d (w ∷ insert key u ws) (u ∷ ws)))
    go true d e = refl
    go false true e = ap (λ vs. prim (entity_uid w) ∷ vs) e
    go false false e = refl

insert-uids : (us : List EntityUID) → insert_all code (uid_values us) ≡ uid_values (insert_all key us)
unfolding insert_all
insert-uids [] = refl
insert-uids (u ∷ us) = ap (insert code (prim (entity_uid u))) (insert-uids us) ∙ insert-uid u (insert_all key us)

as-uids : (us : List EntityUID) → as_entity_uids (uid_values us) ≡ ok us
as-uids [] = refl
as-uids (u ∷ us) = ap (λ o. o >>= (λ ws. ok (u ∷ ws))) (as-uids us)

any-one : (u : EntityUID) (es : s.Entities) (ws : List EntityUID) → any (is_in_one u es) (uid_values ws) ≡ any (λ w. in_entity u w es) ws
any-one u es [] = refl
any-one u es (w ∷ ws) = ap (λ b. in_entity u w es || b) (any-one u es ws)

in-uids : (u : EntityUID) (us : List EntityUID) (es : s.Entities) → in_set u (insert_all code (uid_values us)) es ≡ ok (of_bool (any (λ w. in_entity u w es) us))
in-uids u us es =
    ap (λ vs. in_set u vs es) (insert-uids us) ∙ ap (λ o. o >>= (λ ws. ok (of_bool (any (λ w. in_entity u w es) ws)))) (as-uids (insert_all key us))
    ∙ ap (λ b. ok (of_bool b)) (sym (any-one u es (insert_all key us)) ∙ ap (any (is_in_one u es)) (sym (insert-uids us)) ∙ any-inserted (is_in_one u es) (uid_values us) ∙ any-one u es us)

same-uids : (u w : EntityUID) → same_value (prim (entity_uid u)) (prim (entity_uid w)) ≡ same_uid u w
unfolding same
same-uids u w = same_code (prim (entity_uid u)) (prim (entity_uid w))

-- ---- a scope of a word that stands for u
module _ (v : Var) (q : s.Request) (es : s.Entities) (u : EntityUID) (h : var_of v q ≡ prim (entity_uid u)) where
  eq-comes : (w : EntityUID) → evaluate (scope_expr (eq w) v) q es ≡ ok (of_bool (same_uid u w))
  eq-comes w = ap (λ x. ok (of_bool (same_value x (prim (entity_uid w))))) h ∙ ap (λ b. ok (of_bool b)) (same-uids u w)

  mem-comes : (w : EntityUID) → evaluate (scope_expr (mem w) v) q es ≡ ok (of_bool (in_entity u w es))
  mem-comes w = ap (λ x. as_entity_uid x >>= (λ y. in_value y (prim (entity_uid w)) es)) h

  is-comes : (t : Text) → evaluate (scope_expr (is t) v) q es ≡ ok (of_bool (same t u.ty))
  is-comes t = ap (λ x. as_entity_uid x >>= (λ y. ok (of_bool (same t y.ty)))) h

  is-mem-comes : (t : Text) (w : EntityUID) → evaluate (scope_expr (is_mem t w) v) q es ≡ ok (of_bool (same t u.ty && in_entity u w es))
  is-mem-comes t w =
      ap₂ (λ x y. x >>= (λ z. as_bool z >>= (λ b. cond b (just_bool y) (ok (of_bool false))))) (is-comes t) (mem-comes w) ∙ both (same t u.ty) (in_entity u w es)
    where
      both : (a b : Bool) → cond a (just_bool (ok (of_bool b))) (ok (of_bool false)) ≡ ok (of_bool (a && b))
      both true b = refl
      both false b = refl

  any-comes : (us : List EntityUID) → evaluate (binary_app mem (var v) (set (uid_exprs us))) q es ≡ ok (of_bool (any (λ w. in_entity u w es) us))
  any-comes us =
      ap₂ (λ x y. (y >>= (λ vs. ok (set (to_values (insert_all code vs))))) >>= (λ z. as_entity_uid x >>= (λ w. in_value w z es))) h (uids-come us q es)
      ∙ ap (λ vs. in_set u vs es) (elements-values (insert_all code (uid_values us))) ∙ in-uids u us es

-- ---- a scope that lies in the store, as an expression; its names and texts are read in all of the memory
expr_of : List ℕ → Scope → Var → Expr
expr_of m Any v = scope_expr (scope_means m Any) v
expr_of m (Eq p) v = scope_expr (scope_means m (Eq p)) v
expr_of m (Mem p) v = scope_expr (scope_means m (Mem p)) v
expr_of m (Is p) v = scope_expr (scope_means m (Is p)) v
expr_of m (IsMem t p) v = scope_expr (scope_means m (IsMem t p)) v
expr_of m (InAny n p) v = binary_app mem (var v) (set (uid_exprs (uids_at m p n)))

plain-is : (m : List ℕ) (e : Scope) (v : Var) → Plain e → expr_of m e v ≡ scope_expr (scope_means m e) v
unfolding expr_of
plain-is m Any v h = refl
plain-is m (Eq p) v h = refl
plain-is m (Mem p) v h = refl
plain-is m (Is p) v h = refl
plain-is m (IsMem t p) v h = refl
plain-is m (InAny n p) v h = absurd h

action-is : (m : List ℕ) (e : Scope) → expr_of m e action ≡ action_scope_expr (action_scope_means m e)
unfolding expr_of
action-is m Any = refl
action-is m (Eq p) = refl
action-is m (Mem p) = refl
action-is m (Is p) = refl
action-is m (IsMem t p) = refl
action-is m (InAny n p) = refl

module _ (store work : List ℕ) (x : Subject) where
  -- what the code tests
  abbrev pub holds : Scope → Bool
  holds Any = true
  holds (Eq p) = same_uid (uid_at (store ++ work) x.uid) (uid_at (store ++ work) p)
  holds (Mem p) = in_row (store ++ work) x.uid x.row (uid_at (store ++ work) p)
  holds (Is t) = same (text_at (store ++ work) t) (text_at (store ++ work) x.uid)
  holds (IsMem t p) = same (text_at (store ++ work) t) (text_at (store ++ work) x.uid) && in_row (store ++ work) x.uid x.row (uid_at (store ++ work) p)
  holds (InAny n p) = any (in_row (store ++ work) x.uid x.row) (uids_at (store ++ work) p n)

  module _ (en : Table) (v : Var) (q : s.Request) (S : SubjectIn store (store ++ work) en x) (h : var_of v q ≡ prim (entity_uid (uid_at (store ++ work) x.uid))) where
    is-in : (p : ℕ) (w : EntityUID) → uid_at (store ++ work) p ≡ w → in_entity (uid_at (store ++ work) x.uid) w (entities_at store en) ≡ in_row (store ++ work) x.uid x.row (uid_at (store ++ work) p)
    is-in p w e =
        sym (in-row store work x.uid (entities_at store en) x.row S.found w) ∙ ap (in_row (store ++ work) x.uid x.row) (sym e)

    comes : (e : Scope) → ScopeIn store e → evaluate (expr_of store e v) q (entities_at store en) ≡ ok (of_bool (holds e))
    unfolding expr_of
    comes Any i = refl
    comes (Eq p) i = eq-comes v q (entities_at store en) (uid_at (store ++ work) x.uid) h (uid_at store p) ∙ ap (λ w. ok (of_bool (same_uid (uid_at (store ++ work) x.uid) w))) (sym (uid-on store work p i))
    comes (Mem p) i = mem-comes v q (entities_at store en) (uid_at (store ++ work) x.uid) h (uid_at store p) ∙ ap (λ b. ok (of_bool b)) (is-in p (uid_at store p) (uid-on store work p i))
    comes (Is t) i =
        is-comes v q (entities_at store en) (uid_at (store ++ work) x.uid) h (text_at store t) ∙ ap (λ w. ok (of_bool (same w (text_at (store ++ work) x.uid)))) (sym (text-on store work t i))
    comes (IsMem t p) i =
        is-mem-comes v q (entities_at store en) (uid_at (store ++ work) x.uid) h (text_at store t) (uid_at store p)
        ∙ ap₂ (λ w b. ok (of_bool (same w (text_at (store ++ work) x.uid) && b))) (sym (text-on store work t i.0)) (is-in p (uid_at store p) (uid-on store work p i.1))
    comes (InAny n p) i =
        any-comes v q (entities_at store en) (uid_at (store ++ work) x.uid) h (uids_at store p n)
        ∙ ap (λ b. ok (of_bool b)) (any_same (λ w. in_entity (uid_at (store ++ work) x.uid) w (entities_at store en)) (in_row (store ++ work) x.uid x.row)
        (λ w. sym (in-row store work x.uid (entities_at store en) x.row S.found w)) (uids_at store p n)
        ∙ ap (any (in_row (store ++ work) x.uid x.row)) (sym (uids-on store work n p i.1)))

  pub scope-tells : (e : Scope) (r : Bool) → ScopeIn store e → r ≡ holds e → ScopeTells store (store ++ work) x e r
  scope-tells e r i k = record {
    plain = λ en v q S h P. ap (λ y. evaluate y q (entities_at store en)) (sym (plain-is store e v P)) ∙ comes en v q S h e i ∙ ap (λ b. ok (of_bool b)) (sym k);
    action = λ en q S h. ap (λ y. evaluate y q (entities_at store en)) (sym (action-is store e)) ∙ comes en action q S (ap (λ y. prim (entity_uid y)) h) e i ∙ ap (λ b. ok (of_bool b)) (sym k);
  }
