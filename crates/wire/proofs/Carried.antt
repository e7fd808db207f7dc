-- What the definitions say that bytes can carry is what trees of the height of a call are.
use Rattle.std.proofs.Common.{◌≡◌, ℕ, zero, suc, ◌-◌, Bool, true, false, not as flip, ◌&&◌, eqb, ltb, List, [], ◌∷◌, sym, refl, ◌∙◌, arith}
use Rattle.std.proofs.lemmas.Bool.{lt-ltb, ne_eqb}
use Rattle.spec.specs.Basics.{all}
use Rattle.spec.specs.Values.{EntityUID, bool, int, string, entity_uid, Value, prim, set, record_of, Values, nil, cons, Attrs, empty, attr, elements, fields as attr_fields, Entity, Request}
use Rattle.spec.specs.Exprs.{not, neg, is_empty, like, is, Expr, lit, var, ite, and, or, unary_app, binary_app, get_attr, has_attr, set, record_of, Exprs, nil, cons, ExprAttrs, empty, attr}
use Rattle.spec.specs.Policies.{Scope, any, eq, mem, is, is_mem, ActionScope, in_scope, action_in_any, Condition}
use Rattle.spec.specs.Types.{CedarType, bool, int, string, entity as entity_type, set, record_of, RecordType, empty, attr, EntitySchemaEntry, ActionSchemaEntry}
use Rattle.spec.specs.Calls.{is_bytes, is_pattern, encodable_uid, encodable_value, encodable_values, encodable_attrs, encodable_expr, encodable_exprs, encodable_expr_attrs, encodable_type, encodable_record_type, encodable_scope, encodable_action_scope, encodable_entry, encodable_action, encodable}
use Rattle.wire.specs.Tags.{CallTag, set_schema_tag, put_policy_tag, remove_policy_tag, put_entity_tag, remove_entity_tag, validate_tag, authorize_tag}
use Rattle.wire.specs.Grammar.{value, expr, type, scope, action_scope, uid, attrs, record_type, condition, entity, entity_entry, action_entry, request, Contents, call_fields, expr_list, expr_attr_list, type_list, make_call, call_height}
use Rattle.wire.specs.Sizes.{good_fields}
use Rattle.wire.proofs.Nodes.{good}

-- ---- tests
and_assoc : (a b c : Bool) → ((a && b) && c) ≡ (a && (b && c))
and_assoc true b c = refl
and_assoc false b c = refl

both : {a b c d : Bool} → a ≡ c → b ≡ d → (a && b) ≡ (c && d)
both p q i = p i && q i

also : (a : Bool) {b d : Bool} → b ≡ d → (a && b) ≡ (a && d)
also a q i = a && q i

all_same : {X : Type 0} (f g : X → Bool) → ((x : X) → f x ≡ g x) → (xs : List X) → all f xs ≡ all g xs
all_same f g e [] = refl
all_same f g e (x ∷ xs) = both (e x) (all_same f g e xs)

-- one level less
lower : (d : ℕ) (F B : ℕ → Bool) → ((e : ℕ) → F e ≡ B (suc e)) → (ltb 0 d && F (d - 1)) ≡ (flip (eqb d 0) && B d)
lower zero F B e = refl
lower (suc d) F B e =
    let p : suc d - 1 ≡ d = omega arith in
    rw (lt-ltb 0 (suc d) (omega arith), ne_eqb (suc d) 0 (λ q. omega arith), p) (e d)

-- ---- values
mutual
  unfolding good

  pub carried-value : (v : Value) (d : ℕ) → encodable_value v d ≡ good (suc d) value v
  carried-value (prim (bool b)) d = refl
  carried-value (prim (int n)) d = refl
  carried-value (prim (string t)) d = refl
  carried-value (prim (entity_uid u)) d = refl
  carried-value (set vs) d = lower d (encodable_values vs) (λ h. all (good h value) (elements vs)) (carried-values vs)
  carried-value (record_of r) d = lower d (encodable_attrs r) (λ h. all (λ f. is_bytes f.0 && good h value f.1) (attr_fields r)) (carried-attrs r)

  carried-values : (vs : Values) (d : ℕ) → encodable_values vs d ≡ all (good (suc d) value) (elements vs)
  carried-values nil d = refl
  carried-values (cons v vs) d = both (carried-value v d) (carried-values vs d)

  carried-attrs : (r : Attrs) (d : ℕ) → encodable_attrs r d ≡ all (λ f. is_bytes f.0 && good (suc d) value f.1) (attr_fields r)
  carried-attrs empty d = refl
  carried-attrs (attr a v r) d = also (is_bytes a) (both (carried-value v d) (carried-attrs r d)) ∙ sym (and_assoc (is_bytes a) (good (suc d) value v) _)

-- ---- expressions
mutual
  unfolding good

  pub carried-expr : (x : Expr) (d : ℕ) → encodable_expr x d ≡ good (suc d) expr x
  carried-expr (lit (bool b)) d = refl
  carried-expr (lit (int n)) d = refl
  carried-expr (lit (string t)) d = refl
  carried-expr (lit (entity_uid u)) d = refl
  carried-expr (var v) d = refl
  carried-expr (ite x y z) d =
      lower d (λ e. encodable_expr x e && (encodable_expr y e && encodable_expr z e)) (λ h. good h expr x && (good h expr y && good h expr z)) (λ e. both (carried-expr x e) (both (carried-expr y e) (carried-expr z e)))
  carried-expr (and x y) d = lower d (λ e. encodable_expr x e && encodable_expr y e) (λ h. good h expr x && good h expr y) (λ e. both (carried-expr x e) (carried-expr y e))
  carried-expr (or x y) d = lower d (λ e. encodable_expr x e && encodable_expr y e) (λ h. good h expr x && good h expr y) (λ e. both (carried-expr x e) (carried-expr y e))
  carried-expr (unary_app not x) d = lower d (encodable_expr x) (λ h. good h expr x) (carried-expr x)
  carried-expr (unary_app neg x) d = lower d (encodable_expr x) (λ h. good h expr x) (carried-expr x)
  carried-expr (unary_app is_empty x) d = lower d (encodable_expr x) (λ h. good h expr x) (carried-expr x)
  carried-expr (unary_app (like p) x) d = lower d (λ e. is_pattern p && encodable_expr x e) (λ h. is_pattern p && good h expr x) (λ e. also _ (carried-expr x e))
  carried-expr (unary_app (is t) x) d = lower d (λ e. is_bytes t && encodable_expr x e) (λ h. is_bytes t && good h expr x) (λ e. also _ (carried-expr x e))
  carried-expr (binary_app o x y) d = lower d (λ e. encodable_expr x e && encodable_expr y e) (λ h. good h expr x && good h expr y) (λ e. both (carried-expr x e) (carried-expr y e))
  carried-expr (get_attr x a) d = lower d (λ e. is_bytes a && encodable_expr x e) (λ h. is_bytes a && good h expr x) (λ e. also _ (carried-expr x e))
  carried-expr (has_attr x a) d = lower d (λ e. is_bytes a && encodable_expr x e) (λ h. is_bytes a && good h expr x) (λ e. also _ (carried-expr x e))
  carried-expr (set xs) d = lower d (encodable_exprs xs) (λ h. all (good h expr) (expr_list xs)) (carried-exprs xs)
  carried-expr (record_of xs) d = lower d (encodable_expr_attrs xs) (λ h. all (λ f. is_bytes f.0 && good h expr f.1) (expr_attr_list xs)) (carried-expr-attrs xs)

  carried-exprs : (xs : Exprs) (d : ℕ) → encodable_exprs xs d ≡ all (good (suc d) expr) (expr_list xs)
  carried-exprs nil d = refl
  carried-exprs (cons x xs) d = both (carried-expr x d) (carried-exprs xs d)

  carried-expr-attrs : (r : ExprAttrs) (d : ℕ) → encodable_expr_attrs r d ≡ all (λ f. is_bytes f.0 && good (suc d) expr f.1) (expr_attr_list r)
  carried-expr-attrs empty d = refl
  carried-expr-attrs (attr a v r) d = also (is_bytes a) (both (carried-expr v d) (carried-expr-attrs r d)) ∙ sym (and_assoc (is_bytes a) (good (suc d) expr v) _)

-- ---- types
mutual
  unfolding good

  pub carried-type : (t : CedarType) (d : ℕ) → encodable_type t d ≡ good (suc d) type t
  carried-type (bool b) d = refl
  carried-type int d = refl
  carried-type string d = refl
  carried-type (entity_type n) d = refl
  carried-type (set t) d = lower d (encodable_type t) (λ h. good h type t) (carried-type t)
  carried-type (record_of ts) d = lower d (encodable_record_type ts) (λ h. all (λ f. is_bytes f.1.0 && good h type f.1.1) (type_list ts)) (carried-types ts)

  carried-types : (ts : RecordType) (d : ℕ) → encodable_record_type ts d ≡ all (λ f. is_bytes f.1.0 && good (suc d) type f.1.1) (type_list ts)
  carried-types empty d = refl
  carried-types (attr a r t ts) d = also (is_bytes a) (both (carried-type t d) (carried-types ts d)) ∙ sym (and_assoc (is_bytes a) (good (suc d) type t) _)

-- ---- what stands in a call
carried-uid : (h : ℕ) (u : EntityUID) → encodable_uid u ≡ good (suc h) uid u
unfolding good
carried-uid h u = refl

carried-scope : (h : ℕ) (s : Scope) → encodable_scope s ≡ good (suc (suc h)) scope s
unfolding good
carried-scope h any = refl
carried-scope h (eq u) = refl
carried-scope h (mem u) = refl
carried-scope h (is t) = refl
carried-scope h (is_mem t u) = refl

carried-action-scope : (h : ℕ) (s : ActionScope) → encodable_action_scope s ≡ good (suc (suc h)) action_scope s
unfolding good
carried-action-scope h (in_scope s) = carried-scope h s
carried-action-scope h (action_in_any us) = all_same encodable_uid (good (suc h) uid) (carried-uid h) us

carried-record : (h : ℕ) (r : Attrs) → encodable_attrs r h ≡ good (suc (suc h)) attrs r
unfolding good
carried-record h r = carried-attrs r h

carried-record-type : (h : ℕ) (r : RecordType) → encodable_record_type r h ≡ good (suc (suc h)) record_type r
unfolding good
carried-record-type h r = carried-types r h

carried-condition : (h : ℕ) (c : Condition) → encodable_expr c.body h ≡ good (suc (suc h)) condition c
unfolding good
carried-condition h c = carried-expr c.body h

carried-entity : (h : ℕ) (x : Entity) → ((encodable_uid x.uid && encodable_attrs x.attrs h) && (all encodable_uid x.ancestors && encodable_attrs x.tags h)) ≡ good (suc (suc (suc h))) entity x
unfolding good
carried-entity h x =
    and_assoc (encodable_uid x.uid) (encodable_attrs x.attrs h) _
    ∙ both (carried-uid (suc h) x.uid) (both (carried-record h x.attrs) (both (all_same encodable_uid (good (suc (suc h)) uid) (carried-uid (suc h)) x.ancestors) (carried-record h x.tags)))

carried-entry : (h : ℕ) (x : EntitySchemaEntry) → ((is_bytes x.name && all is_bytes x.ancestors) && (encodable_record_type x.attrs h && all (λ t. encodable_type t (suc h)) x.tags)) ≡ good (suc (suc (suc h))) entity_entry x
unfolding good
carried-entry h x =
    and_assoc (is_bytes x.name) (all is_bytes x.ancestors) _
    ∙ also (is_bytes x.name) (also (all is_bytes x.ancestors) (both (carried-record-type h x.attrs) (all_same (λ t. encodable_type t (suc h)) (good (suc (suc h)) type) (λ t. carried-type t (suc h)) x.tags)))

carried-action : (h : ℕ) (x : ActionSchemaEntry) → ((encodable_uid x.uid && all is_bytes x.principals) && (all is_bytes x.resources && (all encodable_uid x.ancestors && encodable_record_type x.context h))) ≡ good (suc (suc (suc h))) action_entry x
unfolding good
carried-action h x =
    and_assoc (encodable_uid x.uid) (all is_bytes x.principals) _
    ∙ both (carried-uid (suc h) x.uid) (also (all is_bytes x.principals) (also (all is_bytes x.resources) (both (all_same encodable_uid (good (suc (suc h)) uid) (carried-uid (suc h)) x.ancestors) (carried-record-type h x.context))))

carried-request : (h : ℕ) (x : Request) → ((encodable_uid x.principal && encodable_uid x.action) && (encodable_uid x.resource && encodable_attrs x.context h)) ≡ good (suc (suc (suc h))) request x
unfolding good
carried-request h x =
    and_assoc (encodable_uid x.principal) (encodable_uid x.action) _
    ∙ both (carried-uid (suc h) x.principal) (both (carried-uid (suc h) x.action) (both (carried-uid (suc h) x.resource) (carried-record h x.context)))

carried-policy : (a b c d e : Bool) → ((a && b) && ((c && d) && e)) ≡ (a && (b && (c && (d && e))))
carried-policy a b c d e = and_assoc a b _ ∙ also a (also b (and_assoc c d e))

pub carried-call : (g : CallTag) (c : Contents (call_fields g)) → encodable (make_call g c) ≡ good_fields (good call_height) (call_fields g) c
carried-call set_schema_tag c = both (all_same encodable_entry (good 66 entity_entry) (carried-entry 63) c.0) (all_same encodable_action (good 66 action_entry) (carried-action 63) c.1)
carried-call put_policy_tag (i, (f, (p, (a, (r, cs))))) =
    carried-policy (is_bytes i) (encodable_scope p) (encodable_action_scope a) (encodable_scope r) (all (λ x. encodable_expr x.body 64) cs)
    ∙ also (is_bytes i) (both (carried-scope 64 p) (both (carried-action-scope 64 a) (both (carried-scope 64 r) (all_same (λ x. encodable_expr x.body 64) (good 66 condition) (carried-condition 64) cs))))
carried-call remove_policy_tag c = refl
carried-call put_entity_tag c = carried-entity 63 c
carried-call remove_entity_tag c = carried-uid 65 c
carried-call validate_tag c = refl
carried-call authorize_tag c = carried-request 63 c
