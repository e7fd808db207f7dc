-- Each tree is of one form, with contents of its own: a tree is taken apart into them and made of them again; and its size and bytes are theirs.
use Rattle.std.proofs.Common.{◌≡◌, ◌+◌, Bool, List, [], ◌∷◌, refl, ap, arith}
use Rattle.spec.specs.Basics.{Text}
use Rattle.spec.specs.Values.{bool, int, string, entity_uid, Value, prim, set, record_of, nil, cons, empty, attr, elements, to_values, fields as attr_fields, to_attrs}
use Rattle.spec.specs.Exprs.{not, neg, is_empty, like, is, Expr, lit, var, ite, and, or, unary_app, binary_app, get_attr, has_attr, set, record_of, Exprs, nil, cons, ExprAttrs, empty, attr}
use Rattle.spec.specs.Policies.{Scope, any, eq, mem, is, is_mem, ActionScope, in_scope, action_in_any}
use Rattle.spec.specs.Types.{CedarType, bool, int, string, entity as entity_type, set, record_of, RecordType, empty, attr}
use Rattle.spec.specs.Calls.{size_value, size_expr, size_type, size_text, size_values, size_attrs, size_exprs, size_expr_attrs, size_record_type, sum_of}
use Rattle.laws.proofs.Lists.{elements-values, values-elements, fields-attrs, attrs-fields}
use Rattle.wire.specs.Tags.{ValueTag, bool_tag, int_tag, string_tag, entity_tag, set_tag, record_tag, ExprTag, var_tag, ite_tag, and_tag, or_tag, not_tag, neg_tag, is_empty_tag, like_tag, is_tag, binary_tag, get_attr_tag, has_attr_tag, TypeTag, ScopeTag, any_tag, eq_tag, mem_tag, is_mem_tag, ActionScopeTag, scope_tag, in_any_tag}
use Rattle.wire.specs.Grammar.{Kind, value, expr, type, scope, action_scope, uid, attrs, record_type, condition, entity, entity_entry, action_entry, request, Tree, Contents, Tag, value_fields, expr_fields, type_fields, scope_fields, action_scope_fields, fields, to_exprs, expr_list, to_expr_attrs, expr_attr_list, to_types, type_list, make_value, make_expr, make_type, make_scope, make_action_scope, make}
use Rattle.wire.specs.Sizes.{size_tree, size_fields}

-- ---- a tree, taken apart
abbrev pub Form : Kind → Type 0
Form k = (g : Tag k) × Contents (fields k g)

abbrev pub split_value : Value → (g : ValueTag) × Contents (value_fields g)
split_value (prim (bool b)) = (bool_tag, (tt, b))
split_value (prim (int n)) = (int_tag, (tt, n))
split_value (prim (string t)) = (string_tag, t)
split_value (prim (entity_uid u)) = (entity_tag, (u.ty, u.eid))
split_value (set vs) = (set_tag, (tt, elements vs))
split_value (record_of r) = (record_tag, (tt, attr_fields r))

abbrev pub split_expr : Expr → (g : ExprTag) × Contents (expr_fields g)
split_expr (lit (bool b)) = (bool_tag, (tt, b))
split_expr (lit (int n)) = (int_tag, (tt, n))
split_expr (lit (string t)) = (string_tag, t)
split_expr (lit (entity_uid u)) = (entity_tag, (u.ty, u.eid))
split_expr (var v) = (var_tag, (tt, v))
split_expr (ite x y z) = (ite_tag, (tt, (x, (y, z))))
split_expr (and x y) = (and_tag, (tt, (x, y)))
split_expr (or x y) = (or_tag, (tt, (x, y)))
split_expr (unary_app not x) = (not_tag, (tt, x))
split_expr (unary_app neg x) = (neg_tag, (tt, x))
split_expr (unary_app is_empty x) = (is_empty_tag, (tt, x))
split_expr (unary_app (like p) x) = (like_tag, (p, x))
split_expr (unary_app (is t) x) = (is_tag, (t, x))
split_expr (binary_app o x y) = (binary_tag, (tt, (o, (x, y))))
split_expr (get_attr x a) = (get_attr_tag, (a, x))
split_expr (has_attr x a) = (has_attr_tag, (a, x))
split_expr (set xs) = (set_tag, (tt, expr_list xs))
split_expr (record_of xs) = (record_tag, (tt, expr_attr_list xs))

abbrev pub split_type : CedarType → (g : TypeTag) × Contents (type_fields g)
split_type (bool b) = (bool_tag, (tt, b))
split_type int = (int_tag, tt)
split_type string = (string_tag, tt)
split_type (entity_type n) = (entity_tag, n)
split_type (set t) = (set_tag, (tt, t))
split_type (record_of ts) = (record_tag, (tt, type_list ts))

abbrev pub split_scope : Scope → (g : ScopeTag) × Contents (scope_fields g)
split_scope any = (any_tag, tt)
split_scope (eq u) = (eq_tag, u)
split_scope (mem u) = (mem_tag, u)
split_scope (is t) = (is_tag, t)
split_scope (is_mem t u) = (is_mem_tag, (t, u))

abbrev pub split_action_scope : ActionScope → (g : ActionScopeTag) × Contents (action_scope_fields g)
split_action_scope (in_scope s) = (scope_tag (split_scope s).0, (split_scope s).1)
split_action_scope (action_in_any us) = (in_any_tag, (tt, us))

abbrev pub split : (k : Kind) → Tree k → Form k
split value x = split_value x
split expr x = split_expr x
split type x = split_type x
split scope x = split_scope x
split action_scope x = split_action_scope x
split uid x = (tt, (x.ty, x.eid))
split attrs x = (tt, attr_fields x)
split record_type x = (tt, type_list x)
split condition x = (tt, (tt, (x.kind, x.body)))
split entity x = (tt, (x.uid, (x.attrs, (x.ancestors, x.tags))))
split entity_entry x = (tt, (x.name, (x.ancestors, (x.attrs, x.tags))))
split action_entry x = (tt, (x.uid, (x.principals, (x.resources, (x.ancestors, x.context)))))
split request x = (tt, (x.principal, (x.action, (x.resource, x.context))))

abbrev pub make_form : (k : Kind) → Form k → Tree k
make_form k f = make k f.0 f.1

-- ---- lists
exprs-list : (xs : Exprs) → to_exprs (expr_list xs) ≡ xs
exprs-list nil = refl
exprs-list (cons x xs) = ap (cons x) (exprs-list xs)

list-exprs : (xs : List Expr) → expr_list (to_exprs xs) ≡ xs
list-exprs [] = refl
list-exprs (x ∷ xs) = ap (λ ys. x ∷ ys) (list-exprs xs)

expr-attrs-list : (xs : ExprAttrs) → to_expr_attrs (expr_attr_list xs) ≡ xs
expr-attrs-list empty = refl
expr-attrs-list (attr a x xs) = ap (attr a x) (expr-attrs-list xs)

list-expr-attrs : (xs : List (Text × Expr)) → expr_attr_list (to_expr_attrs xs) ≡ xs
list-expr-attrs [] = refl
list-expr-attrs (x ∷ xs) = ap (λ ys. x ∷ ys) (list-expr-attrs xs)

types-list : (ts : RecordType) → to_types (type_list ts) ≡ ts
types-list empty = refl
types-list (attr a r t ts) = ap (attr a r t) (types-list ts)

list-types : (ts : List (Bool × (Text × CedarType))) → type_list (to_types ts) ≡ ts
list-types [] = refl
list-types (t ∷ ts) = ap (λ us. t ∷ us) (list-types ts)

-- ---- made of its parts again
make-split-value : (x : Value) → make_value (split_value x).0 (split_value x).1 ≡ x
make-split-value (prim (bool b)) = refl
make-split-value (prim (int n)) = refl
make-split-value (prim (string t)) = refl
make-split-value (prim (entity_uid u)) = refl
make-split-value (set vs) = ap Value.set (values-elements vs)
make-split-value (record_of r) = ap Value.record_of (attrs-fields r)

make-split-expr : (x : Expr) → make_expr (split_expr x).0 (split_expr x).1 ≡ x
make-split-expr (lit (bool b)) = refl
make-split-expr (lit (int n)) = refl
make-split-expr (lit (string t)) = refl
make-split-expr (lit (entity_uid u)) = refl
make-split-expr (var v) = refl
make-split-expr (ite x y z) = refl
make-split-expr (and x y) = refl
make-split-expr (or x y) = refl
make-split-expr (unary_app not x) = refl
make-split-expr (unary_app neg x) = refl
make-split-expr (unary_app is_empty x) = refl
make-split-expr (unary_app (like p) x) = refl
make-split-expr (unary_app (is t) x) = refl
make-split-expr (binary_app o x y) = refl
make-split-expr (get_attr x a) = refl
make-split-expr (has_attr x a) = refl
make-split-expr (set xs) = ap Expr.set (exprs-list xs)
make-split-expr (record_of xs) = ap Expr.record_of (expr-attrs-list xs)

make-split-type : (x : CedarType) → make_type (split_type x).0 (split_type x).1 ≡ x
make-split-type (bool b) = refl
make-split-type int = refl
make-split-type string = refl
make-split-type (entity_type n) = refl
make-split-type (set t) = refl
make-split-type (record_of ts) = ap CedarType.record_of (types-list ts)

make-split-scope : (x : Scope) → make_scope (split_scope x).0 (split_scope x).1 ≡ x
make-split-scope any = refl
make-split-scope (eq u) = refl
make-split-scope (mem u) = refl
make-split-scope (is t) = refl
make-split-scope (is_mem t u) = refl

make-split-action : (x : ActionScope) → make_action_scope (split_action_scope x).0 (split_action_scope x).1 ≡ x
make-split-action (in_scope s) = ap in_scope (make-split-scope s)
make-split-action (action_in_any us) = refl

pub make-split : (k : Kind) (x : Tree k) → make_form k (split k x) ≡ x
make-split value x = make-split-value x
make-split expr x = make-split-expr x
make-split type x = make-split-type x
make-split scope x = make-split-scope x
make-split action_scope x = make-split-action x
make-split uid x = refl
make-split attrs x = attrs-fields x
make-split record_type x = types-list x
make-split condition x = refl
make-split entity x = refl
make-split entity_entry x = refl
make-split action_entry x = refl
make-split request x = refl

split-make-value : (g : ValueTag) (c : Contents (value_fields g)) → split_value (make_value g c) ≡ (g, c)
split-make-value bool_tag c = refl
split-make-value int_tag c = refl
split-make-value string_tag c = refl
split-make-value entity_tag c = refl
split-make-value set_tag c = ap (λ vs. (set_tag, (tt, vs))) (elements-values c.1)
split-make-value record_tag c = ap (λ vs. (record_tag, (tt, vs))) (fields-attrs c.1)

split-make-expr : (g : ExprTag) (c : Contents (expr_fields g)) → split_expr (make_expr g c) ≡ (g, c)
split-make-expr bool_tag c = refl
split-make-expr int_tag c = refl
split-make-expr string_tag c = refl
split-make-expr entity_tag c = refl
split-make-expr var_tag c = refl
split-make-expr ite_tag c = refl
split-make-expr and_tag c = refl
split-make-expr or_tag c = refl
split-make-expr not_tag c = refl
split-make-expr neg_tag c = refl
split-make-expr is_empty_tag c = refl
split-make-expr like_tag c = refl
split-make-expr is_tag c = refl
split-make-expr binary_tag c = refl
split-make-expr get_attr_tag c = refl
split-make-expr has_attr_tag c = refl
split-make-expr set_tag c = ap (λ vs. (set_tag, (tt, vs))) (list-exprs c.1)
split-make-expr record_tag c = ap (λ vs. (record_tag, (tt, vs))) (list-expr-attrs c.1)

split-make-type : (g : TypeTag) (c : Contents (type_fields g)) → split_type (make_type g c) ≡ (g, c)
split-make-type bool_tag c = refl
split-make-type int_tag c = refl
split-make-type string_tag c = refl
split-make-type entity_tag c = refl
split-make-type set_tag c = refl
split-make-type record_tag c = ap (λ vs. (record_tag, (tt, vs))) (list-types c.1)

split-make-scope : (g : ScopeTag) (c : Contents (scope_fields g)) → split_scope (make_scope g c) ≡ (g, c)
split-make-scope any_tag c = refl
split-make-scope eq_tag c = refl
split-make-scope mem_tag c = refl
split-make-scope is_tag c = refl
split-make-scope is_mem_tag c = refl

split-make-action : (g : ActionScopeTag) (c : Contents (action_scope_fields g)) → split_action_scope (make_action_scope g c) ≡ (g, c)
split-make-action (scope_tag g) c = ap (λ f. (scope_tag f.0, f.1)) (split-make-scope g c)
split-make-action in_any_tag c = refl

pub split-make : (k : Kind) (g : Tag k) (c : Contents (fields k g)) → split k (make k g c) ≡ (g, c)
split-make value g c = split-make-value g c
split-make expr g c = split-make-expr g c
split-make type g c = split-make-type g c
split-make scope g c = split-make-scope g c
split-make action_scope g c = split-make-action g c
split-make uid g c = refl
split-make attrs g c = ap (λ vs. (tt, vs)) (fields-attrs c)
split-make record_type g c = ap (λ vs. (tt, vs)) (list-types c)
split-make condition g c = refl
split-make entity g c = refl
split-make entity_entry g c = refl
split-make action_entry g c = refl
split-make request g c = refl

-- ---- the size of a tree is that of its contents
size-elements : (vs : List Value) → size_values (to_values vs) ≡ sum_of size_value vs
size-elements [] = refl
size-elements (v ∷ vs) = ap (λ n. size_value v + n) (size-elements vs)

size-attrs : (fs : List (Text × Value)) → size_attrs (to_attrs fs) ≡ sum_of (λ f. size_text f.0 + size_value f.1) fs
size-attrs [] = refl
size-attrs (f ∷ fs) = rw (size-attrs fs) (omega arith)

size-exprs : (xs : List Expr) → size_exprs (to_exprs xs) ≡ sum_of size_expr xs
size-exprs [] = refl
size-exprs (x ∷ xs) = ap (λ n. size_expr x + n) (size-exprs xs)

size-expr-attrs : (fs : List (Text × Expr)) → size_expr_attrs (to_expr_attrs fs) ≡ sum_of (λ f. size_text f.0 + size_expr f.1) fs
size-expr-attrs [] = refl
size-expr-attrs (f ∷ fs) = rw (size-expr-attrs fs) (omega arith)

size-types : (fs : List (Bool × (Text × CedarType))) → size_record_type (to_types fs) ≡ sum_of (λ f. 0 + (size_text f.1.0 + size_type f.1.1)) fs
size-types [] = refl
size-types (f ∷ fs) = rw (size-types fs) (omega arith)

size-make-value : (g : ValueTag) (c : Contents (value_fields g)) → size_value (make_value g c) ≡ size_fields (value_fields g) c
size-make-value bool_tag c = refl
size-make-value int_tag c = refl
size-make-value string_tag c = refl
size-make-value entity_tag c = refl
size-make-value set_tag c = rw (size-elements c.1) (omega arith)
size-make-value record_tag c = rw (size-attrs c.1) (omega arith)

size-make-expr : (g : ExprTag) (c : Contents (expr_fields g)) → size_expr (make_expr g c) ≡ size_fields (expr_fields g) c
size-make-expr bool_tag c = refl
size-make-expr int_tag c = refl
size-make-expr string_tag c = refl
size-make-expr entity_tag c = refl
size-make-expr var_tag c = refl
size-make-expr ite_tag c = omega arith
size-make-expr and_tag c = omega arith
size-make-expr or_tag c = omega arith
size-make-expr not_tag c = omega arith
size-make-expr neg_tag c = omega arith
size-make-expr is_empty_tag c = omega arith
size-make-expr like_tag c = refl
size-make-expr is_tag c = refl
size-make-expr binary_tag c = omega arith
size-make-expr get_attr_tag c = refl
size-make-expr has_attr_tag c = refl
size-make-expr set_tag c = rw (size-exprs c.1) (omega arith)
size-make-expr record_tag c = rw (size-expr-attrs c.1) (omega arith)

size-make-type : (g : TypeTag) (c : Contents (type_fields g)) → size_type (make_type g c) ≡ size_fields (type_fields g) c
size-make-type bool_tag c = refl
size-make-type int_tag c = refl
size-make-type string_tag c = refl
size-make-type entity_tag c = refl
size-make-type set_tag c = omega arith
size-make-type record_tag c = rw (size-types c.1) (omega arith)

size-make-scope : (g : ScopeTag) (c : Contents (scope_fields g)) → size_tree scope (make_scope g c) ≡ size_fields (scope_fields g) c
size-make-scope any_tag c = refl
size-make-scope eq_tag c = refl
size-make-scope mem_tag c = refl
size-make-scope is_tag c = refl
size-make-scope is_mem_tag c = refl

size-make-action : (g : ActionScopeTag) (c : Contents (action_scope_fields g)) → size_tree action_scope (make_action_scope g c) ≡ size_fields (action_scope_fields g) c
size-make-action (scope_tag g) c = size-make-scope g c
size-make-action in_any_tag c = omega arith

pub size-make : (k : Kind) (g : Tag k) (c : Contents (fields k g)) → size_tree k (make k g c) ≡ size_fields (fields k g) c
size-make value g c = size-make-value g c
size-make expr g c = size-make-expr g c
size-make type g c = size-make-type g c
size-make scope g c = size-make-scope g c
size-make action_scope g c = size-make-action g c
size-make uid g c = refl
size-make attrs g c = size-attrs c
size-make record_type g c = size-types c
size-make condition g c = omega arith
size-make entity g c = omega arith
size-make entity_entry g c = omega arith
size-make action_entry g c = omega arith
size-make request g c = omega arith
