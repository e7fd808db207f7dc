-- How long rows are, by the size of what they hold.
use Rattle.std.proofs.Common.{◌≡◌, ℕ, ◌+◌, ◌*◌, ◌≤◌, List, [], ◌∷◌, ◌++◌, length, ◌∙◌, arith}
use Rattle.std.proofs.lemmas.List.{length-append}
use Rattle.spec.specs.Basics.{Text}
use Rattle.spec.specs.Values.{EntityUID, Primitive, bool, int, string, entity_uid, Value, prim, set, record_of, Values, nil, cons, Attrs, empty, attr, code_text, code_uid, Entity, Request}
use Rattle.spec.specs.Exprs.{UnaryOp, not, neg, is_empty, like, is, Expr, lit, var, ite, and, or, unary_app, binary_app, get_attr, has_attr, set, record_of, Exprs, nil, cons, ExprAttrs, empty, attr}
use Rattle.spec.specs.Policies.{Scope, any, eq, mem, is, is_mem, ActionScope, in_scope, action_in_any, Condition, Policy}
use Rattle.spec.specs.Types.{CedarType, bool, int, string, entity, set, record_of, RecordType, empty, attr, EntitySchemaEntry, ActionSchemaEntry, Schema}
use Rattle.spec.specs.Calls.{size_text, size_uid, size_primitive, size_value, size_values, size_attrs, size_op, size_expr, size_exprs, size_expr_attrs, size_type, size_record_type, size_scope, size_action_scope, size_condition, size_policy, size_entity, size_entry, size_action, size_schema, size_request, Store, size_store, sum_of}
use Rattle.spec.specs.Bytes.{effect_number}
use Rattle.rows.specs.Rows.{rows_of, counted, row_primitive, row_unary, row_expr, row_exprs, row_expr_attrs, row_type, row_types, row_record_type, row_scope, row_action_scope, row_condition, row_policy, count_values, count_fields, behind_of, entries, behind_all, attr_entries, behind_attrs, row_attrs, row_entity, row_entry, row_action, row_request, row_schema, numbers_of, RowsAreBounded, StoreFitsMemory}

two : (xs ys : List ℕ) → length (xs ++ ys) ≡ length xs + length ys
two xs ys = length-append xs ys

uid-long : (u : EntityUID) → length (code_uid u) ≡ size_uid u
uid-long u = two (code_text u.ty) (code_text u.eid) ∙ omega arith

-- things one after the other
rows_long : {A : Type 0} (f : A → List ℕ) (s : A → ℕ) → ((x : A) → length (f x) ≤ 4 * s x) → (xs : List A) → length (rows_of f xs) ≤ 4 * sum_of s xs
rows_long f s k [] = omega arith
rows_long f s k (x ∷ xs) = let a = two (f x) (rows_of f xs) in let b = k x in let c = rows_long f s k xs in omega (arith, a, b, c)

prim-long : (p : Primitive) → length (row_primitive p) ≤ 3 * size_primitive p
prim-long (bool b) = omega arith
prim-long (int n) = omega arith
prim-long (string t) = omega arith
prim-long (entity_uid u) = let a = uid-long u in omega (arith, a)

unary-long : (o : UnaryOp) (xs : List ℕ) (n : ℕ) → length xs ≤ 3 * n → length (row_unary o xs) ≤ 3 * (size_op o + n)
unary-long not xs n h = omega arith
unary-long neg xs n h = omega arith
unary-long is_empty xs n h = omega arith
unary-long (like p) xs n h = let a = two (code_text p) xs in omega (arith, a)
unary-long (is t) xs n h = let a = two (code_text t) xs in omega (arith, a)

-- an expression takes three
mutual
  pub expr-long : (x : Expr) → length (row_expr x) ≤ 3 * size_expr x
  expr-long (lit p) = prim-long p
  expr-long (var v) = omega arith
  expr-long (ite x y z) =
      let a = two (row_expr x) (row_expr y ++ row_expr z) in let b = two (row_expr y) (row_expr z) in
      let p = expr-long x in let q = expr-long y in let r = expr-long z in omega (arith, a, b, p, q, r)
  expr-long (and x y) = let a = two (row_expr x) (row_expr y) in let p = expr-long x in let q = expr-long y in omega (arith, a, p, q)
  expr-long (or x y) = let a = two (row_expr x) (row_expr y) in let p = expr-long x in let q = expr-long y in omega (arith, a, p, q)
  expr-long (unary_app o x) = unary-long o (row_expr x) (size_expr x) (expr-long x)
  expr-long (binary_app o x y) = let a = two (row_expr x) (row_expr y) in let p = expr-long x in let q = expr-long y in omega (arith, a, p, q)
  expr-long (get_attr x t) = let a = two (code_text t) (row_expr x) in let p = expr-long x in omega (arith, a, p)
  expr-long (has_attr x t) = let a = two (code_text t) (row_expr x) in let p = expr-long x in omega (arith, a, p)
  expr-long (set xs) = let p = exprs-long xs in omega (arith, p)
  expr-long (record_of xs) = let p = attrs-long xs in omega (arith, p)

  exprs-long : (xs : Exprs) → length (row_exprs xs) ≤ 3 * size_exprs xs
  exprs-long nil = omega arith
  exprs-long (cons x xs) = let a = two (row_expr x) (row_exprs xs) in let p = expr-long x in let q = exprs-long xs in omega (arith, a, p, q)

  attrs-long : (xs : ExprAttrs) → length (row_expr_attrs xs) ≤ 3 * size_expr_attrs xs
  attrs-long empty = omega arith
  attrs-long (attr t x xs) =
      let a = two (code_text t) (row_expr x ++ row_expr_attrs xs) in let b = two (row_expr x) (row_expr_attrs xs) in
      let p = expr-long x in let q = attrs-long xs in omega (arith, a, b, p, q)

mutual
  type-long : (t : CedarType) → length (row_type t) ≤ 4 * size_type t
  type-long (bool b) = omega arith
  type-long int = omega arith
  type-long string = omega arith
  type-long (entity n) = omega arith
  type-long (set t) = let p = type-long t in omega (arith, p)
  type-long (record_of ts) = let p = types_long ts in omega (arith, p)

  types_long : (ts : RecordType) → length (row_types ts) ≤ 4 * size_record_type ts
  types_long empty = omega arith
  types_long (attr n r t ts) =
      let a = two (code_text n) (row_type t ++ row_types ts) in let b = two (row_type t) (row_types ts) in
      let p = type-long t in let q = types_long ts in omega (arith, a, b, p, q)

scope-long : (s : Scope) → length (row_scope s) ≤ 4 * size_scope s
scope-long any = omega arith
scope-long (eq u) = let a = uid-long u in omega (arith, a)
scope-long (mem u) = let a = uid-long u in omega (arith, a)
scope-long (is t) = omega arith
scope-long (is_mem t u) = let a = two (code_text t) (code_uid u) in let b = uid-long u in omega (arith, a, b)

uids-long : (us : List EntityUID) → length (rows_of code_uid us) ≤ 4 * sum_of size_uid us
uids-long us = rows_long code_uid size_uid (λ u. let a = uid-long u in omega (arith, a)) us

texts-long : (ts : List Text) → length (rows_of code_text ts) ≤ 4 * sum_of size_text ts
texts-long ts = rows_long code_text size_text (λ t. omega arith) ts

action-scope-long : (s : ActionScope) → length (row_action_scope s) ≤ 4 * size_action_scope s
action-scope-long (in_scope s) = scope-long s
action-scope-long (action_in_any us) = let a = uids-long us in omega (arith, a)

conditions-long : (cs : List Condition) → length (rows_of row_condition cs) ≤ 4 * sum_of size_condition cs
conditions-long cs = rows_long row_condition size_condition (λ c. let p = expr-long c.body in omega (arith, p)) cs

scope-size : (s : Scope) → 1 ≤ size_scope s
scope-size any = omega arith
scope-size (eq u) = omega arith
scope-size (mem u) = omega arith
scope-size (is t) = omega arith
scope-size (is_mem t u) = omega arith

policy-long : (p : Policy) → length (row_policy p) + 1 ≤ 4 * size_policy p
policy-long p =
    let s1 = row_scope p.principal_scope in let s2 = row_action_scope p.action_scope in let s3 = row_scope p.resource_scope in let cs = counted row_condition p.conditions in
    let a = two (code_text p.id) (effect_number p.effect ∷ (s1 ++ (s2 ++ (s3 ++ cs)))) in
    let b = two s1 (s2 ++ (s3 ++ cs)) in let c = two s2 (s3 ++ cs) in let d = two s3 cs in
    let h1 = scope-long p.principal_scope in let h2 = action-scope-long p.action_scope in let h3 = scope-long p.resource_scope in
    let h4 = conditions-long p.conditions in
    omega (arith, a, b, c, d, h1, h2, h3, h4)

-- what lies behind a payload leaves two numbers of four for each unit free, for the payload and its tag
mutual
  value-long : (v : Value) → length (behind_of v) + 2 ≤ 4 * size_value v
  value-long (prim (bool b)) = omega arith
  value-long (prim (int n)) = omega arith
  value-long (prim (string t)) = omega arith
  value-long (prim (entity_uid u)) = let a = uid-long u in omega (arith, a)
  value-long (set vs) =
      let o = 2 + 2 * count_values vs in
      let a = two (entries o vs) (behind_all vs) in let p = values-long o vs in omega (arith, a, p)
  value-long (record_of r) =
      let o = 2 + 3 * count_fields r in
      let a = two (attr_entries o r) (behind_attrs r) in let p = fields-long o r in omega (arith, a, p)

  values-long : (o : ℕ) (vs : Values) → length (entries o vs) + length (behind_all vs) ≤ 4 * size_values vs
  values-long o nil = omega arith
  values-long o (cons v vs) = let a = two (behind_of v) (behind_all vs) in let p = value-long v in let q = values-long (o + length (behind_of v)) vs in omega (arith, a, p, q)

  fields-long : (o : ℕ) (r : Attrs) → length (attr_entries o r) + length (behind_attrs r) ≤ 4 * size_attrs r
  fields-long o empty = omega arith
  fields-long o (attr t v r) =
      let a = two (code_text t) (behind_of v ++ behind_attrs r) in let b = two (behind_of v) (behind_attrs r) in
      let p = value-long v in let q = fields-long (o + length (code_text t) + length (behind_of v)) r in omega (arith, a, b, p, q)

record-long : (r : Attrs) → length (row_attrs r) ≤ 4 * size_attrs r + 2
record-long r = let o = 2 + 3 * count_fields r in let a = two (attr_entries o r) (behind_attrs r) in let p = fields-long o r in omega (arith, a, p)

entity-long : (e : Entity) → length (row_entity e) + 1 ≤ 4 * size_entity e
entity-long e =
    let us = counted code_uid e.ancestors in
    let a = two (code_uid e.uid) (row_attrs e.attrs ++ (row_attrs e.tags ++ us)) in
    let b = two (row_attrs e.attrs) (row_attrs e.tags ++ us) in let c = two (row_attrs e.tags) us in
    let h1 = uid-long e.uid in let h2 = record-long e.attrs in let h3 = record-long e.tags in let h4 = uids-long e.ancestors in
    omega (arith, a, b, c, h1, h2, h3, h4)

entry-long : (d : EntitySchemaEntry) → length (row_entry d) ≤ 4 * size_entry d
entry-long d =
    let x = counted code_text d.ancestors in let y = row_record_type d.attrs in let z = counted row_type d.tags in
    let a = two (code_text d.name) (x ++ (y ++ z)) in let b = two x (y ++ z) in let c = two y z in
    let h1 = texts-long d.ancestors in let h2 = types_long d.attrs in let h3 = rows_long row_type size_type type-long d.tags in
    omega (arith, a, b, c, h1, h2, h3)

action-long : (x : ActionSchemaEntry) → length (row_action x) ≤ 4 * size_action x
action-long x =
    let ps = counted code_text x.principals in let rs = counted code_text x.resources in let us = counted code_uid x.ancestors in let t = row_record_type x.context in
    let a = two (code_uid x.uid) (ps ++ (rs ++ (us ++ t))) in let b = two ps (rs ++ (us ++ t)) in let c = two rs (us ++ t) in let d = two us t in
    let h = uid-long x.uid in let h1 = texts-long x.principals in let h2 = texts-long x.resources in let h3 = uids-long x.ancestors in let h4 = types_long x.context in
    omega (arith, a, b, c, d, h, h1, h2, h3, h4)

schema-long : (s : Schema) → length (row_schema s) ≤ 4 * size_schema s + 2
schema-long s =
    let a = two (counted row_entry s.ets) (counted row_action s.acts) in
    let h1 = rows_long row_entry size_entry entry-long s.ets in let h2 = rows_long row_action size_action action-long s.acts in
    omega (arith, a, h1, h2)

request-long : (q : Request) → length (row_request q) ≤ 4 * size_request q
request-long q =
    let a = two (code_uid q.principal) (code_uid q.action ++ (code_uid q.resource ++ row_attrs q.context)) in
    let b = two (code_uid q.action) (code_uid q.resource ++ row_attrs q.context) in let c = two (code_uid q.resource) (row_attrs q.context) in
    let h1 = uid-long q.principal in let h2 = uid-long q.action in let h3 = uid-long q.resource in let h4 = record-long q.context in
    omega (arith, a, b, c, h1, h2, h3, h4)

pub rows-are-bounded : RowsAreBounded
rows-are-bounded = (policy-long, entity-long, schema-long, request-long)

-- ---- a whole store
sum-within : {A : Type 0} (f s : A → ℕ) → ((x : A) → f x ≤ 4 * s x) → (xs : List A) → sum_of f xs ≤ 4 * sum_of s xs
sum-within f s k [] = omega arith
sum-within f s k (x ∷ xs) = let a = k x in let b = sum-within f s k xs in omega (arith, a, b)

store-fits : (s : Store) (capacity : ℕ) → size_store s ≤ capacity → numbers_of s ≤ 4 * capacity + 2
store-fits s capacity h =
    let a = schema-long s.schema in
    let b = sum-within (λ p. length (row_policy p) + 1) size_policy policy-long s.policies in
    let c = sum-within (λ e. length (row_entity e) + 1) size_entity entity-long s.entities in
    omega (arith, a, b, c, h)

pub store-fits-memory : StoreFitsMemory
store-fits-memory = (store-fits, (λ p h. let a = policy-long p in omega (arith, a, h)), (λ q h. let a = request-long q in omega (arith, a, h)))
