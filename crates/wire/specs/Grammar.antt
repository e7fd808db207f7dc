-- The grammar of calls: of which fields each form of each kind of tree is made, and how it is read. Assumes nothing: these are definitions.
-- The bytes of a call are defined in `spec`; that what is read here is what those bytes are is proved.
use Rattle.std.specs.Prelude.{ℕ, zero, suc, Bool, true, false, cond, ◌&&◌, List, [], ◌∷◌, length, ◌==◌}
use Rattle.std.proofs.Math.Option.{Option, some, none}
use Rattle.spec.specs.Basics.{Text}
use Rattle.spec.specs.Bytes.{Bytes}
use Rattle.spec.specs.Values.{EntityUID, bool, int, string, entity_uid, Value, prim, set, record_of, Attrs, to_values, to_attrs, Entity, Request}
use Rattle.spec.specs.Exprs.{Var, principal, action, resource, context, not, neg, is_empty, like, is, BinaryOp, eq, mem, has_tag, get_tag, less, less_eq, add, sub as minus, mul, contains, contains_all, contains_any, Expr, lit, var, ite, and, or, unary_app, binary_app, get_attr, has_attr, set, record_of, Exprs, nil, cons, ExprAttrs, empty, attr}
use Rattle.spec.specs.Policies.{Effect, permit, forbid, Scope, any, eq, mem, is, is_mem, ActionScope, in_scope, action_in_any, ConditionKind, when, unless, Condition}
use Rattle.spec.specs.Types.{BoolType, any_bool, is_true, is_false, CedarType, bool, int, string, entity as entity_type, set, record_of, RecordType, empty, attr, EntitySchemaEntry, ActionSchemaEntry}
use Rattle.spec.specs.Calls.{Call, set_schema, put_policy, remove_policy, put_entity, remove_entity, validate_policies, authorize, malformed}
use Rattle.wire.specs.Read.{Read, got, stops, turn, follow, read_word, read_text, read_pattern, nth, got_one, read_one, read_list}
use Rattle.wire.specs.Tags.{ValueTag, bool_tag, int_tag, string_tag, entity_tag, set_tag, record_tag, ExprTag, var_tag, ite_tag, and_tag, or_tag, not_tag, neg_tag, is_empty_tag, like_tag, is_tag, binary_tag, get_attr_tag, has_attr_tag, TypeTag, ScopeTag, any_tag, eq_tag, mem_tag, is_mem_tag, ActionScopeTag, scope_tag, in_any_tag, CallTag, set_schema_tag, put_policy_tag, remove_policy_tag, put_entity_tag, remove_entity_tag, validate_tag, authorize_tag}

-- ---- a byte that tells some few things apart
pub data Small : Type 0 where
  truth : Small
  variable : Small
  operator : Small
  bool_type : Small
  effect : Small
  condition_kind : Small

abbrev pub Choice : Small → Type 0
Choice truth = Bool
Choice variable = Var
Choice operator = BinaryOp
Choice bool_type = BoolType
Choice effect = Effect
Choice condition_kind = ConditionKind

-- in the order of their numbers
abbrev pub choices : (e : Small) → List (Choice e)
choices truth = false ∷ (true ∷ [])
choices variable = principal ∷ (action ∷ (resource ∷ (context ∷ [])))
choices operator = eq ∷ (mem ∷ (has_tag ∷ (get_tag ∷ (less ∷ (less_eq ∷ (add ∷ (minus ∷ (mul ∷ (contains ∷ (contains_all ∷ (contains_any ∷ [])))))))))))
choices bool_type = any_bool ∷ (is_true ∷ (is_false ∷ []))
choices effect = permit ∷ (forbid ∷ [])
choices condition_kind = when ∷ (unless ∷ [])

-- ---- kinds of trees
pub data Kind : Type 0 where
  value : Kind
  expr : Kind
  type : Kind
  scope : Kind
  action_scope : Kind
  uid : Kind
  attrs : Kind
  record_type : Kind
  condition : Kind
  entity : Kind
  entity_entry : Kind
  action_entry : Kind
  request : Kind

abbrev pub Tree : Kind → Type 0
Tree value = Value
Tree expr = Expr
Tree type = CedarType
Tree scope = Scope
Tree action_scope = ActionScope
Tree uid = EntityUID
Tree attrs = Attrs
Tree record_type = RecordType
Tree condition = Condition
Tree entity = Entity
Tree entity_entry = EntitySchemaEntry
Tree action_entry = ActionSchemaEntry
Tree request = Request

-- ---- fields: `part` takes no bytes and counts one in the size
mutual
  pub data Field : Type 0 where
    part : Field
    small : Small → Field
    word : Field
    text : Field
    pattern : Field
    node : Kind → Field
    list : Fields → Field

  pub data Fields : Type 0 where
    no : Fields
    one : Field → Fields
    more : Field → Fields → Fields

abbrev mutual
  pub Content : Field → Type 0
  Content part = Unit {0}
  Content (small e) = Choice e
  Content word = ℕ
  Content text = Text
  Content pattern = List ℕ
  Content (node k) = Tree k
  Content (list fs) = List (Contents fs)

  pub Contents : Fields → Type 0
  Contents no = Unit {0}
  Contents (one f) = Content f
  Contents (more f fs) = Content f × Contents fs

-- ---- the forms of each kind; a kind of one form has no byte for it
abbrev pub Tag : Kind → Type 0
Tag value = ValueTag
Tag expr = ExprTag
Tag type = TypeTag
Tag scope = ScopeTag
Tag action_scope = ActionScopeTag
Tag uid = Unit {0}
Tag attrs = Unit {0}
Tag record_type = Unit {0}
Tag condition = Unit {0}
Tag entity = Unit {0}
Tag entity_entry = Unit {0}
Tag action_entry = Unit {0}
Tag request = Unit {0}

abbrev pub value_tags : List ValueTag
value_tags = bool_tag ∷ (int_tag ∷ (string_tag ∷ (entity_tag ∷ (set_tag ∷ (record_tag ∷ [])))))

abbrev pub expr_tags : List ExprTag
expr_tags =
    bool_tag ∷ (int_tag ∷ (string_tag ∷ (entity_tag ∷ (var_tag ∷ (ite_tag ∷ (and_tag ∷ (or_tag ∷ (not_tag ∷ (neg_tag ∷ (is_empty_tag ∷ (like_tag ∷ (is_tag ∷ (binary_tag ∷ (get_attr_tag ∷ (has_attr_tag ∷ (set_tag ∷ (record_tag ∷ [])))))))))))))))))

abbrev pub type_tags : List TypeTag
type_tags = bool_tag ∷ (int_tag ∷ (string_tag ∷ (entity_tag ∷ (set_tag ∷ (record_tag ∷ [])))))

abbrev pub scope_tags : List ScopeTag
scope_tags = any_tag ∷ (eq_tag ∷ (mem_tag ∷ (is_tag ∷ (is_mem_tag ∷ []))))

abbrev pub action_scope_tags : List ActionScopeTag
action_scope_tags = scope_tag any_tag ∷ (scope_tag eq_tag ∷ (scope_tag mem_tag ∷ (scope_tag is_tag ∷ (scope_tag is_mem_tag ∷ (in_any_tag ∷ [])))))

abbrev pub call_tags : List CallTag
call_tags = set_schema_tag ∷ (put_policy_tag ∷ (remove_policy_tag ∷ (put_entity_tag ∷ (remove_entity_tag ∷ (validate_tag ∷ (authorize_tag ∷ []))))))

-- ---- which forms have others in them, and so are a level of depth
abbrev pub inner_value : ValueTag → Bool
inner_value bool_tag = false
inner_value int_tag = false
inner_value string_tag = false
inner_value entity_tag = false
inner_value set_tag = true
inner_value record_tag = true

abbrev pub inner_expr : ExprTag → Bool
inner_expr bool_tag = false
inner_expr int_tag = false
inner_expr string_tag = false
inner_expr entity_tag = false
inner_expr var_tag = false
inner_expr ite_tag = true
inner_expr and_tag = true
inner_expr or_tag = true
inner_expr not_tag = true
inner_expr neg_tag = true
inner_expr is_empty_tag = true
inner_expr like_tag = true
inner_expr is_tag = true
inner_expr binary_tag = true
inner_expr get_attr_tag = true
inner_expr has_attr_tag = true
inner_expr set_tag = true
inner_expr record_tag = true

abbrev pub inner_type : TypeTag → Bool
inner_type bool_tag = false
inner_type int_tag = false
inner_type string_tag = false
inner_type entity_tag = false
inner_type set_tag = true
inner_type record_tag = true

abbrev pub inner : (k : Kind) → Tag k → Bool
inner value g = inner_value g
inner expr g = inner_expr g
inner type g = inner_type g
inner scope g = false
inner action_scope g = false
inner uid g = false
inner attrs g = false
inner record_type g = false
inner condition g = false
inner entity g = false
inner entity_entry g = false
inner action_entry g = false
inner request g = false

-- ---- the fields of each form
abbrev pub two : Field → Field → Fields
two f g = more f (one g)

abbrev pub three : Field → Field → Field → Fields
three f g h = more f (two g h)

abbrev pub named_values : Field
named_values = list (two text (node value))

abbrev pub named_types : Field
named_types = list (three (small truth) text (node type))

abbrev pub value_fields : ValueTag → Fields
value_fields bool_tag = two part (small truth)
value_fields int_tag = two part word
value_fields string_tag = one text
value_fields entity_tag = two text text
value_fields set_tag = two part (list (one (node value)))
value_fields record_tag = two part named_values

abbrev pub expr_fields : ExprTag → Fields
expr_fields bool_tag = two part (small truth)
expr_fields int_tag = two part word
expr_fields string_tag = one text
expr_fields entity_tag = two text text
expr_fields var_tag = two part (small variable)
expr_fields ite_tag = more part (three (node expr) (node expr) (node expr))
expr_fields and_tag = three part (node expr) (node expr)
expr_fields or_tag = three part (node expr) (node expr)
expr_fields not_tag = two part (node expr)
expr_fields neg_tag = two part (node expr)
expr_fields is_empty_tag = two part (node expr)
expr_fields like_tag = two pattern (node expr)
expr_fields is_tag = two text (node expr)
expr_fields binary_tag = more part (three (small operator) (node expr) (node expr))
expr_fields get_attr_tag = two text (node expr)
expr_fields has_attr_tag = two text (node expr)
expr_fields set_tag = two part (list (one (node expr)))
expr_fields record_tag = two part (list (two text (node expr)))

abbrev pub type_fields : TypeTag → Fields
type_fields bool_tag = two part (small bool_type)
type_fields int_tag = one part
type_fields string_tag = one part
type_fields entity_tag = one text
type_fields set_tag = two part (node type)
type_fields record_tag = two part named_types

abbrev pub scope_fields : ScopeTag → Fields
scope_fields any_tag = one part
scope_fields eq_tag = one (node uid)
scope_fields mem_tag = one (node uid)
scope_fields is_tag = one text
scope_fields is_mem_tag = two text (node uid)

abbrev pub action_scope_fields : ActionScopeTag → Fields
action_scope_fields (scope_tag g) = scope_fields g
action_scope_fields in_any_tag = two part (list (one (node uid)))

abbrev pub call_fields : CallTag → Fields
call_fields set_schema_tag = two (list (one (node entity_entry))) (list (one (node action_entry)))
call_fields put_policy_tag = more text (more (small effect) (more (node scope) (three (node action_scope) (node scope) (list (one (node condition))))))
call_fields remove_policy_tag = one text
call_fields put_entity_tag = one (node entity)
call_fields remove_entity_tag = one (node uid)
call_fields validate_tag = no
call_fields authorize_tag = one (node request)

abbrev pub fields : (k : Kind) → Tag k → Fields
fields value g = value_fields g
fields expr g = expr_fields g
fields type g = type_fields g
fields scope g = scope_fields g
fields action_scope g = action_scope_fields g
fields uid g = two text text
fields attrs g = one named_values
fields record_type g = one named_types
fields condition g = three part (small condition_kind) (node expr)
fields entity g = more (node uid) (three (node attrs) (list (one (node uid))) (node attrs))
fields entity_entry g = more text (three (list (one text)) (node record_type) (list (one (node type))))
fields action_entry g = more (node uid) (more (list (one text)) (three (list (one text)) (list (one (node uid))) (node record_type)))
fields request g = more (node uid) (three (node uid) (node uid) (node attrs))

-- ---- lists and the trees that are lists
abbrev pub to_exprs : List Expr → Exprs
to_exprs [] = nil
to_exprs (x ∷ xs) = cons x (to_exprs xs)

abbrev pub expr_list : Exprs → List Expr
expr_list nil = []
expr_list (cons x xs) = x ∷ expr_list xs

abbrev pub to_expr_attrs : List (Text × Expr) → ExprAttrs
to_expr_attrs [] = empty
to_expr_attrs (f ∷ fs) = attr f.0 f.1 (to_expr_attrs fs)

abbrev pub expr_attr_list : ExprAttrs → List (Text × Expr)
expr_attr_list empty = []
expr_attr_list (attr a x xs) = (a, x) ∷ expr_attr_list xs

abbrev pub to_types : List (Bool × (Text × CedarType)) → RecordType
to_types [] = empty
to_types (f ∷ fs) = attr f.1.0 f.0 f.1.1 (to_types fs)

abbrev pub type_list : RecordType → List (Bool × (Text × CedarType))
type_list empty = []
type_list (attr a r t ts) = (r, (a, t)) ∷ type_list ts

-- ---- what the contents of a form make
abbrev pub make_value : (g : ValueTag) → Contents (value_fields g) → Value
make_value bool_tag (u, b) = prim (bool b)
make_value int_tag (u, n) = prim (int n)
make_value string_tag t = prim (string t)
make_value entity_tag (t, i) = prim (entity_uid (record { ty = t; eid = i }))
make_value set_tag (u, vs) = set (to_values vs)
make_value record_tag (u, fs) = record_of (to_attrs fs)

abbrev pub make_expr : (g : ExprTag) → Contents (expr_fields g) → Expr
make_expr bool_tag (u, b) = lit (bool b)
make_expr int_tag (u, n) = lit (int n)
make_expr string_tag t = lit (string t)
make_expr entity_tag (t, i) = lit (entity_uid (record { ty = t; eid = i }))
make_expr var_tag (u, v) = var v
make_expr ite_tag (u, (x, (y, z))) = ite x y z
make_expr and_tag (u, (x, y)) = and x y
make_expr or_tag (u, (x, y)) = or x y
make_expr not_tag (u, x) = unary_app not x
make_expr neg_tag (u, x) = unary_app neg x
make_expr is_empty_tag (u, x) = unary_app is_empty x
make_expr like_tag (p, x) = unary_app (like p) x
make_expr is_tag (t, x) = unary_app (is t) x
make_expr binary_tag (u, (o, (x, y))) = binary_app o x y
make_expr get_attr_tag (a, x) = get_attr x a
make_expr has_attr_tag (a, x) = has_attr x a
make_expr set_tag (u, xs) = set (to_exprs xs)
make_expr record_tag (u, fs) = record_of (to_expr_attrs fs)

abbrev pub make_type : (g : TypeTag) → Contents (type_fields g) → CedarType
make_type bool_tag (u, b) = bool b
make_type int_tag u = int
make_type string_tag u = string
make_type entity_tag n = entity_type n
make_type set_tag (u, t) = set t
make_type record_tag (u, fs) = record_of (to_types fs)

abbrev pub make_scope : (g : ScopeTag) → Contents (scope_fields g) → Scope
make_scope any_tag u = any
make_scope eq_tag e = eq e
make_scope mem_tag e = mem e
make_scope is_tag t = is t
make_scope is_mem_tag (t, e) = is_mem t e

abbrev pub make_action_scope : (g : ActionScopeTag) → Contents (action_scope_fields g) → ActionScope
make_action_scope (scope_tag g) c = in_scope (make_scope g c)
make_action_scope in_any_tag (u, es) = action_in_any es

abbrev pub make_call : (g : CallTag) → Contents (call_fields g) → Call
make_call set_schema_tag (ts, as') = set_schema (record { ets = ts; acts = as' })
make_call put_policy_tag (i, (f, (p, (a, (r, cs))))) = put_policy (record { id = i; effect = f; principal_scope = p; action_scope = a; resource_scope = r; conditions = cs })
make_call remove_policy_tag t = remove_policy t
make_call put_entity_tag e = put_entity e
make_call remove_entity_tag u = remove_entity u
make_call validate_tag u = validate_policies
make_call authorize_tag q = authorize q

abbrev pub make : (k : Kind) (g : Tag k) → Contents (fields k g) → Tree k
make value g c = make_value g c
make expr g c = make_expr g c
make type g c = make_type g c
make scope g c = make_scope g c
make action_scope g c = make_action_scope g c
make uid g (t, i) = record { ty = t; eid = i }
make attrs g fs = to_attrs fs
make record_type g fs = to_types fs
make condition g (u, (c, x)) = record { kind = c; body = x }
make entity g (u, (r, (us, t))) = record { uid = u; attrs = r; ancestors = us; tags = t }
make entity_entry g (n, (ns, (r, ts))) = record { name = n; ancestors = ns; attrs = r; tags = ts }
make action_entry g (u, (ps, (rs, (us, r)))) = record { uid = u; principals = ps; resources = rs; ancestors = us; context = r }
make request g (p, (a, (r, c))) = record { principal = p; action = a; resource = r; context = c }

-- ---- reading: a form that is a level of depth has to have one left
abbrev pub admitted : {X : Type 0} → (X → Bool) → ℕ → Option X → Option X
admitted f h (some g) = cond (f g && h == 0) none (some g)
admitted f h none = none

unfoldable pub read_tag_of : {X : Type 0} → List X → (X → Bool) → ℕ → Bytes → Read X
read_tag_of xs f h [] = stops 0
read_tag_of xs f h (b ∷ bs) = got_one (admitted f h (nth xs b))

abbrev pub read_tag : (k : Kind) → ℕ → Bytes → Read (Tag k)
read_tag value h bs = read_tag_of value_tags inner_value h bs
read_tag expr h bs = read_tag_of expr_tags inner_expr h bs
read_tag type h bs = read_tag_of type_tags inner_type h bs
read_tag scope h bs = read_tag_of scope_tags (λ _. false) h bs
read_tag action_scope h bs = read_tag_of action_scope_tags (λ _. false) h bs
read_tag uid h bs = got tt 0
read_tag attrs h bs = got tt 0
read_tag record_type h bs = got tt 0
read_tag condition h bs = got tt 0
read_tag entity h bs = got tt 0
read_tag entity_entry h bs = got tt 0
read_tag action_entry h bs = got tt 0
read_tag request h bs = got tt 0

abbrev pub Reader : Type 0
Reader = (k : Kind) → Bytes → Read (Tree k)

abbrev mutual
  pub read_field : Reader → (f : Field) → Bytes → Read (Content f)
  read_field r part bs = got tt 0
  read_field r (small e) bs = read_one (choices e) bs
  read_field r word bs = read_word bs
  read_field r text bs = read_text bs
  read_field r pattern bs = read_pattern bs
  read_field r (node k) bs = r k bs
  read_field r (list fs) bs = read_list (read_fields r fs) 0 bs

  pub read_fields : Reader → (fs : Fields) → Bytes → Read (Contents fs)
  read_fields r no bs = got tt 0
  read_fields r (one f) bs = read_field r f bs
  read_fields r (more f fs) bs = follow (read_field r f bs) bs (λ x rest. turn (λ y. (x, y)) (read_fields r fs rest))

-- a tree of at most some height
unfoldable pub read_node : ℕ → Reader
read_node zero k bs = stops 0
read_node (suc h) k bs = follow (read_tag k h bs) bs (λ g rest. turn (make k g) (read_fields (read_node h) (fields k g) rest))

-- ---- a call: what stands in it is of height 66, so that the body of a condition is of depth 64, and the values of a record of attributes of depth 63
abbrev pub call_height : ℕ
call_height = 66

unfoldable pub read_call : Bytes → Read Call
read_call bs = follow (read_one call_tags bs) bs (λ g rest. turn (make_call g) (read_fields (read_node call_height) (call_fields g) rest))

-- nothing stands behind it
abbrev pub whole : ℕ → Read Call → Call
whole n (got c k) = cond (k == n) c (malformed k)
whole n (stops k) = malformed k

unfoldable pub decode : Bytes → Call
decode bs = whole (length bs) (read_call bs)
