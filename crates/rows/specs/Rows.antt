-- Trees as rows of numbers, as they stand in memory: position independent, so that a tree in another is a part of its row. Assumes nothing: these are definitions.
use Rattle.std.specs.Prelude.{ℕ, ◌+◌, ◌*◌, ◌≤◌, cond, List, [], ◌∷◌, ◌++◌, length}
use Rattle.spec.specs.Values.{Primitive, bool, int, string, entity_uid, Value, prim, set, record_of, Values, nil, cons, Attrs, empty, attr, code_text, code_uid, Entity, Request}
use Rattle.spec.specs.Exprs.{UnaryOp, not, neg, is_empty, like, is, Expr, lit, var, ite, and, or, unary_app, binary_app, get_attr, has_attr, set, record_of, Exprs, nil, cons, ExprAttrs, empty, attr}
use Rattle.spec.specs.Policies.{Scope, any, eq, mem, is, is_mem, ActionScope, in_scope, action_in_any, Condition, Policy}
use Rattle.spec.specs.Types.{CedarType, bool, int, string, entity, set, record_of, RecordType, empty, attr, EntitySchemaEntry, ActionSchemaEntry, Schema}
use Rattle.spec.specs.Calls.{Store, sum_of, size_policy, size_entity, size_schema, size_request, size_store, most_size}
use Rattle.spec.specs.Bytes.{var_number, binary_number, bool_type_number, effect_number, kind_number}

-- n things, one after the other, behind their number
abbrev pub rows_of : {A : Type 0} → (A → List ℕ) → List A → List ℕ
rows_of f [] = []
rows_of f (x ∷ xs) = f x ++ rows_of f xs

abbrev pub counted : {A : Type 0} → (A → List ℕ) → List A → List ℕ
counted f xs = length xs ∷ rows_of f xs

-- a tree of several forms: its form, how long its row is, and what it is made of
abbrev pub headed : ℕ → List ℕ → List ℕ
headed g body = g ∷ ((2 + length body) ∷ body)

-- ---- expressions: from left to right, each behind its form and length
abbrev pub row_primitive : Primitive → List ℕ
row_primitive (bool b) = headed 0 (cond b 1 0 ∷ [])
row_primitive (int n) = headed 1 (n ∷ [])
row_primitive (string t) = headed 2 (code_text t)
row_primitive (entity_uid u) = headed 3 (code_uid u)

abbrev pub row_unary : UnaryOp → List ℕ → List ℕ
row_unary not x = headed 8 x
row_unary neg x = headed 9 x
row_unary is_empty x = headed 10 x
row_unary (like p) x = headed 11 (code_text p ++ x)
row_unary (is t) x = headed 12 (code_text t ++ x)

abbrev pub count_exprs : Exprs → ℕ
count_exprs nil = 0
count_exprs (cons x xs) = 1 + count_exprs xs

abbrev pub count_attrs : ExprAttrs → ℕ
count_attrs empty = 0
count_attrs (attr a x xs) = 1 + count_attrs xs

abbrev mutual
  pub row_expr : Expr → List ℕ
  row_expr (lit p) = row_primitive p
  row_expr (var v) = headed 4 (var_number v ∷ [])
  row_expr (ite x y z) = headed 5 (row_expr x ++ (row_expr y ++ row_expr z))
  row_expr (and x y) = headed 6 (row_expr x ++ row_expr y)
  row_expr (or x y) = headed 7 (row_expr x ++ row_expr y)
  row_expr (unary_app o x) = row_unary o (row_expr x)
  row_expr (binary_app o x y) = headed 13 (binary_number o ∷ (row_expr x ++ row_expr y))
  row_expr (get_attr x a) = headed 14 (code_text a ++ row_expr x)
  row_expr (has_attr x a) = headed 15 (code_text a ++ row_expr x)
  row_expr (set xs) = headed 16 (count_exprs xs ∷ row_exprs xs)
  row_expr (record_of xs) = headed 17 (count_attrs xs ∷ row_expr_attrs xs)

  pub row_exprs : Exprs → List ℕ
  row_exprs nil = []
  row_exprs (cons x xs) = row_expr x ++ row_exprs xs

  pub row_expr_attrs : ExprAttrs → List ℕ
  row_expr_attrs empty = []
  row_expr_attrs (attr a x xs) = code_text a ++ (row_expr x ++ row_expr_attrs xs)

-- ---- types
abbrev pub count_types : RecordType → ℕ
count_types empty = 0
count_types (attr a r t ts) = 1 + count_types ts

abbrev mutual
  pub row_type : CedarType → List ℕ
  row_type (bool b) = headed 0 (bool_type_number b ∷ [])
  row_type int = headed 1 []
  row_type string = headed 2 []
  row_type (entity n) = headed 3 (code_text n)
  row_type (set t) = headed 4 (row_type t)
  row_type (record_of ts) = headed 5 (count_types ts ∷ row_types ts)

  pub row_types : RecordType → List ℕ
  row_types empty = []
  row_types (attr a r t ts) = cond r 1 0 ∷ (code_text a ++ (row_type t ++ row_types ts))

abbrev pub row_record_type : RecordType → List ℕ
row_record_type ts = count_types ts ∷ row_types ts

-- ---- policies
abbrev pub row_scope : Scope → List ℕ
row_scope any = headed 0 []
row_scope (eq u) = headed 1 (code_uid u)
row_scope (mem u) = headed 2 (code_uid u)
row_scope (is t) = headed 3 (code_text t)
row_scope (is_mem t u) = headed 4 (code_text t ++ code_uid u)

abbrev pub row_action_scope : ActionScope → List ℕ
row_action_scope (in_scope s) = row_scope s
row_action_scope (action_in_any us) = headed 5 (counted code_uid us)

abbrev pub row_condition : Condition → List ℕ
row_condition c = kind_number c.kind ∷ row_expr c.body

abbrev pub row_policy : Policy → List ℕ
row_policy p =
    code_text p.id
    ++ (effect_number p.effect
    ∷ (row_scope p.principal_scope ++ (row_action_scope p.action_scope ++ (row_scope p.resource_scope ++ counted row_condition p.conditions))))

-- ---- values: a set is its length, the number of its elements, a tag and a payload for each, and then what lies behind the payloads;
-- a record has for each attribute where its name lies, a tag and a payload. What does not stand in the payload itself lies at an offset from the node.
abbrev pub value_tag : Value → ℕ
value_tag (prim (bool b)) = 0
value_tag (prim (int n)) = 1
value_tag (prim (string t)) = 2
value_tag (prim (entity_uid u)) = 3
value_tag (set vs) = 4
value_tag (record_of r) = 5

abbrev pub payload : Value → ℕ → ℕ
payload (prim (bool b)) o = cond b 1 0
payload (prim (int n)) o = n
payload (prim (string t)) o = o
payload (prim (entity_uid u)) o = o
payload (set vs) o = o
payload (record_of r) o = o

abbrev pub count_values : Values → ℕ
count_values nil = 0
count_values (cons v vs) = 1 + count_values vs

abbrev pub count_fields : Attrs → ℕ
count_fields empty = 0
count_fields (attr a v r) = 1 + count_fields r

abbrev pub lengthed : ℕ → List ℕ → List ℕ → List ℕ
lengthed n entries behind = (2 + (length entries + length behind)) ∷ (n ∷ (entries ++ behind))

abbrev mutual
  -- what lies behind a payload
  pub behind_of : Value → List ℕ
  behind_of (prim (bool b)) = []
  behind_of (prim (int n)) = []
  behind_of (prim (string t)) = code_text t
  behind_of (prim (entity_uid u)) = code_uid u
  behind_of (set vs) = lengthed (count_values vs) (entries (2 + 2 * count_values vs) vs) (behind_all vs)
  behind_of (record_of r) = lengthed (count_fields r) (attr_entries (2 + 3 * count_fields r) r) (behind_attrs r)

  pub entries : ℕ → Values → List ℕ
  entries o nil = []
  entries o (cons v vs) = value_tag v ∷ (payload v o ∷ entries (o + length (behind_of v)) vs)

  pub behind_all : Values → List ℕ
  behind_all nil = []
  behind_all (cons v vs) = behind_of v ++ behind_all vs

  pub attr_entries : ℕ → Attrs → List ℕ
  attr_entries o empty = []
  attr_entries o (attr a v r) =
      o ∷ (value_tag v ∷ (payload v (o + length (code_text a)) ∷ attr_entries (o + length (code_text a) + length (behind_of v)) r))

  pub behind_attrs : Attrs → List ℕ
  behind_attrs empty = []
  behind_attrs (attr a v r) = code_text a ++ (behind_of v ++ behind_attrs r)

abbrev pub row_attrs : Attrs → List ℕ
row_attrs r = behind_of (record_of r)

-- ---- entities, schemas, requests
abbrev pub row_entity : Entity → List ℕ
row_entity e = code_uid e.uid ++ (row_attrs e.attrs ++ (row_attrs e.tags ++ counted code_uid e.ancestors))

abbrev pub row_entry : EntitySchemaEntry → List ℕ
row_entry d = code_text d.name ++ (counted code_text d.ancestors ++ (row_record_type d.attrs ++ counted row_type d.tags))

abbrev pub row_action : ActionSchemaEntry → List ℕ
row_action a =
    code_uid a.uid ++ (counted code_text a.principals ++ (counted code_text a.resources ++ (counted code_uid a.ancestors ++ row_record_type a.context)))

abbrev pub row_request : Request → List ℕ
row_request q = code_uid q.principal ++ (code_uid q.action ++ (code_uid q.resource ++ row_attrs q.context))

abbrev pub row_schema : Schema → List ℕ
row_schema s = counted row_entry s.ets ++ counted row_action s.acts

-- ---- rows are at most four numbers for each unit of size, and those of policies and entities leave one more free: so a store's rows and one number for
-- each entity fit into half of eight numbers for each unit of the capacity and a few more
abbrev pub RowsAreBounded : Type 0
RowsAreBounded =
    ((p : Policy) → length (row_policy p) + 1 ≤ 4 * size_policy p)
    × ((e : Entity) → length (row_entity e) + 1 ≤ 4 * size_entity e)
    × ((s : Schema) → length (row_schema s) ≤ 4 * size_schema s + 2)
    × ((q : Request) → length (row_request q) ≤ 4 * size_request q)

-- a store in memory: the rows of its schema, of its policies, each behind its length, and of its entities, each with a number in the table of their places
abbrev pub numbers_of : Store → ℕ
numbers_of s =
    length (row_schema s.schema) + (sum_of (λ p. length (row_policy p) + 1) s.policies + sum_of (λ e. length (row_entity e) + 1) s.entities)

-- so a store that is within its capacity takes four of eight numbers for each unit of it, and what a call carries that is at most 65,536 in size, a policy
-- or a request, a quarter of the 2^20 numbers for a call; a schema or an entity is written where it stays
abbrev pub StoreFitsMemory : Type 0
StoreFitsMemory =
    ((s : Store) (capacity : ℕ) → size_store s ≤ capacity → numbers_of s ≤ 4 * capacity + 2)
    × ((p : Policy) → size_policy p ≤ most_size → length (row_policy p) ≤ 262144)
    × ((q : Request) → size_request q ≤ most_size → length (row_request q) ≤ 262144)
