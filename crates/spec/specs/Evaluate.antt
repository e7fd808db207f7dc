-- What an expression comes to: a value, or the first of five errors. Assumes nothing: these are definitions.
use Rattle.std.specs.Prelude.{Bool, true, false, cond, not as flip, ◌&&◌, ◌||◌, List, [], ◌∷◌, ℕ, ◌+◌, ◌*◌, ◌-◌, ltb, leb, eqb}
use Rattle.spec.specs.Basics.{Except, ok, error, ◌>>=◌, or_error, is_some, any, all, is_empty as is_nil, Text, same, insert_all, lookup, name}
use Rattle.spec.specs.Values.{EntityUID, bool, int, string, entity_uid, Value, prim, set, record_of, Attrs, elements, to_values, fields, to_attrs, same_value, code, same_uid, Entities, find_entity, attrs_or_empty, tags_or_empty, ancestors_or_empty, Request}
use Rattle.spec.specs.Exprs.{Var, principal, action, resource, context, star, UnaryOp, not, neg, is_empty, like, is, BinaryOp, eq, mem, has_tag, get_tag, less, less_eq, add, sub, mul, contains, contains_all, contains_any, Expr, lit, var, ite, and, or, unary_app, binary_app, get_attr, has_attr, set, record_of, Exprs, nil, cons, ExprAttrs, empty, attr}

pub data Error : Type 0 where
  entity_does_not_exist : Error
  attr_does_not_exist : Error
  tag_does_not_exist : Error
  type_error : Error
  arith_bounds_error : Error

abbrev pub error_number : Error → ℕ
error_number entity_does_not_exist = 1
error_number attr_does_not_exist = 2
error_number tag_does_not_exist = 3
error_number type_error = 4
error_number arith_bounds_error = 5

abbrev pub of_bool : Bool → Value
of_bool b = prim (bool b)

abbrev pub of_int : ℕ → Value
of_int n = prim (int n)

-- ---- a value of the type that is asked for
abbrev pub as_bool : Value → Except Error Bool
as_bool (prim (bool b)) = ok b
as_bool (prim (int n)) = error type_error
as_bool (prim (string t)) = error type_error
as_bool (prim (entity_uid u)) = error type_error
as_bool (set vs) = error type_error
as_bool (record_of r) = error type_error

abbrev pub as_int : Value → Except Error ℕ
as_int (prim (bool b)) = error type_error
as_int (prim (int n)) = ok n
as_int (prim (string t)) = error type_error
as_int (prim (entity_uid u)) = error type_error
as_int (set vs) = error type_error
as_int (record_of r) = error type_error

abbrev pub as_string : Value → Except Error Text
as_string (prim (bool b)) = error type_error
as_string (prim (int n)) = error type_error
as_string (prim (string t)) = ok t
as_string (prim (entity_uid u)) = error type_error
as_string (set vs) = error type_error
as_string (record_of r) = error type_error

abbrev pub as_entity_uid : Value → Except Error EntityUID
as_entity_uid (prim (bool b)) = error type_error
as_entity_uid (prim (int n)) = error type_error
as_entity_uid (prim (string t)) = error type_error
as_entity_uid (prim (entity_uid u)) = ok u
as_entity_uid (set vs) = error type_error
as_entity_uid (record_of r) = error type_error

abbrev pub as_set : Value → Except Error (List Value)
as_set (prim (bool b)) = error type_error
as_set (prim (int n)) = error type_error
as_set (prim (string t)) = error type_error
as_set (prim (entity_uid u)) = error type_error
as_set (set vs) = ok (elements vs)
as_set (record_of r) = error type_error

abbrev pub as_entity_uids : List Value → Except Error (List EntityUID)
as_entity_uids [] = ok []
as_entity_uids (v ∷ vs) = do
  u ← as_entity_uid v
  us ← as_entity_uids vs
  ok (u ∷ us)

-- ---- integers: i stands for i - 2^63
abbrev pub half : ℕ
half = 9223372036854775808

abbrev pub whole : ℕ
whole = 18446744073709551616

-- the integer n - 2^64, if it is one: from -2^63 to 2^63 - 1
abbrev pub bounded : ℕ → Except Error Value
bounded n = cond (leb half n && ltb n (half + whole)) (ok (of_int (n - half))) (error arith_bounds_error)

abbrev pub sum : ℕ → ℕ → Except Error Value
sum i j = bounded (i + j)

abbrev pub difference : ℕ → ℕ → Except Error Value
difference i j = bounded ((i + whole) - j)

abbrev pub is_negative : ℕ → Bool
is_negative i = ltb i half

abbrev pub magnitude : ℕ → ℕ
magnitude i = cond (is_negative i) (half - i) (i - half)

abbrev pub signed : Bool → ℕ → Except Error Value
signed true m = cond (leb m half) (ok (of_int (half - m))) (error arith_bounds_error)
signed false m = cond (ltb m half) (ok (of_int (half + m))) (error arith_bounds_error)

abbrev pub differ : Bool → Bool → Bool
differ true b = flip b
differ false b = b

abbrev pub product : ℕ → ℕ → Except Error Value
product i j = signed (differ (is_negative i) (is_negative j)) (magnitude i * magnitude j)

-- minus the least integer is out of bounds
abbrev pub negation : ℕ → Except Error Value
negation i = cond (eqb i 0) (error arith_bounds_error) (ok (of_int (whole - i)))

-- ---- like: a pattern against a text
abbrev pub any_suffix : (Text → Bool) → Text → Bool
any_suffix f [] = f []
any_suffix f (t ∷ ts) = f (t ∷ ts) || any_suffix f ts

abbrev pub starts_with : ℕ → (Text → Bool) → Text → Bool
starts_with b f [] = false
starts_with b f (t ∷ ts) = eqb b t && f ts

unfoldable pub matches : List ℕ → Text → Bool
matches [] ts = is_nil ts
matches (p ∷ ps) ts = cond (eqb p star) (any_suffix (matches ps) ts) (starts_with p (matches ps) ts)

-- ---- in: an entity is in itself and in its ancestors; one that is not there is in itself alone
abbrev pub in_entity : EntityUID → EntityUID → Entities → Bool
in_entity u v es = same_uid u v || any (same_uid v) (ancestors_or_empty (find_entity u es))

abbrev pub in_set : EntityUID → List Value → Entities → Except Error Value
in_set u vs es = do
  us ← as_entity_uids vs
  ok (of_bool (any (λ v. in_entity u v es) us))

abbrev pub in_value : EntityUID → Value → Entities → Except Error Value
in_value u (prim (bool b)) es = error type_error
in_value u (prim (int n)) es = error type_error
in_value u (prim (string t)) es = error type_error
in_value u (prim (entity_uid v)) es = ok (of_bool (in_entity u v es))
in_value u (set vs) es = in_set u (elements vs) es
in_value u (record_of r) es = error type_error

-- ---- tags: an entity that is not there has none
abbrev pub has_tag_of : EntityUID → Text → Entities → Bool
has_tag_of u t es = is_some (lookup t (fields (tags_or_empty (find_entity u es))))

abbrev pub get_tag_of : EntityUID → Text → Entities → Except Error Value
get_tag_of u t es = do
  e ← or_error (find_entity u es) entity_does_not_exist
  or_error (lookup t (fields e.tags)) tag_does_not_exist

-- ---- sets
abbrev pub is_in : Value → List Value → Bool
is_in v ws = any (same_value v) ws

-- ---- the operators; of two values that are both of a wrong type the first is told, after both have come to something
abbrev pub apply1 : UnaryOp → Value → Except Error Value
apply1 not v = do
  b ← as_bool v
  ok (of_bool (flip b))
apply1 neg v = do
  i ← as_int v
  negation i
apply1 is_empty v = do
  vs ← as_set v
  ok (of_bool (is_nil vs))
apply1 (like p) v = do
  t ← as_string v
  ok (of_bool (matches p t))
apply1 (is ty) v = do
  u ← as_entity_uid v
  ok (of_bool (same ty u.ty))

-- two integers
abbrev pub with_ints : Value → Value → (ℕ → ℕ → Except Error Value) → Except Error Value
with_ints v w f = do
  i ← as_int v
  j ← as_int w
  f i j

-- two sets
abbrev pub with_sets : Value → Value → (List Value → List Value → Bool) → Except Error Value
with_sets v w f = do
  vs ← as_set v
  ws ← as_set w
  ok (of_bool (f vs ws))

abbrev pub apply2 : BinaryOp → Value → Value → Entities → Except Error Value
apply2 eq v w es = ok (of_bool (same_value v w))
apply2 mem v w es = do
  u ← as_entity_uid v
  in_value u w es
apply2 has_tag v w es = do
  u ← as_entity_uid v
  t ← as_string w
  ok (of_bool (has_tag_of u t es))
apply2 get_tag v w es = do
  u ← as_entity_uid v
  t ← as_string w
  get_tag_of u t es
apply2 less v w es = with_ints v w (λ i j. ok (of_bool (ltb i j)))
apply2 less_eq v w es = with_ints v w (λ i j. ok (of_bool (leb i j)))
apply2 add v w es = with_ints v w sum
apply2 sub v w es = with_ints v w difference
apply2 mul v w es = with_ints v w product
apply2 contains v w es = do
  vs ← as_set v
  ok (of_bool (is_in w vs))
apply2 contains_all v w es = with_sets v w (λ vs ws. all (λ x. is_in x vs) ws)
apply2 contains_any v w es = with_sets v w (λ vs ws. any (λ x. is_in x ws) vs)

-- ---- attributes of a record, or of an entity, which is looked up
abbrev pub attrs_of : Value → (EntityUID → Except Error Attrs) → Except Error Attrs
attrs_of (prim (bool b)) look = error type_error
attrs_of (prim (int n)) look = error type_error
attrs_of (prim (string t)) look = error type_error
attrs_of (prim (entity_uid u)) look = look u
attrs_of (set vs) look = error type_error
attrs_of (record_of r) look = ok r

abbrev pub entity_attrs : Entities → EntityUID → Except Error Attrs
entity_attrs es u = do
  e ← or_error (find_entity u es) entity_does_not_exist
  ok e.attrs

abbrev pub get_attr_of : Value → Text → Entities → Except Error Value
get_attr_of v a es = do
  r ← attrs_of v (entity_attrs es)
  or_error (lookup a (fields r)) attr_does_not_exist

-- an entity that is not there has no attributes
abbrev pub has_attr_of : Value → Text → Entities → Except Error Value
has_attr_of v a es = do
  r ← attrs_of v (λ u. ok (attrs_or_empty (find_entity u es)))
  ok (of_bool (is_some (lookup a (fields r))))

-- ---- the evaluator: from left to right, and what need not be looked at is not
abbrev pub var_of : Var → Request → Value
var_of principal q = prim (entity_uid q.principal)
var_of action q = prim (entity_uid q.action)
var_of resource q = prim (entity_uid q.resource)
var_of context q = record_of q.context

abbrev pub just_bool : Except Error Value → Except Error Value
just_bool r = do
  v ← r
  b ← as_bool v
  ok (of_bool b)

abbrev mutual
  pub evaluate : Expr → Request → Entities → Except Error Value
  evaluate (lit p) q es = ok (prim p)
  evaluate (var v) q es = ok (var_of v q)
  evaluate (ite x y z) q es = do
    v ← evaluate x q es
    b ← as_bool v
    cond b (evaluate y q es) (evaluate z q es)
  evaluate (and x y) q es = do
    v ← evaluate x q es
    b ← as_bool v
    cond b (just_bool (evaluate y q es)) (ok (of_bool false))
  evaluate (or x y) q es = do
    v ← evaluate x q es
    b ← as_bool v
    cond b (ok (of_bool true)) (just_bool (evaluate y q es))
  evaluate (unary_app o x) q es = do
    v ← evaluate x q es
    apply1 o v
  evaluate (binary_app o x y) q es = do
    v ← evaluate x q es
    w ← evaluate y q es
    apply2 o v w es
  evaluate (get_attr x a) q es = do
    v ← evaluate x q es
    get_attr_of v a es
  evaluate (has_attr x a) q es = do
    v ← evaluate x q es
    has_attr_of v a es
  evaluate (set xs) q es = do
    vs ← evaluate_all xs q es
    ok (set (to_values (insert_all code vs)))
  evaluate (record_of xs) q es = do
    fs ← evaluate_attrs xs q es
    ok (record_of (to_attrs (insert_all name fs)))

  pub evaluate_all : Exprs → Request → Entities → Except Error (List Value)
  evaluate_all nil q es = ok []
  evaluate_all (cons x xs) q es = do
    v ← evaluate x q es
    vs ← evaluate_all xs q es
    ok (v ∷ vs)

  pub evaluate_attrs : ExprAttrs → Request → Entities → Except Error (List (Text × Value))
  evaluate_attrs empty q es = ok []
  evaluate_attrs (attr a x xs) q es = do
    v ← evaluate x q es
    fs ← evaluate_attrs xs q es
    ok ((a, v) ∷ fs)
