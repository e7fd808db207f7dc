-- The type of an expression by the schema, and what it makes known to be there. Assumes nothing: these are definitions.
use Rattle.std.specs.Prelude.{Bool, true, false, cond, ◌&&◌, ◌||◌, List, [], ◌∷◌, ◌++◌, ℕ}
use Rattle.std.proofs.Math.Option.{Option, some, none}
use Rattle.spec.specs.Basics.{Except, ok, error, ◌>>=◌, or_error, with_error, is_some, any, is_yes, Text, same, Text-discrete, insert_all, lookup, name}
use Rattle.spec.specs.Values.{EntityUID, Primitive, bool, int, string, entity_uid, same_primitive, same_uid}
use Rattle.spec.specs.Exprs.{Var, principal, action, resource, context, UnaryOp, not, neg, is_empty, like, is, BinaryOp, eq, mem, has_tag, get_tag, less, less_eq, add, sub, mul, contains, contains_all, contains_any, Expr, lit, var, ite, and, or, unary_app, binary_app, get_attr, has_attr, set, record_of, Exprs, nil, cons, ExprAttrs, empty, attr, expr-discrete}
use Rattle.spec.specs.Types.{BoolType, any_bool, is_true, is_false, CedarType, bool, int, string, entity, set, record_of, QualifiedType, attributes, to_record_type, lub, EntitySchemaEntry, tag_type, ActionSchemaEntry, Schema, find_entity_type, find_action, is_action_type, known, RequestType, TypeEnv}

pub data TypeError : Type 0 where
  lub_err : TypeError
  unexpected_type : TypeError
  attr_not_found : TypeError
  tag_not_found : TypeError
  unknown_entity : TypeError
  empty_set_err : TypeError

abbrev pub type_error_number : TypeError → ℕ
type_error_number lub_err = 1
type_error_number unexpected_type = 2
type_error_number attr_not_found = 3
type_error_number tag_not_found = 4
type_error_number unknown_entity = 5
type_error_number empty_set_err = 6

-- ---- capabilities: what is known to be there, an attribute of an expression or a tag of it
pub data Capability : Type 0 where
  attr_of : Expr → Text → Capability
  tag_of : Expr → Expr → Capability
  deriving Discrete as Capability-discrete

abbrev pub Capabilities : Type 0
Capabilities = List Capability

abbrev pub same_capability : Capability → Capability → Bool
same_capability k l = is_yes (Capability-discrete expr-discrete Text-discrete k l)

abbrev pub has : Capability → Capabilities → Bool
has k c = any (same_capability k) c

-- what both know
abbrev pub meet : Capabilities → Capabilities → Capabilities
meet [] d = []
meet (k ∷ c) d = cond (has k d) (k ∷ meet c d) (meet c d)

-- a type, and what is known to be there if the expression comes to true
abbrev pub Typed : Type 0
Typed = CedarType × Capabilities

abbrev pub of_bool : BoolType → Capabilities → Except TypeError Typed
of_bool b c = ok (bool b, c)

abbrev pub just : CedarType → Except TypeError Typed
just t = ok (t, [])

abbrev pub literal_type : Bool → BoolType
literal_type true = is_true
literal_type false = is_false

-- ---- a type of the form that is asked for
abbrev pub as_bool : CedarType → Except TypeError BoolType
as_bool (bool b) = ok b
as_bool int = error unexpected_type
as_bool string = error unexpected_type
as_bool (entity n) = error unexpected_type
as_bool (set t) = error unexpected_type
as_bool (record_of ts) = error unexpected_type

abbrev pub as_int : CedarType → Except TypeError (Unit {0})
as_int (bool b) = error unexpected_type
as_int int = ok tt
as_int string = error unexpected_type
as_int (entity n) = error unexpected_type
as_int (set t) = error unexpected_type
as_int (record_of ts) = error unexpected_type

abbrev pub as_string : CedarType → Except TypeError (Unit {0})
as_string (bool b) = error unexpected_type
as_string int = error unexpected_type
as_string string = ok tt
as_string (entity n) = error unexpected_type
as_string (set t) = error unexpected_type
as_string (record_of ts) = error unexpected_type

abbrev pub as_entity : CedarType → Except TypeError Text
as_entity (bool b) = error unexpected_type
as_entity int = error unexpected_type
as_entity string = error unexpected_type
as_entity (entity n) = ok n
as_entity (set t) = error unexpected_type
as_entity (record_of ts) = error unexpected_type

abbrev pub as_set : CedarType → Except TypeError CedarType
as_set (bool b) = error unexpected_type
as_set int = error unexpected_type
as_set string = error unexpected_type
as_set (entity n) = error unexpected_type
as_set (set t) = ok t
as_set (record_of ts) = error unexpected_type

-- ---- if, and, or: by the type of the first, with what it makes known
abbrev pub type_of_if : BoolType → Capabilities → Except TypeError Typed → Except TypeError Typed → Except TypeError Typed
type_of_if is_true c y z = do
  (t, d) ← y
  ok (t, c ++ d)
type_of_if is_false c y z = z
type_of_if any_bool c y z = do
  (t, d) ← y
  (u, e) ← z
  w ← or_error (lub t u) lub_err
  ok (w, meet (c ++ d) e)

abbrev pub and_type : BoolType → BoolType → Capabilities → Except TypeError Typed
and_type a is_false c = of_bool is_false []
and_type a is_true c = of_bool a c
and_type a any_bool c = of_bool any_bool c

abbrev pub type_of_and : BoolType → Capabilities → Except TypeError Typed → Except TypeError Typed
type_of_and is_false c y = of_bool is_false []
type_of_and is_true c y = do
  (t, d) ← y
  b ← as_bool t
  and_type is_true b (c ++ d)
type_of_and any_bool c y = do
  (t, d) ← y
  b ← as_bool t
  and_type any_bool b (c ++ d)

abbrev pub or_type : BoolType → Capabilities → Capabilities → Except TypeError Typed
or_type is_true c d = of_bool is_true []
or_type is_false c d = of_bool any_bool c
or_type any_bool c d = of_bool any_bool (meet c d)

abbrev pub type_of_or : BoolType → Capabilities → Except TypeError Typed → Except TypeError Typed
type_of_or is_true c y = of_bool is_true []
type_of_or is_false c y = do
  (t, d) ← y
  b ← as_bool t
  of_bool b d
type_of_or any_bool c y = do
  (t, d) ← y
  b ← as_bool t
  or_type b c d

-- ---- operators of one
abbrev pub not_type : BoolType → BoolType
not_type any_bool = any_bool
not_type is_true = is_false
not_type is_false = is_true

abbrev pub type_of_unary : UnaryOp → CedarType → Except TypeError Typed
type_of_unary not t = do
  b ← as_bool t
  just (bool (not_type b))
type_of_unary neg t = do
  _ ← as_int t
  just int
type_of_unary is_empty t = do
  _ ← as_set t
  just (bool any_bool)
type_of_unary (like p) t = do
  _ ← as_string t
  just (bool any_bool)
type_of_unary (is n) t = do
  m ← as_entity t
  just (bool (literal_type (same n m)))

-- ---- what is written out
abbrev pub as_lit : Expr → Option Primitive
as_lit (lit p) = some p
as_lit (var v) = none
as_lit (ite x y z) = none
as_lit (and x y) = none
as_lit (or x y) = none
as_lit (unary_app o x) = none
as_lit (binary_app o x y) = none
as_lit (get_attr x a) = none
as_lit (has_attr x a) = none
as_lit (set xs) = none
as_lit (record_of r) = none

abbrev pub prim_uid : Option Primitive → Option EntityUID
prim_uid (some (bool b)) = none
prim_uid (some (int n)) = none
prim_uid (some (string t)) = none
prim_uid (some (entity_uid u)) = some u
prim_uid none = none

-- an entity that is written out
abbrev pub lit_uid : Expr → Option EntityUID
lit_uid x = prim_uid (as_lit x)

abbrev pub cons_uid : Option EntityUID → Option (List EntityUID) → Option (List EntityUID)
cons_uid (some u) (some us) = some (u ∷ us)
cons_uid (some u) none = none
cons_uid none us = none

abbrev pub all_lit_uids : Exprs → Option (List EntityUID)
all_lit_uids nil = some []
all_lit_uids (cons x xs) = cons_uid (lit_uid x) (all_lit_uids xs)

-- the entities of a set that is written out, if it has nothing else
abbrev pub lit_uids : Expr → Option (List EntityUID)
lit_uids (lit p) = none
lit_uids (var v) = none
lit_uids (ite x y z) = none
lit_uids (and x y) = none
lit_uids (or x y) = none
lit_uids (unary_app o x) = none
lit_uids (binary_app o x y) = none
lit_uids (get_attr x a) = none
lit_uids (has_attr x a) = none
lit_uids (set xs) = all_lit_uids xs
lit_uids (record_of r) = none

-- ---- equality: two that are written out are compared; two entities of different types are never equal
abbrev pub never_equal : CedarType → CedarType → Except TypeError Typed
never_equal t u = do
  _ ← with_error (as_entity t) lub_err
  _ ← with_error (as_entity u) lub_err
  just (bool is_false)

abbrev pub eq_by_lub : Option CedarType → CedarType → CedarType → Except TypeError Typed
eq_by_lub (some w) t u = just (bool any_bool)
eq_by_lub none t u = never_equal t u

abbrev pub type_of_eq : Option Primitive → Option Primitive → CedarType → CedarType → Except TypeError Typed
type_of_eq (some p) (some q) t u = just (bool (literal_type (same_primitive p q)))
type_of_eq (some p) none t u = eq_by_lub (lub t u) t u
type_of_eq none q t u = eq_by_lub (lub t u) t u

-- ---- in: whether an entity of the first type can be in one of the second
abbrev pub action_descendants : Text → Text → Schema → Bool
action_descendants t u s = any (λ a. same t a.uid.ty && any (λ v. same u v.ty) a.ancestors) s.acts

abbrev pub ancestor_types : Option EntitySchemaEntry → Text → Text → Schema → Bool
ancestor_types (some d) t u s = any (same u) d.ancestors
ancestor_types none t u s = action_descendants t u s

abbrev pub descendant_of : Text → Text → Schema → Bool
descendant_of t u s = same t u || ancestor_types (find_entity_type t s) t u s

-- of actions it is known
abbrev pub action_ancestors : Option ActionSchemaEntry → List EntityUID
action_ancestors (some a) = a.ancestors
action_ancestors none = []

abbrev pub action_in : EntityUID → EntityUID → Schema → Bool
action_in u v s = same_uid u v || any (same_uid v) (action_ancestors (find_action u s))

abbrev pub is_action : Option EntityUID → Schema → Option EntityUID
is_action (some u) s = cond (is_some (find_action u s)) (some u) none
is_action none s = none

abbrev pub in_type : Bool → BoolType
in_type true = any_bool
in_type false = is_false

abbrev pub type_of_in_entity : Option EntityUID → Option EntityUID → Text → Text → Schema → BoolType
type_of_in_entity (some u) (some v) t n s = literal_type (action_in u v s)
type_of_in_entity (some u) none t n s = in_type (descendant_of t n s)
type_of_in_entity none v t n s = in_type (descendant_of t n s)

abbrev pub type_of_in_set : Option EntityUID → Option (List EntityUID) → Text → Text → Schema → BoolType
type_of_in_set (some u) (some vs) t n s = literal_type (any (λ v. action_in u v s) vs)
type_of_in_set (some u) none t n s = in_type (descendant_of t n s)
type_of_in_set none vs t n s = in_type (descendant_of t n s)

abbrev pub type_of_in : Expr → Expr → Text → CedarType → Schema → Except TypeError Typed
type_of_in x y t (bool b) s = error unexpected_type
type_of_in x y t int s = error unexpected_type
type_of_in x y t string s = error unexpected_type
type_of_in x y t (entity n) s = just (bool (type_of_in_entity (is_action (lit_uid x) s) (lit_uid y) t n s))
type_of_in x y t (set u) s = do
  n ← as_entity u
  just (bool (type_of_in_set (is_action (lit_uid x) s) (lit_uids y) t n s))
type_of_in x y t (record_of ts) s = error unexpected_type

-- ---- tags: what a tag has may be used only where it is known to be there
abbrev pub has_tag_type : Option CedarType → Capability → Capabilities → Except TypeError Typed
has_tag_type (some t) k c = cond (has k c) (just (bool is_true)) (of_bool any_bool (k ∷ []))
has_tag_type none k c = just (bool is_false)

abbrev pub type_of_has_tag : Option EntitySchemaEntry → Text → Schema → Capability → Capabilities → Except TypeError Typed
type_of_has_tag (some d) n s k c = has_tag_type (tag_type d) k c
type_of_has_tag none n s k c = cond (is_action_type n s) (just (bool is_false)) (error unknown_entity)

abbrev pub type_of_get_tag : Option EntitySchemaEntry → Capability → Capabilities → Except TypeError Typed
type_of_get_tag d k c = do
  e ← or_error d unknown_entity
  t ← or_error (tag_type e) tag_not_found
  cond (has k c) (just t) (error tag_not_found)

-- ---- operators of two
abbrev pub of_ints : CedarType → CedarType → CedarType → Except TypeError Typed
of_ints t u w = do
  _ ← as_int t
  _ ← as_int u
  just w

-- two types that go together
abbrev pub compatible : CedarType → CedarType → Except TypeError Typed
compatible t u = do
  _ ← or_error (lub t u) lub_err
  just (bool any_bool)

abbrev pub of_sets : CedarType → CedarType → Except TypeError Typed
of_sets t u = do
  v ← as_set t
  w ← as_set u
  compatible v w

abbrev pub type_of_binary : BinaryOp → CedarType → CedarType → Expr → Expr → Capabilities → Schema → Except TypeError Typed
type_of_binary eq t u x y c s = type_of_eq (as_lit x) (as_lit y) t u
type_of_binary mem t u x y c s = do
  n ← as_entity t
  type_of_in x y n u s
type_of_binary has_tag t u x y c s = do
  n ← as_entity t
  _ ← as_string u
  type_of_has_tag (find_entity_type n s) n s (tag_of x y) c
type_of_binary get_tag t u x y c s = do
  n ← as_entity t
  _ ← as_string u
  type_of_get_tag (find_entity_type n s) (tag_of x y) c
type_of_binary less t u x y c s = of_ints t u (bool any_bool)
type_of_binary less_eq t u x y c s = of_ints t u (bool any_bool)
type_of_binary add t u x y c s = of_ints t u int
type_of_binary sub t u x y c s = of_ints t u int
type_of_binary mul t u x y c s = of_ints t u int
type_of_binary contains t u x y c s = do
  v ← as_set t
  compatible u v
type_of_binary contains_all t u x y c s = of_sets t u
type_of_binary contains_any t u x y c s = of_sets t u

-- ---- attributes: of a record those that are required are there; an entity may itself be missing, so of it none surely is
abbrev pub has_attr_type : Option QualifiedType → Bool → Capability → Capabilities → Except TypeError Typed
has_attr_type (some a) sure k c = cond (has k c || (a.required && sure)) (just (bool is_true)) (of_bool any_bool (k ∷ []))
has_attr_type none sure k c = just (bool is_false)

abbrev pub has_entity_attr : Option EntitySchemaEntry → Text → Text → Schema → Capability → Capabilities → Except TypeError Typed
has_entity_attr (some d) n a s k c = has_attr_type (lookup a (attributes d.attrs)) false k c
has_entity_attr none n a s k c = cond (is_action_type n s) (just (bool is_false)) (error unknown_entity)

abbrev pub type_of_has_attr : CedarType → Text → Schema → Capability → Capabilities → Except TypeError Typed
type_of_has_attr (bool b) a s k c = error unexpected_type
type_of_has_attr int a s k c = error unexpected_type
type_of_has_attr string a s k c = error unexpected_type
type_of_has_attr (entity n) a s k c = has_entity_attr (find_entity_type n s) n a s k c
type_of_has_attr (set t) a s k c = error unexpected_type
type_of_has_attr (record_of ts) a s k c = has_attr_type (lookup a (attributes ts)) true k c

abbrev pub get_attr_type : Option QualifiedType → Capability → Capabilities → Except TypeError Typed
get_attr_type q k c = do
  a ← or_error q attr_not_found
  cond (a.required || has k c) (just a.type) (error attr_not_found)

abbrev pub get_entity_attr : Option EntitySchemaEntry → Text → Capability → Capabilities → Except TypeError Typed
get_entity_attr o a k c = do
  d ← or_error o unknown_entity
  get_attr_type (lookup a (attributes d.attrs)) k c

abbrev pub type_of_get_attr : CedarType → Text → Schema → Capability → Capabilities → Except TypeError Typed
type_of_get_attr (bool b) a s k c = error unexpected_type
type_of_get_attr int a s k c = error unexpected_type
type_of_get_attr string a s k c = error unexpected_type
type_of_get_attr (entity n) a s k c = get_entity_attr (find_entity_type n s) a k c
type_of_get_attr (set t) a s k c = error unexpected_type
type_of_get_attr (record_of ts) a s k c = get_attr_type (lookup a (attributes ts)) k c

-- ---- sets: the least type above all
abbrev pub lub_all : CedarType → List CedarType → Except TypeError CedarType
lub_all t [] = ok t
lub_all t (u ∷ us) = do
  w ← lub_all u us
  or_error (lub t w) lub_err

abbrev pub type_of_set : List CedarType → Except TypeError Typed
type_of_set [] = error empty_set_err
type_of_set (t ∷ ts) = do
  w ← lub_all t ts
  just (set w)

-- ---- the rules
abbrev pub var_type : Var → RequestType → CedarType
var_type principal r = entity r.principal
var_type action r = entity r.action.ty
var_type resource r = entity r.resource
var_type context r = record_of r.context

abbrev pub lit_type : Primitive → Schema → Except TypeError Typed
lit_type (bool b) s = just (bool (literal_type b))
lit_type (int n) s = just int
lit_type (string t) s = just string
lit_type (entity_uid u) s = cond (known s u) (just (entity u.ty)) (error unknown_entity)

abbrev pub required_attr : Text → CedarType → Text × QualifiedType
required_attr a t = (a, record { required = true; type = t })

abbrev mutual
  pub type_of : Expr → Capabilities → TypeEnv → Except TypeError Typed
  type_of (lit p) c Γ = lit_type p Γ.schema
  type_of (var v) c Γ = just (var_type v Γ.reqty)
  type_of (ite x y z) c Γ = do
    (t, d) ← type_of x c Γ
    b ← as_bool t
    type_of_if b d (type_of y (c ++ d) Γ) (type_of z c Γ)
  type_of (and x y) c Γ = do
    (t, d) ← type_of x c Γ
    b ← as_bool t
    type_of_and b d (type_of y (c ++ d) Γ)
  type_of (or x y) c Γ = do
    (t, d) ← type_of x c Γ
    b ← as_bool t
    type_of_or b d (type_of y c Γ)
  type_of (unary_app o x) c Γ = do
    (t, _) ← type_of x c Γ
    type_of_unary o t
  type_of (binary_app o x y) c Γ = do
    (t, _) ← type_of x c Γ
    (u, _) ← type_of y c Γ
    type_of_binary o t u x y c Γ.schema
  type_of (get_attr x a) c Γ = do
    (t, _) ← type_of x c Γ
    type_of_get_attr t a Γ.schema (attr_of x a) c
  type_of (has_attr x a) c Γ = do
    (t, _) ← type_of x c Γ
    type_of_has_attr t a Γ.schema (attr_of x a) c
  type_of (set xs) c Γ = do
    ts ← type_of_all xs c Γ
    type_of_set ts
  type_of (record_of xs) c Γ = do
    ts ← type_of_attrs xs c Γ
    just (record_of (to_record_type (insert_all name ts)))

  pub type_of_all : Exprs → Capabilities → TypeEnv → Except TypeError (List CedarType)
  type_of_all nil c Γ = ok []
  type_of_all (cons x xs) c Γ = do
    (t, _) ← type_of x c Γ
    ts ← type_of_all xs c Γ
    ok (t ∷ ts)

  pub type_of_attrs : ExprAttrs → Capabilities → TypeEnv → Except TypeError (List (Text × QualifiedType))
  type_of_attrs empty c Γ = ok []
  type_of_attrs (attr a x xs) c Γ = do
    (t, _) ← type_of x c Γ
    ts ← type_of_attrs xs c Γ
    ok (required_attr a t ∷ ts)
