-- What the operators that need entities answer: as the definitions say, of these entities, wherever the operands stand and whatever they stand for.
use Rattle.std.specs.Prelude.{◌≡◌, ℕ, Bool, false, ◌||◌, List, [], Some, None, Ok, Err, Option, Result}
use Rattle.std.proofs.Math.Option as o
use Rattle.spec.specs.Basics.{Except, ok, error, ◌>>=◌, or_error, is_some, any, Text, lookup}
use Rattle.spec.specs.Values as s
use Rattle.spec.specs.Values.{EntityUID, fields, same_uid, find_entity}
use Rattle.spec.specs.Exprs.{BinaryOp}
use Rattle.spec.specs.Evaluate.{Error, entity_does_not_exist, attr_does_not_exist, tag_does_not_exist, type_error, arith_bounds_error, of_bool, as_string, as_entity_uid, as_entity_uids, apply2, attrs_of, entity_attrs}
use Rattle.values.specs.Held.{uid_at, Stands, Found}
use Rattle.values.specs.declared.nodes.Value.{Value}
use Rattle.operators.specs.Code.{error_of, Says}
use Rattle.operators.specs.declared.errors.EvalError.{EvalError}
use Rattle.entities.specs.Rows.{ancestors_at, EntityIn}

abbrev pub AnswersOf2 : ℕ → List ℕ → s.Entities → BinaryOp → Value → Value → Result Value EvalError → Type 0
AnswersOf2 h m es o v w r = (a b : s.Value) → Stands h m v a → Stands h m w b → Says h m r (apply2 o a b es)

-- the same of what is asked of one value and the name of an attribute
abbrev pub AnswersOfAttr : (s.Value → Text → s.Entities → Except Error s.Value) → ℕ → List ℕ → s.Entities → Value → Text → Result Value EvalError → Type 0
AnswersOfAttr f h m es v t r = (a : s.Value) → Stands h m v a → Says h m r (f a t es)

-- ---- what there is under a name, and the same for both operators that ask for it
abbrev pub attr_in : s.Value → Text → s.Entities → Except Error (o.Option s.Value)
attr_in v a es = do
  r ← attrs_of v (entity_attrs es)
  ok (lookup a (fields r))

abbrev pub tag_in : s.Value → s.Value → s.Entities → Except Error (o.Option s.Value)
tag_in v w es = do
  u ← as_entity_uid v
  t ← as_string w
  e ← or_error (find_entity u es) entity_does_not_exist
  ok (lookup t (fields e.tags))

-- whether there is something: an entity that is not there has nothing
abbrev pub had : Except Error (o.Option s.Value) → Except Error s.Value
had (ok x) = ok (of_bool (is_some x))
had (error entity_does_not_exist) = ok (of_bool false)
had (error attr_does_not_exist) = error attr_does_not_exist
had (error tag_does_not_exist) = error tag_does_not_exist
had (error type_error) = error type_error
had (error arith_bounds_error) = error arith_bounds_error

-- what was found, or nothing, or an error
abbrev pub Seeks : ℕ → List ℕ → Result (Option Value) EvalError → Except Error (o.Option s.Value) → Type 0
Seeks h m (Ok r) x = (y : o.Option s.Value) × (x ≡ ok y) × Found h m r y
Seeks h m (Err e) x = x ≡ error (error_of e)

-- ---- in: an entity whose row was looked up, and there may be none
abbrev pub RowIn : List ℕ → Option ℕ → Type 0
RowIn m (Some p) = EntityIn m p
RowIn m None = Unit {0}

abbrev pub ancestors_in : List ℕ → Option ℕ → List EntityUID
ancestors_in m (Some p) = ancestors_at m p
ancestors_in m None = []

-- whether the entity with the name at u and with this row is in v
abbrev pub in_row : List ℕ → ℕ → Option ℕ → EntityUID → Bool
in_row m u row v = same_uid (uid_at m u) v || any (same_uid v) (ancestors_in m row)

-- whether it is in one of these values, all of which have to be entities
abbrev pub in_values : List ℕ → ℕ → Option ℕ → List s.Value → Except Error s.Value
in_values m u row vs = as_entity_uids vs >>= (λ us. ok (of_bool (any (in_row m u row) us)))

-- a truth value, or an error
abbrev pub Tells : Result Bool EvalError → Except Error s.Value → Type 0
Tells (Ok b) x = x ≡ ok (of_bool b)
Tells (Err e) x = x ≡ error (error_of e)
