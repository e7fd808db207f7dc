-- What evaluating leaves in the work memory, and what is done to one value.
use Rattle.std.specs.Prelude.{◌≡◌, ℕ, ◌+◌, ◌*◌, ◌≤◌, List, take, Result}
use Rattle.spec.specs.Basics.{Except}
use Rattle.spec.specs.Values as s
use Rattle.spec.specs.Exprs.{not, neg, is_empty, like, is, Expr, unary_app, get_attr, has_attr}
use Rattle.spec.specs.Evaluate.{Error, apply1, get_attr_of, has_attr_of}
use Rattle.values.specs.Held.{text_at, TextIn, Stands}
use Rattle.values.specs.declared.nodes.Value.{Value}
use Rattle.values.specs.declared.nodes.Value.TheVariants.{Entity, Record}
use Rattle.operators.specs.Code.{Says}
use Rattle.operators.specs.declared.errors.EvalError.{EvalError}
use Rattle.exprs.specs.declared.Var.{Var}
use Rattle.exprs.specs.declared.Var.TheVariants.{Principal, Action, Resource, Context}
use Rattle.entities.specs.declared.env.Env.{Env}
use Rattle.evaluator.specs.declared.apply.Unary.{Unary}
use Rattle.evaluator.specs.declared.apply.Unary.TheVariants.{Not, Neg, IsEmpty, Like, Is, GetAttr, HasAttr}

-- the work memory before and after, its tops, and how long the row was that was evaluated: what was made lies above what was there, and is at most twice as
-- much as the row
pub record Moved (w w' : List ℕ) (t t' most : ℕ) : Type 0 where
  pub rises : t ≤ t'
  pub few : t' + 4 ≤ t + 2 * most
  pub keeps : take t w' ≡ take t w

-- ---- what is done to one value
abbrev pub UnaryIn : List ℕ → Unary → Type 0
UnaryIn m Not = Unit {0}
UnaryIn m Neg = Unit {0}
UnaryIn m IsEmpty = Unit {0}
UnaryIn m (Like p) = TextIn m p
UnaryIn m (Is p) = TextIn m p
UnaryIn m (GetAttr p) = TextIn m p
UnaryIn m (HasAttr p) = TextIn m p

abbrev pub unary_expr : List ℕ → Unary → Expr → Expr
unary_expr m Not x = unary_app not x
unary_expr m Neg x = unary_app neg x
unary_expr m IsEmpty x = unary_app is_empty x
unary_expr m (Like p) x = unary_app (like (text_at m p)) x
unary_expr m (Is p) x = unary_app (is (text_at m p)) x
unary_expr m (GetAttr p) x = get_attr x (text_at m p)
unary_expr m (HasAttr p) x = has_attr x (text_at m p)

abbrev pub applied : List ℕ → Unary → s.Value → s.Entities → Except Error s.Value
applied m Not v es = apply1 not v
applied m Neg v es = apply1 neg v
applied m IsEmpty v es = apply1 is_empty v
applied m (Like p) v es = apply1 (like (text_at m p)) v
applied m (Is p) v es = apply1 (is (text_at m p)) v
applied m (GetAttr p) v es = get_attr_of v (text_at m p) es
applied m (HasAttr p) v es = has_attr_of v (text_at m p) es

abbrev pub AnswersOf1 : ℕ → List ℕ → s.Entities → Unary → Value → Result Value EvalError → Type 0
AnswersOf1 h m es o v r = (a : s.Value) → Stands h m v a → Says h m r (applied m o a es)

-- ---- the words
abbrev pub var_value : Env → Var → Value
var_value e Principal = Entity e.request.principal.uid
var_value e Action = Entity e.request.action.uid
var_value e Resource = Entity e.request.resource.uid
var_value e Context = Record e.request.context
