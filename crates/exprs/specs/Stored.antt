-- What the rows of expressions stand for, to a height, and which are good.
use Rattle.std.specs.Prelude.{◌≡◌, ℕ, zero, suc, ◌+◌, ◌≤◌, true, false, List, length}
use Rattle.spec.specs.Values.{bool, int, string, entity_uid}
use Rattle.spec.specs.Exprs as s
use Rattle.spec.specs.Exprs.{lit, var, ite, and, or, not, neg, is_empty, like, is, unary_app, binary_app, get_attr, has_attr, set, record_of, Exprs, nil, cons, ExprAttrs, empty, attr}
use Rattle.spec.specs.Calls.{encodable_expr}
use Rattle.rows.specs.Rows.{row_expr}
use Rattle.values.specs.Held.{raised, text_at, TextIn, behind_text, uid_at, UIDIn}
use Rattle.values.specs.Stored.{LiesAt}
use Rattle.exprs.specs.Heads.{size, behind, head_at}
use Rattle.exprs.specs.declared.Var.{Var}
use Rattle.exprs.specs.declared.Var.TheVariants.{Principal, Action, Resource, Context}
use Rattle.exprs.specs.declared.BinaryOp.{BinaryOp}
use Rattle.exprs.specs.declared.BinaryOp.TheVariants.{Eq, Mem, HasTag, GetTag, Less, LessEq, Add, Sub, Mul, Contains, ContainsAll, ContainsAny}
use Rattle.exprs.specs.declared.Expr.{Expr}
use Rattle.exprs.specs.declared.Expr.TheVariants.{Bool as B, Int, String, Entity, Var as Variable, If, And, Or, Not, Neg, IsEmpty, Like, Is, Binary, GetAttr, HasAttr, Set, Record}

abbrev pub var_of : Var → s.Var
var_of Principal = s.principal
var_of Action = s.action
var_of Resource = s.resource
var_of Context = s.context

abbrev pub op_of : BinaryOp → s.BinaryOp
op_of Eq = s.eq
op_of Mem = s.mem
op_of HasTag = s.has_tag
op_of GetTag = s.get_tag
op_of Less = s.less
op_of LessEq = s.less_eq
op_of Add = s.add
op_of Sub = s.sub
op_of Mul = s.mul
op_of Contains = s.contains
op_of ContainsAll = s.contains_all
op_of ContainsAny = s.contains_any

-- ---- what stands for what: n expressions from a place on, n attributes, and one by its form
abbrev pub exprs_from : (ℕ → s.Expr) → List ℕ → ℕ → ℕ → Exprs
exprs_from d m p zero = nil
exprs_from d m p (suc n) = cons (d p) (exprs_from d m (behind m p) n)

abbrev pub attrs_from : (ℕ → s.Expr) → List ℕ → ℕ → ℕ → ExprAttrs
attrs_from d m p zero = empty
attrs_from d m p (suc n) = attr (text_at m p) (d (behind_text m p)) (attrs_from d m (behind m (behind_text m p)) n)

abbrev pub means_expr : (ℕ → s.Expr) → List ℕ → Expr → s.Expr
means_expr d m (B b) = lit (bool b)
means_expr d m (Int z) = lit (int (raised z))
means_expr d m (String p) = lit (string (text_at m p))
means_expr d m (Entity p) = lit (entity_uid (uid_at m p))
means_expr d m (Variable v) = var (var_of v)
means_expr d m (If x y z) = ite (d x) (d y) (d z)
means_expr d m (And x y) = and (d x) (d y)
means_expr d m (Or x y) = or (d x) (d y)
means_expr d m (Not x) = unary_app not (d x)
means_expr d m (Neg x) = unary_app neg (d x)
means_expr d m (IsEmpty x) = unary_app is_empty (d x)
means_expr d m (Like p x) = unary_app (like (text_at m p)) (d x)
means_expr d m (Is p x) = unary_app (is (text_at m p)) (d x)
means_expr d m (Binary o x y) = binary_app (op_of o) (d x) (d y)
means_expr d m (GetAttr p x) = get_attr (d x) (text_at m p)
means_expr d m (HasAttr p x) = has_attr (d x) (text_at m p)
means_expr d m (Set n x) = set (exprs_from d m x n)
means_expr d m (Record n x) = record_of (attrs_from d m x n)

abbrev pub expr_at : ℕ → List ℕ → ℕ → s.Expr
expr_at zero m at = lit (bool false)
expr_at (suc h) m at = means_expr (expr_at h m) m (head_at m at)

-- ---- how many numbers a row has, by its parts
abbrev pub sizes : List ℕ → ℕ → ℕ → ℕ
sizes m p zero = 0
sizes m p (suc n) = size m p + sizes m (behind m p) n

abbrev pub attr_sizes : List ℕ → ℕ → ℕ → ℕ
attr_sizes m p zero = 0
attr_sizes m p (suc n) = 1 + size m (behind_text m p) + attr_sizes m (behind m (behind_text m p)) n

abbrev pub weight : List ℕ → Expr → ℕ
weight m (B b) = 3
weight m (Int z) = 3
weight m (String p) = 3
weight m (Entity p) = 3
weight m (Variable v) = 3
weight m (If x y z) = 2 + size m x + size m y + size m z
weight m (And x y) = 2 + size m x + size m y
weight m (Or x y) = 2 + size m x + size m y
weight m (Not x) = 2 + size m x
weight m (Neg x) = 2 + size m x
weight m (IsEmpty x) = 2 + size m x
weight m (Like p x) = 2 + size m x
weight m (Is p x) = 2 + size m x
weight m (Binary o x y) = 3 + size m x + size m y
weight m (GetAttr p x) = 2 + size m x
weight m (HasAttr p x) = 2 + size m x
weight m (Set n x) = 3 + sizes m x n
weight m (Record n x) = 3 + attr_sizes m x n

-- ---- which rows are good: their parts lie in the memory, and are good
abbrev pub Row : (ℕ → Type 0) → List ℕ → ℕ → Type 0
Row G m at = (at + 3 ≤ length m) × (3 ≤ size m at) × (behind m at ≤ length m) × G at

abbrev pub RowsFrom : (ℕ → Type 0) → List ℕ → ℕ → ℕ → Type 0
RowsFrom G m p zero = Unit {0}
RowsFrom G m p (suc n) = Row G m p × RowsFrom G m (behind m p) n

abbrev pub AttrsFrom : (ℕ → Type 0) → List ℕ → ℕ → ℕ → Type 0
AttrsFrom G m p zero = Unit {0}
AttrsFrom G m p (suc n) = TextIn m p × Row G m (behind_text m p) × AttrsFrom G m (behind m (behind_text m p)) n

abbrev pub SoundExpr : (ℕ → Type 0) → List ℕ → Expr → Type 0
SoundExpr G m (B b) = Unit {0}
SoundExpr G m (Int z) = Unit {0}
SoundExpr G m (String p) = TextIn m p
SoundExpr G m (Entity p) = UIDIn m p
SoundExpr G m (Variable v) = Unit {0}
SoundExpr G m (If x y z) = Row G m x × Row G m y × Row G m z
SoundExpr G m (And x y) = Row G m x × Row G m y
SoundExpr G m (Or x y) = Row G m x × Row G m y
SoundExpr G m (Not x) = Row G m x
SoundExpr G m (Neg x) = Row G m x
SoundExpr G m (IsEmpty x) = Row G m x
SoundExpr G m (Like p x) = TextIn m p × Row G m x
SoundExpr G m (Is p x) = TextIn m p × Row G m x
SoundExpr G m (Binary o x y) = Row G m x × Row G m y
SoundExpr G m (GetAttr p x) = TextIn m p × Row G m x
SoundExpr G m (HasAttr p x) = TextIn m p × Row G m x
SoundExpr G m (Set n x) = RowsFrom G m x n
SoundExpr G m (Record n x) = AttrsFrom G m x n

abbrev pub GoodExpr : ℕ → List ℕ → ℕ → Type 0
GoodExpr zero m at = ⊥
GoodExpr (suc h) m at = (weight m (head_at m at) ≤ size m at) × SoundExpr (GoodExpr h m) m (head_at m at)

-- an expression that a call can carry, whose row lies anywhere in a memory, is good there and is that expression
pub record ExprIn (h : ℕ) (m : List ℕ) (p : ℕ) (x : s.Expr) : Type 0 where
  pub good : Row (GoodExpr h m) m p
  pub is : expr_at h m p ≡ x
  pub long : size m p ≡ length (row_expr x)

abbrev pub ExprRowsMean : Type 0
ExprRowsMean = (x : s.Expr) (d : ℕ) (m : List ℕ) (p : ℕ) → encodable_expr x d ≡ true → LiesAt m p (row_expr x) → ExprIn (suc d) m p x
