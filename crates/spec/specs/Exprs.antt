-- The expressions of policies. Assumes nothing: these are definitions.
use Rattle.std.specs.Prelude.{Bool, List, ℕ}
use Rattle.std.proofs.Math.Bool.{Bool-discrete}
use Rattle.std.proofs.Math.Decide.{ℕ_discrete}
use Rattle.spec.specs.Basics.{Text, is_yes, Text-discrete}
use Rattle.spec.specs.Values.{EntityUID, EntityUID-discrete, Primitive, entity_uid, Primitive-discrete}

pub data Var : Type 0 where
  principal : Var
  action : Var
  resource : Var
  context : Var
  deriving Discrete as Var-discrete

-- a pattern is bytes, and this number for any run of bytes
abbrev pub star : ℕ
star = 256

pub data UnaryOp : Type 0 where
  not : UnaryOp
  neg : UnaryOp
  is_empty : UnaryOp
  like : List ℕ → UnaryOp
  is : Text → UnaryOp
  deriving Discrete as UnaryOp-discrete

pub data BinaryOp : Type 0 where
  eq : BinaryOp
  mem : BinaryOp  -- `in`: an entity in an entity, or in one of a set
  has_tag : BinaryOp
  get_tag : BinaryOp
  less : BinaryOp
  less_eq : BinaryOp
  add : BinaryOp
  sub : BinaryOp
  mul : BinaryOp
  contains : BinaryOp
  contains_all : BinaryOp
  contains_any : BinaryOp
  deriving Discrete as BinaryOp-discrete

mutual
  pub data Expr : Type 0 where
    lit : Primitive → Expr
    var : Var → Expr
    ite : Expr → Expr → Expr → Expr
    and : Expr → Expr → Expr
    or : Expr → Expr → Expr
    unary_app : UnaryOp → Expr → Expr
    binary_app : BinaryOp → Expr → Expr → Expr
    get_attr : Expr → Text → Expr
    has_attr : Expr → Text → Expr
    set : Exprs → Expr
    record_of : ExprAttrs → Expr
    deriving Discrete as Expr-discrete

  pub data Exprs : Type 0 where
    nil : Exprs
    cons : Expr → Exprs → Exprs

  pub data ExprAttrs : Type 0 where
    empty : ExprAttrs
    attr : Text → Expr → ExprAttrs → ExprAttrs

unfoldable pub expr-discrete : Discrete Expr
expr-discrete = Expr-discrete (Primitive-discrete Bool-discrete ℕ_discrete Text-discrete EntityUID-discrete) Var-discrete (UnaryOp-discrete Text-discrete) BinaryOp-discrete Text-discrete

abbrev pub same_expr : Expr → Expr → Bool
same_expr x y = is_yes (expr-discrete x y)

-- ---- the action that is asked for in place of the word `action`
abbrev pub substitute_var : EntityUID → Var → Expr
substitute_var u principal = var principal
substitute_var u action = lit (entity_uid u)
substitute_var u resource = var resource
substitute_var u context = var context

abbrev mutual
  pub substitute_action : EntityUID → Expr → Expr
  substitute_action u (lit p) = lit p
  substitute_action u (var v) = substitute_var u v
  substitute_action u (ite x y z) = ite (substitute_action u x) (substitute_action u y) (substitute_action u z)
  substitute_action u (and x y) = and (substitute_action u x) (substitute_action u y)
  substitute_action u (or x y) = or (substitute_action u x) (substitute_action u y)
  substitute_action u (unary_app o x) = unary_app o (substitute_action u x)
  substitute_action u (binary_app o x y) = binary_app o (substitute_action u x) (substitute_action u y)
  substitute_action u (get_attr x a) = get_attr (substitute_action u x) a
  substitute_action u (has_attr x a) = has_attr (substitute_action u x) a
  substitute_action u (set xs) = set (substitute_actions u xs)
  substitute_action u (record_of r) = record_of (substitute_action_attrs u r)

  pub substitute_actions : EntityUID → Exprs → Exprs
  substitute_actions u nil = nil
  substitute_actions u (cons x xs) = cons (substitute_action u x) (substitute_actions u xs)

  pub substitute_action_attrs : EntityUID → ExprAttrs → ExprAttrs
  substitute_action_attrs u empty = empty
  substitute_action_attrs u (attr a x r) = attr a (substitute_action u x) (substitute_action_attrs u r)
