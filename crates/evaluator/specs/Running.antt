-- What evaluating works with, as the contracts of its functions see it: the work memory as it is by now, and what the definitions say of an expression.
use Rattle.std.specs.Prelude.{◌≡◌, ℕ, suc, ◌+◌, ◌*◌, ◌≤◌, Bool, true, false, List, length, Result}
use Rattle.spec.specs.Basics.{Except}
use Rattle.spec.specs.Values as s
use Rattle.spec.specs.Exprs.{Expr, and, or}
use Rattle.spec.specs.Evaluate.{Error, evaluate}
use Rattle.values.specs.Making.{up_to}
use Rattle.values.specs.declared.nodes.Value.{Value}
use Rattle.operators.specs.Code.{Says}
use Rattle.operators.specs.declared.errors.EvalError.{EvalError}
use Rattle.exprs.specs.Heads.{size}
use Rattle.exprs.specs.Stored.{expr_at, Row, GoodExpr}
use Rattle.entities.specs.Rows.{entities_at, request_at, RequestIn}
use Rattle.evaluator.specs.Evaluated.{Moved}
use Rattle.evaluator.specs.declared.running.Inputs.{Inputs}
use Rattle.evaluator.specs.declared.running.Work.{Work}

-- the store's numbers, and behind them what is made by now
abbrev pub made : Inputs → Work → List ℕ
made i w = up_to i.store.now w.numbers.now w.top

-- the request lies in that memory, and its entities are those of the store
abbrev pub IsAsked : Inputs → Work → Type 0
IsAsked i w = RequestIn i.store.now (made i w) i.env.now.entities i.env.now.request

-- ---- the expression whose row lies at a place of the store
abbrev pub GoodRow : Inputs → ℕ → Type 0
GoodRow i at = Row (GoodExpr i.height i.store.now) i.store.now at

abbrev pub size_of : Inputs → ℕ → ℕ
size_of i at = size i.store.now at

abbrev pub expr_of : Inputs → ℕ → Expr
expr_of i at = expr_at i.height i.store.now at

-- what an expression comes to by the definitions
abbrev pub comes_to : Inputs → Work → Expr → Except Error s.Value
comes_to i w x = evaluate x (request_at (made i w) i.env.now.request) (entities_at i.store.now i.env.now.entities)

-- what is told of an expression one higher is what it comes to
abbrev pub Tells : Inputs → Work → Work → Result Value EvalError → Expr → Type 0
Tells i w w' r x = Says (suc (i.height + 65)) (made i w') r (comes_to i w x)

-- for a row of so many numbers there are four times as many
abbrev pub HasRoom : Work → ℕ → Type 0
HasRoom w most = w.top + 4 * most ≤ length w.numbers.now

-- the work memory is as long as it was, and of what it holds only what is made comes
pub record Moves (w w' : Work) (most : ℕ) : Type 0 where
  pub long : length w'.numbers.now ≡ length w.numbers.now
  pub moved : Moved w.numbers.now w'.numbers.now w.top w'.top most

-- by the truth value that decides it alone
abbrev pub logic : Bool → Expr → Expr → Expr
logic false x y = and x y
logic true x y = or x y
