-- Each arm, as its operator answers.
use Rattle.values.specs.Memory.{numbers}
use Rattle.std.proofs.Common.{◌≡◌, ℕ, List, Result, sym, subst}
use Rattle.values.specs.declared.nodes.Value.{Value}
use Rattle.operators.specs.declared.errors.EvalError.{EvalError}
use Rattle.entities.specs.View.{known}
use Rattle.entities.specs.Code.{AnswersOf2}
use Rattle.spec.specs.Values as s
use Rattle.exprs.specs.Stored.{op_of}
use Rattle.exprs.specs.declared.BinaryOp.{BinaryOp}
use Rattle.evaluator.proofs.apply.apply_binary.Goals as goal

by-op : (h : ℕ) (m : List ℕ) (es : s.Entities) (v w : Value) (r : Result Value EvalError) (o k : BinaryOp) → o ≡ k → AnswersOf2 h m es (op_of k) v w r → AnswersOf2 h m es (op_of o) v w r
by-op h m es v w r o k e a = subst (λ x. AnswersOf2 h m es (op_of x) v w r) (sym e) a

pub returns-in-Eq : goal.returns-in-Eq
returns-in-Eq c = by-op c.args.height (numbers c.args.view.now.memory) (known c.args.view.now) c.args.v c.args.w c.eq.result c.args.op BinaryOp.Eq c.in-Eq.is (λ a b s t. c.eq.ensures a b (known c.args.view.now) s t)

pub returns-in-Mem : goal.returns-in-Mem
returns-in-Mem c = by-op c.args.height (numbers c.args.view.now.memory) (known c.args.view.now) c.args.v c.args.w c.mem.result c.args.op BinaryOp.Mem c.in-Mem.is c.mem.ensures

pub returns-in-Less : goal.returns-in-Less
returns-in-Less c = by-op c.args.height (numbers c.args.view.now.memory) (known c.args.view.now) c.args.v c.args.w c.less.result c.args.op BinaryOp.Less c.in-Less.is (λ a b s t. c.less.ensures c.args.height (numbers c.args.view.now.memory) a b (known c.args.view.now) s t)

pub returns-in-LessEq : goal.returns-in-LessEq
returns-in-LessEq c = by-op c.args.height (numbers c.args.view.now.memory) (known c.args.view.now) c.args.v c.args.w c.less_eq.result c.args.op BinaryOp.LessEq c.in-LessEq.is (λ a b s t. c.less_eq.ensures c.args.height (numbers c.args.view.now.memory) a b (known c.args.view.now) s t)

pub returns-in-Add : goal.returns-in-Add
returns-in-Add c = by-op c.args.height (numbers c.args.view.now.memory) (known c.args.view.now) c.args.v c.args.w c.add.result c.args.op BinaryOp.Add c.in-Add.is (λ a b s t. c.add.ensures c.args.height (numbers c.args.view.now.memory) a b (known c.args.view.now) s t)

pub returns-in-Sub : goal.returns-in-Sub
returns-in-Sub c = by-op c.args.height (numbers c.args.view.now.memory) (known c.args.view.now) c.args.v c.args.w c.sub.result c.args.op BinaryOp.Sub c.in-Sub.is (λ a b s t. c.sub.ensures c.args.height (numbers c.args.view.now.memory) a b (known c.args.view.now) s t)

pub returns-in-Mul : goal.returns-in-Mul
returns-in-Mul c = by-op c.args.height (numbers c.args.view.now.memory) (known c.args.view.now) c.args.v c.args.w c.mul.result c.args.op BinaryOp.Mul c.in-Mul.is (λ a b s t. c.mul.ensures c.args.height (numbers c.args.view.now.memory) a b (known c.args.view.now) s t)

pub returns-in-Contains : goal.returns-in-Contains
returns-in-Contains c = by-op c.args.height (numbers c.args.view.now.memory) (known c.args.view.now) c.args.v c.args.w c.contains.result c.args.op BinaryOp.Contains c.in-Contains.is (λ a b s t. c.contains.ensures a b (known c.args.view.now) s t)

pub returns-in-ContainsAll : goal.returns-in-ContainsAll
returns-in-ContainsAll c = by-op c.args.height (numbers c.args.view.now.memory) (known c.args.view.now) c.args.v c.args.w c.contains_all.result c.args.op BinaryOp.ContainsAll c.in-ContainsAll.is (λ a b s t. c.contains_all.ensures a b (known c.args.view.now) s t)

pub returns-in-ContainsAny : goal.returns-in-ContainsAny
returns-in-ContainsAny c = by-op c.args.height (numbers c.args.view.now.memory) (known c.args.view.now) c.args.v c.args.w c.contains_any.result c.args.op BinaryOp.ContainsAny c.in-ContainsAny.is (λ a b s t. c.contains_any.ensures a b (known c.args.view.now) s t)
