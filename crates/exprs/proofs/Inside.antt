-- What is good can be read.
use Rattle.std.proofs.Common.{ℕ, List, arith}
use Rattle.exprs.specs.Heads.{Inside}
use Rattle.exprs.specs.Stored.{SoundExpr}
use Rattle.exprs.specs.declared.Expr.{Expr}
use Rattle.exprs.specs.declared.Expr.TheVariants.{Bool as B, Int, String, Entity, Var as Variable, If, And, Or, Not, Neg, IsEmpty, Like, Is, Binary, GetAttr, HasAttr, Set, Record}

pub inside : (G : ℕ → Type 0) (m : List ℕ) (e : Expr) → SoundExpr G m e → Inside m e
inside G m (B b) s = tt
inside G m (Int z) s = tt
inside G m (String p) s = tt
inside G m (Entity p) s = tt
inside G m (Variable v) s = tt
inside G m (If x y z) s = (omega (arith, s.0.0), omega (arith, s.1.0), omega (arith, s.2.0))
inside G m (And x y) s = (omega (arith, s.0.0), omega (arith, s.1.0))
inside G m (Or x y) s = (omega (arith, s.0.0), omega (arith, s.1.0))
inside G m (Not x) s = tt
inside G m (Neg x) s = tt
inside G m (IsEmpty x) s = tt
inside G m (Like p x) s = (omega (arith, s.0), omega (arith, s.1.0))
inside G m (Is p x) s = (omega (arith, s.0), omega (arith, s.1.0))
inside G m (Binary o x y) s = (omega (arith, s.0.0), omega (arith, s.1.0))
inside G m (GetAttr p x) s = (omega (arith, s.0), omega (arith, s.1.0))
inside G m (HasAttr p x) s = (omega (arith, s.0), omega (arith, s.1.0))
inside G m (Set n x) s = tt
inside G m (Record n x) s = tt
