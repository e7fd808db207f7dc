-- What stands at a place of a memory, as the code has it: the form of an expression, and the places of its parts.
-- A row is its form, its length, and then its parts from left to right.
use Rattle.std.specs.Prelude.{ℕ, ◌+◌, ◌<◌, ◌≤◌, cond, List, length, ◌==◌, slice_index}
use Rattle.values.specs.Held.{lowered, behind_text}
use Rattle.exprs.specs.declared.Var.{Var}
use Rattle.exprs.specs.declared.Var.TheVariants.{Principal, Action, Resource, Context}
use Rattle.exprs.specs.declared.BinaryOp.{BinaryOp}
use Rattle.exprs.specs.declared.BinaryOp.TheVariants.{Eq, Mem, HasTag, GetTag, Less, LessEq, Add, Sub, Mul, Contains, ContainsAll, ContainsAny}
use Rattle.exprs.specs.declared.Expr.{Expr}
use Rattle.exprs.specs.declared.Expr.TheVariants.{Bool, Int, String, Entity, Var as Variable, If, And, Or, Not, Neg, IsEmpty, Like, Is, Binary, GetAttr, HasAttr, Set, Record}

-- how long the row at a place is
abbrev pub size : List ℕ → ℕ → ℕ
size m at = slice_index m (at + 1)

-- what is behind the row at a place
abbrev pub behind : List ℕ → ℕ → ℕ
behind m at = at + size m at

abbrev pub var_at : ℕ → Var
var_at n = cond (n == 0) Principal (cond (n == 1) Action (cond (n == 2) Resource Context))

abbrev pub op_at : ℕ → BinaryOp
op_at n =
    cond (n == 0) Eq
    (cond (n == 1) Mem
    (cond (n == 2) HasTag
    (cond (n == 3) GetTag
    (cond (n == 4) Less
    (cond (n == 5) LessEq
    (cond (n == 6) Add
    (cond (n == 7) Sub
    (cond (n == 8) Mul
    (cond (n == 9) Contains
    (cond (n == 10) ContainsAll
    ContainsAny))))))))))

-- by the form k, where the parts begin at x
abbrev pub head_of : ℕ → List ℕ → ℕ → Expr
head_of k m x =
    cond (k == 0) (Bool (slice_index m x == 1))
    (cond (k == 1) (Int (lowered (slice_index m x)))
    (cond (k == 2) (String x)
    (cond (k == 3) (Entity x)
    (cond (k == 4) (Variable (var_at (slice_index m x)))
    (cond (k == 5) (If x (behind m x) (behind m (behind m x)))
    (cond (k == 6) (And x (behind m x))
    (cond (k == 7) (Or x (behind m x))
    (cond (k == 8) (Not x)
    (cond (k == 9) (Neg x)
    (cond (k == 10) (IsEmpty x)
    (cond (k == 11) (Like x (behind_text m x))
    (cond (k == 12) (Is x (behind_text m x))
    (cond (k == 13) (Binary (op_at (slice_index m x)) (x + 1) (behind m (x + 1)))
    (cond (k == 14) (GetAttr x (behind_text m x))
    (cond (k == 15) (HasAttr x (behind_text m x))
    (cond (k == 16) (Set (slice_index m x) (x + 1))
    (Record (slice_index m x) (x + 1))))))))))))))))))

abbrev pub head_at : List ℕ → ℕ → Expr
head_at m at = head_of (slice_index m at) m (at + 2)

-- the lengths that are read to find the parts lie in the memory
abbrev pub Inside : List ℕ → Expr → Type 0
Inside m (Bool b) = Unit {0}
Inside m (Int z) = Unit {0}
Inside m (String p) = Unit {0}
Inside m (Entity p) = Unit {0}
Inside m (Variable v) = Unit {0}
Inside m (If x y z) = (x + 2 ≤ length m) × (y + 2 ≤ length m) × (z ≤ length m)
Inside m (And x y) = (x + 2 ≤ length m) × (y ≤ length m)
Inside m (Or x y) = (x + 2 ≤ length m) × (y ≤ length m)
Inside m (Not x) = Unit {0}
Inside m (Neg x) = Unit {0}
Inside m (IsEmpty x) = Unit {0}
Inside m (Like p x) = (p < length m) × (x ≤ length m)
Inside m (Is p x) = (p < length m) × (x ≤ length m)
Inside m (Binary o x y) = (x + 2 ≤ length m) × (y ≤ length m)
Inside m (GetAttr p x) = (p < length m) × (x ≤ length m)
Inside m (HasAttr p x) = (p < length m) × (x ≤ length m)
Inside m (Set n x) = Unit {0}
Inside m (Record n x) = Unit {0}
