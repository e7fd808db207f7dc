-- What the results of the running code say: a value that stands for the one that the definitions give, or their error.
use Rattle.std.specs.Prelude.{◌≡◌, ℕ, Bool, List, ℤ, Some, None, Ok, Err, Option, Result, FitsSigned}
use Rattle.std.specs.Int.{w64}
use Rattle.spec.specs.Basics.{Except, ok, error}
use Rattle.spec.specs.Values as s
use Rattle.spec.specs.Values.{Entities}
use Rattle.spec.specs.Exprs.{UnaryOp, BinaryOp}
use Rattle.spec.specs.Evaluate.{Error, entity_does_not_exist, attr_does_not_exist, tag_does_not_exist, type_error, arith_bounds_error, of_int, with_ints, apply1, apply2}
use Rattle.values.specs.Held.{raised, decode, Good, Stands, elements_of}
use Rattle.values.specs.declared.nodes.Value.{Value}
use Rattle.values.specs.declared.nodes.Value.TheVariants.{Int, Set}
use Rattle.operators.specs.declared.errors.EvalError.{EvalError}
use Rattle.operators.specs.declared.errors.EvalError.TheVariants.{EntityDoesNotExist, AttrDoesNotExist, TagDoesNotExist, TypeError, ArithBoundsError}

abbrev pub error_of : EvalError → Error
error_of EntityDoesNotExist = entity_does_not_exist
error_of AttrDoesNotExist = attr_does_not_exist
error_of TagDoesNotExist = tag_does_not_exist
error_of TypeError = type_error
error_of ArithBoundsError = arith_bounds_error

-- a result stands, to a height in a memory, for what the definitions say
abbrev pub Says : ℕ → List ℕ → Result Value EvalError → Except Error s.Value → Type 0
Says h m (Ok v) o = (o ≡ ok (decode h m v)) × Good h m v
Says h m (Err e) o = o ≡ error (error_of e)

-- what an operator answers, wherever its operands stand and whatever they stand for
abbrev pub Answers1 : UnaryOp → Value → Result Value EvalError → Type 0
Answers1 o v r = (h : ℕ) (m : List ℕ) (a : s.Value) → Stands h m v a → Says h m r (apply1 o a)

abbrev pub Answers2 : BinaryOp → Value → Value → Result Value EvalError → Type 0
Answers2 o v w r = (h : ℕ) (m : List ℕ) (a b : s.Value) (es : Entities) → Stands h m v a → Stands h m w b → Says h m r (apply2 o a b es)

-- the same of operators that read one memory, to one height
abbrev pub AnswersIn1 : ℕ → List ℕ → UnaryOp → Value → Result Value EvalError → Type 0
AnswersIn1 h m o v r = (a : s.Value) → Stands h m v a → Says h m r (apply1 o a)

abbrev pub AnswersIn2 : ℕ → List ℕ → BinaryOp → Value → Value → Result Value EvalError → Type 0
AnswersIn2 h m o v w r = (a b : s.Value) (es : Entities) → Stands h m v a → Stands h m w b → Says h m r (apply2 o a b es)

-- what comes of two operands, as the definitions have it by a rule on integers
abbrev pub ComesOfInts : Value → Value → Result Value EvalError → (ℕ → ℕ → Except Error s.Value) → Type 0
ComesOfInts v w r o = (h : ℕ) (m : List ℕ) (a b : s.Value) → Stands h m v a → Stands h m w b → Says h m r (with_ints a b o)

-- an integer that fits, or none where the definitions have an error
abbrev pub Counts : Option ℤ → Except Error s.Value → Type 0
Counts (Some z) o = o ≡ ok (of_int (raised z))
Counts None o = o ≡ error arith_bounds_error

-- what the code does with two integers of 64 bits is what the definitions do, which have them 2^63 higher
abbrev pub CountsBy : (ℤ → ℤ → Option ℤ → Type 0) → (ℕ → ℕ → Except Error s.Value) → Type 0
CountsBy gives o = (i j : ℤ) (z : Option ℤ) → FitsSigned w64 i → FitsSigned w64 j → gives i j z → Counts z (o (raised i) (raised j))

abbrev pub TestsBy : (ℤ → ℤ → Bool → Type 0) → (ℕ → ℕ → Bool) → Type 0
TestsBy gives o = (i j : ℤ) (b : Bool) → FitsSigned w64 i → FitsSigned w64 j → gives i j b → b ≡ o (raised i) (raised j)

-- an integer, or that it left 64 bits
abbrev pub counted : Option ℤ → Result Value EvalError
counted (Some z) = Ok (Int z)
counted None = Err ArithBoundsError

-- the integer that a value is, or that it is none
abbrev pub int_of : Result ℤ EvalError → Except Error ℕ
int_of (Ok z) = ok (raised z)
int_of (Err e) = error (error_of e)

-- what is in the set that a value is, or that it is none
abbrev pub set_in : ℕ → List ℕ → Result ℕ EvalError → Except Error (List s.Value)
set_in h m (Ok p) = ok (elements_of (decode h m (Set p)))
set_in h m (Err e) = error (error_of e)
