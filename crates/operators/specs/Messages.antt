-- What is printed of an error.
use Rattle.std.specs.Prelude.{ℕ, List, codes}
use Rattle.operators.specs.declared.errors.EvalError.{EvalError}
use Rattle.operators.specs.declared.errors.EvalError.TheVariants.{EntityDoesNotExist, AttrDoesNotExist, TagDoesNotExist, TypeError, ArithBoundsError}

abbrev pub error_text : EvalError → List ℕ
error_text EntityDoesNotExist = codes "there is no such entity"
error_text AttrDoesNotExist = codes "there is no such attribute"
error_text TagDoesNotExist = codes "there is no such tag"
error_text TypeError = codes "a value has the wrong type"
error_text ArithBoundsError = codes "an integer leaves 64 bits"
