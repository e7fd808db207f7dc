use Rattle.std.proofs.Common.{length, sym, ap}
use Rattle.wire.specs.Grammar.{choices}
use Rattle.reader.specs.Code.{small_of}
use Rattle.reader.proofs.grammar.choices_of.Goals as goal

pub returns-in-Truth : goal.returns-in-Truth
returns-in-Truth c = sym (ap (λ s. length (choices (small_of s))) c.in-Truth.is)

pub returns-in-Variable : goal.returns-in-Variable
returns-in-Variable c = sym (ap (λ s. length (choices (small_of s))) c.in-Variable.is)

pub returns-in-Operator : goal.returns-in-Operator
returns-in-Operator c = sym (ap (λ s. length (choices (small_of s))) c.in-Operator.is)

pub returns-in-BoolType : goal.returns-in-BoolType
returns-in-BoolType c = sym (ap (λ s. length (choices (small_of s))) c.in-BoolType.is)

pub returns-in-Effect : goal.returns-in-Effect
returns-in-Effect c = sym (ap (λ s. length (choices (small_of s))) c.in-Effect.is)

pub returns-in-ConditionKind : goal.returns-in-ConditionKind
returns-in-ConditionKind c = sym (ap (λ s. length (choices (small_of s))) c.in-ConditionKind.is)
