use Rattle.values.specs.Memory.{numbers}
use Rattle.entities.proofs.Ancestry.{Rest}
use Rattle.entities.proofs.requests.Subject.is_in_any.Given as goal

-- what is left to look at says what all of it says
abbrev pub invariant-loop-i : goal.invariant-loop-i
invariant-loop-i l = Rest (numbers l.memory) l.self.uid l.self.row l.height l.p l.found l.i
