use Rattle.values.specs.Memory.{numbers}
use Rattle.std.proofs.Common.{rules}
use Rattle.entities.specs.Code.{in_row}
use Rattle.policies.proofs.scopes.in_any.Goals as goal

pub returns : goal.returns
returns c = c.any_name.ensures (in_row (numbers c.args.memory.now) c.args.subject.uid c.args.subject.row) (λ p b l q. search rules)
