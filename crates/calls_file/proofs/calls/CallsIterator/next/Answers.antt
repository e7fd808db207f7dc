-- Each exit: what was read is what the definition says of the place.
use Rattle.std.proofs.Common.{ap, ◌∙◌, arith, rules}
use Rattle.words.specs.Words.{big_endian}
use Rattle.calls_file.proofs.Placed.{left, gives-end, gives-cut, gives-call}
use Rattle.calls_file.proofs.calls.CallsIterator.next.Goals as goal

pub returns-then-is_empty-clause-steps : goal.returns-then-is_empty-clause-steps
returns-then-is_empty-clause-steps c = gives-end c.args.self.now.file.now c.args.self.now.at (search rules)

pub returns-in_default-clause-steps : goal.returns-in_default-clause-steps
returns-in_default-clause-steps c =
    let file = c.args.self.now.file.now in
    let at = c.args.self.now.at in
    let rest = left file c.in_ok-rest.rest.now at c.in_ok-rest.ensures.lookup.0.2 in
    gives-cut file at (search rules) (search rules) (omega (arith, c.in_default.ensures.is, c.in_ok-rest.ensures.lookup.0.3, ap big_endian rest))

pub returns-clause-steps : goal.returns-clause-steps
returns-clause-steps c =
    let file = c.args.self.now.file.now in
    let at = c.args.self.now.at in
    let rest = left file c.in_ok-rest.rest.now at c.in_ok-rest.ensures.lookup.0.2 in
    let split = c.in-Some.ensures.is in
    gives-call file at c.in-Some.call (search rules) (omega (arith, split.0, c.in_ok-rest.ensures.lookup.0.3)) (split.1 ∙ ap big_endian rest) (rw (← rest) split.2)
