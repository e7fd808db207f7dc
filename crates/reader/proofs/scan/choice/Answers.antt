use Rattle.std.proofs.Common.{rules}
use Rattle.wire.specs.Grammar.{choices}
use Rattle.reader.specs.Code.{small_of}
use Rattle.reader.proofs.Along.{one_end, one-other, one_found, stops-here}
use Rattle.reader.proofs.scan.choice.Goals as goal

pub returns-in-Some-clause-reads : goal.returns-in-Some-clause-reads
returns-in-Some-clause-reads c = one_found (choices (small_of c.args.small)) c.args.bytes.now c.args.at (search rules) (search rules)

pub returns-in_default-clause-reads : goal.returns-in_default-clause-reads
returns-in_default-clause-reads c = stops-here _ c.args.at _ (one-other (choices (small_of c.args.small)) c.args.bytes.now c.args.at (search rules) (search rules))

pub returns-in_default-2-clause-reads : goal.returns-in_default-2-clause-reads
returns-in_default-2-clause-reads c = stops-here _ c.args.at _ (one_end (choices (small_of c.args.small)) c.args.bytes.now c.args.at (search rules))
