-- Where a number's bytes stand the definition gives the number.
use Rattle.std.proofs.Common.{rules, arith}
use Rattle.std.proofs.lemmas.Grind.{common_steps}
use Rattle.words.proofs.Round.{word_read}
use Rattle.words.proofs.word_at.Goals as goal

pub returns-in_err-get-clause-reads : goal.returns-in_err-get-clause-reads
returns-in_err-get-clause-reads c = word_read c.args.at c.args.bytes.now _ (search rules)

pub returns-in_err-chunk-clause-reads : goal.returns-in_err-chunk-clause-reads
returns-in_err-chunk-clause-reads c = word_read c.args.at c.args.bytes.now _ (search rules)

pub returns-clause-reads : goal.returns-clause-reads
returns-clause-reads c = word_read c.args.at c.args.bytes.now _ (grind (arith, common_steps))
