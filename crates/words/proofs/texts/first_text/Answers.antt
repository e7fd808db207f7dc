-- Where a text stands behind its length, that text is told.
use Rattle.std.proofs.Common.{rules}
use Rattle.words.proofs.Round.{text_read}
use Rattle.words.proofs.texts.first_text.Goals as goal

pub returns-in_err-long-clause-reads : goal.returns-in_err-long-clause-reads
returns-in_err-long-clause-reads c = text_read c.args.bytes.now _ (search rules) (search rules)

pub returns-clause-reads : goal.returns-clause-reads
returns-clause-reads c = text_read c.args.bytes.now _ (search rules) (search rules)
