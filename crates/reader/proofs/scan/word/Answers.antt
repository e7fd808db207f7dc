use Rattle.std.proofs.Common.{length, ap, ◌∙◌}
use Rattle.std.specs.Option.{ok_or}
use Rattle.reader.proofs.Along.{word-taken}
use Rattle.reader.proofs.scan.word.Goals as goal

pub returns-clause-reads : goal.returns-clause-reads
returns-clause-reads c = c.ok_or.ensures.value ∙ ap (λ r. ok_or r (length c.args.bytes.now)) c.word_at.ensures.is ∙ word-taken c.args.bytes.now c.args.at c.requires
