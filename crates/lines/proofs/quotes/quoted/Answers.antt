-- The first quote, then each byte as it is escaped, then the last quote.
use Rattle.std.proofs.Common.{string_bytes, sym, arith}
use Rattle.std.proofs.lemmas.List.{append-nil}
use Rattle.lines.proofs.Joins.{escapes-none, escapes-step, quote-whole}
use Rattle.lines.proofs.quotes.quoted.Goals as goal

pub loop-b-init : goal.loop-b-init
loop-b-init c = rw escapes-none (sym (append-nil _))

pub loop-b-preserved : goal.loop-b-preserved
loop-b-preserved c =
    escapes-step (string_bytes c.put.new.line) (string_bytes c.loop-b.line) _ c.args.id.now c.loop-b.b-index (omega arith) c.loop-b.invariant c.in_ok-escaped.ensures

pub returns : goal.returns
returns c = quote-whole _ _ _ _ c.args.id.now c.loop-b.b-index c.in_ok-put.ensures c.loop-b.invariant (omega arith) c.in_ok-put-2.ensures
