-- The two digits behind `\x`.
use Rattle.lines.proofs.Joins.{hex-whole}
use Rattle.lines.proofs.quotes.in_hex.Goals as goal

pub returns : goal.returns
returns c = hex-whole _ _ _ _ _ _ c.args.b c.in_ok-push_str.ensures.bytes c.in_ok-put.ensures c.in_ok-put-2.ensures c.hex_digit.ensures.value c.hex_digit-2.ensures.value
