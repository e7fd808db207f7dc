-- The first byte says which answer it is.
use Rattle.std.proofs.Common.{◌≡◌, ◌∷◌, string_bytes, rules}
use Rattle.lines.proofs.Lines.{first-refused}
use Rattle.lines.proofs.line_of.Goals as goal

pub returns-in-Refused : goal.returns-in-Refused
returns-in-Refused c =
    let zero : c.args.answer.now ≡ 0 ∷ c.in_ok-kind.rest.now = search rules in
    first-refused string_bytes c.args.answer.now c.in_ok-kind.rest.now c.refused.result zero c.refused.ensures
