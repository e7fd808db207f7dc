-- A list begins with a 0 if there is no id.
use Rattle.std.proofs.Common.{◌≡◌, ◌∷◌, ◌++◌, length, string_bytes, sym, ◌∙◌, rules}
use Rattle.lines.specs.Quotes.{quotes, quotes_or}
use Rattle.lines.proofs.Lists.{none_said, some-said, no_list}
use Rattle.lines.proofs.Outcomes.{weaker}
use Rattle.lines.proofs.ids.ids_or.Goals as goal

pub returns-in_err-mark : goal.returns-in_err-mark
returns-in_err-mark c all rest e =
    let none : length c.args.answer.now ≡ 0 = search rules in
    absurd (no_list c.args.answer.now all rest none e)

pub returns-then-mark-eq0 : goal.returns-then-mark-eq0
returns-then-mark-eq0 c all rest e =
    let none : c.args.answer.now ≡ 0 ∷ c.in_ok-mark.rest.now = search rules in
    none_said c.in_ok-mark.rest.now (string_bytes c.args.line.now) _ c.args.none.now c.args.before.now all rest c.in_ok-push_str.ensures.bytes (sym none ∙ e)

pub returns : goal.returns
returns c all rest e =
    let first : c.args.answer.now ≡ c.in_ok-mark.mark.now ∷ c.in_ok-mark.rest.now = search rules in
    weaker c.ids.result
    (λ left. (left.now ≡ rest) × (string_bytes c.ids.new.line ≡ string_bytes c.push_str-2.new.self ++ quotes all))
    (λ left. (left.now ≡ rest) × (string_bytes c.ids.new.line ≡ string_bytes c.args.line.now ++ quotes_or c.args.none.now c.args.before.now all))
    (λ left p. (
      p.0,
      some-said c.args.answer.now (string_bytes c.args.line.now) (string_bytes c.push_str-2.new.self) c.args.none.now c.args.before.now all rest _
          c.in_ok-mark.mark.now c.in_ok-mark.rest.now first c.if-mark-eq0.false c.in_ok-push_str-2.ensures.bytes e p.1,
    ))
    (c.ids.ensures all rest e)
