-- A byte, and the eight bytes of the place.
use Rattle.std.proofs.Common.{◌≡◌, [], ◌∷◌, length, sym, ap, ◌∙◌, rules}
use Rattle.std.proofs.lemmas.List.{append-nil}
use Rattle.spec.specs.Calls.{refusal_number}
use Rattle.spec.specs.Bytes.{encode_word}
use Rattle.words.specs.Words.{big_endian}
use Rattle.words.proofs.Round.{word-long, big_endian-word}
use Rattle.lines.specs.Answers.{refused_line}
use Rattle.lines.proofs.Firsts.{same-first, same-rest}
use Rattle.lines.proofs.refused.Goals as goal

pub returns-then-place-ne8 : goal.returns-then-place-ne8
returns-then-place-ne8 c refusal place h e =
    let split : c.args.answer.now ≡ c.in_ok-refusal.refusal.now ∷ c.in_ok-refusal.place.now = search rules in
    let rest : c.in_ok-refusal.place.now ≡ encode_word place = same-rest _ _ _ _ (sym split ∙ same-rest 0 0 _ _ e) in
    absurd (c.if-place-ne8.true (ap length rest ∙ word-long place))

pub returns : goal.returns
returns c refusal place h e =
    let split : c.args.answer.now ≡ c.in_ok-refusal.refusal.now ∷ c.in_ok-refusal.place.now = search rules in
    let whole = sym split ∙ same-rest 0 0 _ _ e in
    let number : c.in_ok-refusal.refusal.now ≡ refusal_number refusal = same-first _ _ _ _ whole in
    let rest : c.in_ok-refusal.place.now ≡ encode_word place = same-rest _ _ _ _ whole in
    let value : c.word-place.result ≡ place = c.word-place.ensures ∙ ap big_endian (rest ∙ sym (append-nil (encode_word place))) ∙ big_endian-word place [] h in
    c.in_ok-format.ensures.ok
    ∙ ap (λ m. refused_line m c.word-place.result) number
    ∙ ap (λ p. refused_line (refusal_number refusal) p) value
