-- Behind a 1 stands an id, and behind a 0 is the list's end.
use Rattle.std.proofs.Common.{◌≡◌, ◌∷◌, ◌++◌, length, string_bytes, sym, ◌∙◌, rules}
use Rattle.spec.specs.Bytes.{encode_text, encode_list}
use Rattle.lines.proofs.Lists.{ended, id-next, stepped, begins, no_list}
use Rattle.lines.proofs.ids.ids.Goals as goal

pub returns-in-0 : goal.returns-in-0
returns-in-0 c all rest e =
    let a = c.loop-mark.invariant all rest e in
    let zero : c.loop-mark.left.now ≡ 0 ∷ c.in-Some.rest.now = search rules in
    ended c.in-Some.rest.now (string_bytes c.loop-mark.line) (string_bytes c.args.line.now) all rest (a.0, sym zero ∙ a.1, a.2)

pub returns-in_err-id-in-1 : goal.returns-in_err-id-in-1
returns-in_err-id-in-1 c all rest e =
    let a = c.loop-mark.invariant all rest e in
    let one : c.loop-mark.left.now ≡ 1 ∷ c.in-Some.rest.now = search rules in
    let i = id-next a.0 c.in-Some.rest.now rest (sym one ∙ a.1) in
    absurd (c.in_err-id-in-1.ensures.reads i.0 (encode_list encode_text i.1 ++ rest) i.3)

pub loop-mark-preserved : goal.loop-mark-preserved
loop-mark-preserved c all rest e =
    let a = c.loop-mark.invariant all rest e in
    let one : c.loop-mark.left.now ≡ 1 ∷ c.in-Some.rest.now = search rules in
    stepped c.in-Some.rest.now c.in_ok-id-in-1.rest.now (string_bytes c.loop-mark.line) (string_bytes c.put.new.line) (string_bytes c.quoted.new.line) (string_bytes c.args.line.now) c.in_ok-id-in-1.id.now all rest
    c.in_ok-id-in-1.ensures.reads c.in_ok-put-in-1.ensures c.in_ok-quoted-in-1.ensures (a.0, sym one ∙ a.1, a.2)

pub returns-in_default-mark : goal.returns-in_default-mark
returns-in_default-mark c all rest e =
    let a = c.loop-mark.invariant all rest e in
    let first : c.loop-mark.left.now ≡ c.in-Some.mark.now ∷ c.in-Some.rest.now = search rules in
    absurd (begins a.0 c.in-Some.mark.now c.in-Some.rest.now rest (sym first ∙ a.1) (λ zero. search rules) (λ one. search rules))

pub returns : goal.returns
returns c all rest e =
    let a = c.loop-mark.invariant all rest e in
    let none : length c.loop-mark.left.now ≡ 0 = search rules in
    absurd (no_list c.loop-mark.left.now a.0 rest none a.1)
