-- The two bytes are told one after the other.
use Rattle.std.proofs.Common.{◌≡◌, cond, [], string_bytes, codes, sym, ◌∙◌, rules}
use Rattle.std.proofs.lemmas.List.{append-nil}
use Rattle.spec.specs.Bytes.{encode_bool}
use Rattle.lines.proofs.Firsts.{same_truth}
use Rattle.lines.proofs.Lines.{two-last}
use Rattle.lines.proofs.decisions.fits.Goals as goal
use Rattle.lines.proofs.decisions.fits.Goals.{then-request, else-request, then-entities, else-entities}

pub returns-in_err-entities : goal.returns-in_err-entities
returns-in_err-entities c request entities e =
    let p = same_truth c.in_ok-request.request request c.in_ok-request.left.now (encode_bool entities) (sym c.in_ok-request.ensures ∙ e) in
    absurd (c.in_err-entities.ensures.1 entities [] (p.1 ∙ sym (append-nil (encode_bool entities))))

pub returns : goal.returns
returns c request entities e =
    let p = same_truth c.in_ok-request.request request c.in_ok-request.left.now (encode_bool entities) (sym c.in_ok-request.ensures ∙ e) in
    let q = same_truth c.in_ok-entities.entities entities c.in_ok-entities.left.now [] (sym c.in_ok-entities.ensures ∙ p.1 ∙ sym (append-nil (encode_bool entities))) in
    let one : c.if-request.push_str.now ≡ cond c.in_ok-request.request (codes "; request fits") (codes "; request does not fit") =
    elim c.if-request.branch [ then-request w ↦ search rules | else-request w ↦ search rules ] in
    let two : c.if-entities.push_str.now ≡ cond c.in_ok-entities.entities (codes "; entities fit") (codes "; entities do not fit") =
    elim c.if-entities.branch [ then-entities w ↦ search rules | else-entities w ↦ search rules ] in
    two-last (string_bytes c.args.line.now) (string_bytes c.push_str.new.self) (string_bytes c.push_str-2.new.self) c.if-request.push_str.now c.if-entities.push_str.now
    c.in_ok-request.request c.in_ok-entities.entities request entities (codes "; request fits") (codes "; request does not fit") (codes "; entities fit") (codes "; entities do not fit")
    c.in_ok-push_str.ensures.bytes c.in_ok-push_str-2.ensures.bytes one two p.0 q.0
