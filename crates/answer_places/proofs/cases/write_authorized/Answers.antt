-- A byte, the decision, two lists and two bytes.
use Rattle.std.proofs.Common.{◌≡◌, ℕ, ◌+◌, ◌≤◌, List, [], ◌∷◌, ◌++◌, length, ap, subst, append_assoc, arith}
use Rattle.std.proofs.lemmas.List.{length-append}
use Rattle.spec.specs.Bytes.{encode_text, encode_list, encode_bool, decision_number}
use Rattle.values.specs.Memory.{numbers}
use Rattle.answers.specs.Code.{decision_of}
use Rattle.answers.specs.Put.{Wrote, Put}
use Rattle.answers.proofs.Writes.{wrote-more, put-last}
use Rattle.answer_places.specs.Code.{ids_at}
use Rattle.answer_places.proofs.cases.write_authorized.Goals as goal

pub returns : goal.returns
returns c =
    let m : List ℕ = numbers c.args.memory.now in
    let out = c.args.out.now in
    let decision = decision_number (decision_of c.args.response.decision) in
    let reasons = encode_list encode_text (ids_at m c.args.response.reasons) in
    let errors = encode_list encode_text (ids_at m c.args.response.errors) in
    let flags = encode_bool c.args.request_fits ++ encode_bool c.args.entities_fit in
    let begun = c.write_decision.new.out in
    let middle = c.set_ids-middle.new.out in
    let later = c.set_ids-end.new.out in
    let first : Wrote out 0 (4 ∷ (decision ∷ [])) c.in_ok-begun.begun begun = c.in_ok-begun.ensures in
    let lists : Wrote begun c.in_ok-begun.begun (reasons ++ errors) c.set_ids-end.result later = wrote-more begun middle later c.in_ok-begun.begun reasons errors c.set_ids-middle.result c.set_ids-end.result c.set_ids-middle.ensures c.set_ids-end.ensures in
    let all : Wrote out 0 (4 ∷ (decision ∷ (reasons ++ errors))) c.set_ids-end.result later = wrote-more out begun later 0 (4 ∷ (decision ∷ [])) (reasons ++ errors) c.in_ok-begun.begun c.set_ids-end.result first lists in
    let long : length (reasons ++ errors) ≡ length reasons + length errors = length-append reasons errors in
    let room : c.set_ids-end.result + 2 ≤ length later = omega (arith, c.in_ok-behind_reasons.ensures, c.in_ok-behind_errors.ensures, all.ends) in
    subst (λ bs. Put out 0 bs c.put_flags.result c.put_flags.new.out) (ap (λ q. 4 ∷ (decision ∷ q)) (append_assoc reasons errors flags))
    (put-last out later c.put_flags.new.out 0 (4 ∷ (decision ∷ (reasons ++ errors))) flags c.set_ids-end.result c.put_flags.result all c.put_flags.ensures room)
