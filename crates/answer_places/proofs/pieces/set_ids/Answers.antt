-- One id behind another, and then the end.
use Rattle.std.proofs.Common.{ℕ, ◌+◌, List, ◌∷◌, length, get_or, sym, ap, ◌∙◌, subst, arith}
use Rattle.spec.specs.Bytes.{encode_text}
use Rattle.values.specs.Memory.{numbers}
use Rattle.values.specs.Held.{text_at}
use Rattle.answers.specs.Put.{written, Wrote, Put}
use Rattle.answers.proofs.Writes.{placed, wrote-left, text-long}
use Rattle.answer_places.proofs.Lists.{bytes_from, id-there, from_first, from_next, next-long}
use Rattle.answer_places.proofs.pieces.set_ids.Goals as goal

pub loop-place-init : goal.loop-place-init
loop-place-init c =
    let first = from_first (numbers c.args.memory.now) c.args.ids in
    (ap (λ bs. c.args.start + length bs) first, ap (λ bs. written c.args.out.now c.args.start bs) first)

pub held-requires-clause-there : goal.held-requires-clause-there
held-requires-clause-there c = id-there (numbers c.args.memory.now) c.args.ids c.loop-place.place c.requires.there (omega arith) c.loop-place-test.true

pub unwrap-at-requires : goal.unwrap-at-requires
unwrap-at-requires c =
    let m : List ℕ = numbers c.args.memory.now in
    let next = next-long m c.args.ids c.loop-place.place c.requires.there (omega arith) c.loop-place-test.true in
    let text = text-long (text_at m (get_or m c.loop-place.place 0)) in
    let put = subst (λ t. Put c.loop-place.out c.loop-place.at (1 ∷ encode_text t) c.put_item.result c.put_item.new.out) c.held.ensures.is c.put_item.ensures in
    placed c.loop-place.out c.loop-place.at (1 ∷ encode_text (text_at m (get_or m c.loop-place.place 0))) c.put_item.result c.put_item.new.out put (omega (arith, c.loop-place.invariant.0))

pub loop-place-preserved : goal.loop-place-preserved
loop-place-preserved c =
    let m : List ℕ = numbers c.args.memory.now in
    let ids = c.args.ids in
    let place = c.loop-place.place in
    let out = c.loop-place.out in
    let at = c.loop-place.at in
    let new = c.put_item.new.out in
    let end = c.unwrap-at.result in
    let text = encode_text (text_at m (get_or m place 0)) in
    let put = subst (λ t. Put out at (1 ∷ encode_text t) c.put_item.result new) c.held.ensures.is c.put_item.ensures in
    let next = from_next m ids place c.requires.there (omega arith) c.loop-place-test.true in
    let size = next-long m ids place c.requires.there (omega arith) c.loop-place-test.true in
    let one : Wrote out at (1 ∷ text) end new = subst (λ r. Put out at (1 ∷ text) r new) c.unwrap-at.ensures put in
    let own = text-long (text_at m (get_or m place 0)) in
    (omega (arith, c.loop-place.invariant.0, one.ends), wrote-left out new at (1 ∷ text) (bytes_from m ids (place + 1)) end one ∙ ap (λ bs. written out at bs) (sym next) ∙ c.loop-place.invariant.1)
