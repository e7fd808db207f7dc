use Rattle.std.proofs.Common.{◌+◌, [], ◌∷◌, set, sym, ap, ◌∙◌, arith}
use Rattle.rows.specs.Rows.{value_tag}
use Rattle.reader.proofs.Stood.{got-is}
use Rattle.copy.specs.Writing.{written}
use Rattle.copy.proofs.Writes.{written_one, written-push}
use Rattle.copy.proofs.ValueForms.{value_there, tag_is}
use Rattle.copy.proofs.values.slot.Goals as goal

pub bounds-bytes-at : goal.bounds-bytes-at
bounds-bytes-at c = let w = got-is _ c.requires.stands.1 in (value_there c.args.bytes.now c.args.at _ _ _ w.2).inside

pub returns : goal.returns
returns c h v n e =
    let xs = c.args.rows.now in
    let entry = c.args.place in
    ap (λ q. set q (entry + 1) c.payload_at.result) (written_one xs entry c.from.result (omega arith))
    ∙ written-push xs entry (c.from.result ∷ []) (entry + 1) c.payload_at.result (omega arith) (omega arith)
    ∙ ap (λ q. written xs entry (q ∷ (c.payload_at.result ∷ []))) (c.from.ensures ∙ sym (tag_is c.args.bytes.now c.args.at h v n (value_there c.args.bytes.now c.args.at h v n e)))
    ∙ ap (λ q. written xs entry (value_tag v ∷ (q ∷ []))) (c.payload_at.ensures h v n e)
