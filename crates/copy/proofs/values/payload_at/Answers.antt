use Rattle.std.proofs.Common.{◌≤◌, get_or, sym, ap, ◌∙◌, ⊎_elim, arith}
use Rattle.reader.specs.Kinds.{byte_of}
use Rattle.reader.proofs.Stood.{got-is}
use Rattle.copy.proofs.ValueForms.{value_there, truth-held, number-held, offset-held}
use Rattle.copy.proofs.values.payload_at.Goals as goal

pub overflow_add-at : goal.overflow_add-at
overflow_add-at c = let w = got-is _ c.requires.1 in let l = (value_there c.args.bytes.now c.args.at _ _ _ w.2).inside in omega arith

pub bounds-bytes-at : goal.bounds-bytes-at
bounds-bytes-at c = let w = got-is _ c.requires.1 in (truth-held c.args.bytes.now c.args.at _ _ _ (value_there c.args.bytes.now c.args.at _ _ _ w.2) c.in-Bool.ensures).0

pub word-requires : goal.word-requires
word-requires c = let w = got-is _ c.requires.1 in (number-held c.args.bytes.now c.args.at _ _ _ (value_there c.args.bytes.now c.args.at _ _ _ w.2) c.in-Int.ensures).0

pub returns-in-Bool : goal.returns-in-Bool
returns-in-Bool c h v n e = c.from.ensures ∙ sym ((truth-held c.args.bytes.now c.args.at h v n (value_there c.args.bytes.now c.args.at h v n e) c.in-Bool.ensures).1 c.args.offset)

pub returns-in-Int : goal.returns-in-Int
returns-in-Int c h v n e = c.word.ensures ∙ sym ((number-held c.args.bytes.now c.args.at h v n (value_there c.args.bytes.now c.args.at h v n e) c.in-Int.ensures).1 c.args.offset)

pub returns-in-String : goal.returns-in-String
returns-in-String c h v n e =
    let two : 2 ≤ get_or c.args.bytes.now c.args.at 0 =
    ⊎_elim (λ q. omega (arith, c.kind_at.ensures, ap byte_of q)) (λ q. ⊎_elim (λ r. omega (arith, c.kind_at.ensures, ap byte_of r)) (λ r. ⊎_elim (λ s. omega (arith, c.kind_at.ensures, ap byte_of s)) (λ s. omega (arith, c.kind_at.ensures, ap byte_of s)) r) q) c.in-String.is in
    sym (offset-held c.args.bytes.now c.args.at h v n (value_there c.args.bytes.now c.args.at h v n e) (λ q. omega (arith, two, q)) (λ q. omega (arith, two, q)) c.args.offset)
