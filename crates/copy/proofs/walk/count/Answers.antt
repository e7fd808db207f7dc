use Rattle.std.proofs.Common.{◌+◌, refl, ap, ◌∙◌, arith}
use Rattle.reader.specs.Ends.{ending}
use Rattle.reader.proofs.Stood.{got-is, is-got}
use Rattle.copy.proofs.Parts.{none_yet, byte-there, step, part-more, all-counted}
use Rattle.copy.proofs.walk.count.Goals as goal

pub loop-end-init : goal.loop-end-init
loop-end-init c =
    let w = got-is _ c.requires in
    let p = none_yet _ c.args.bytes.now c.args.at w.0 w.1 w.2 in
    (p, (byte-there _ c.args.bytes.now c.args.at c.args.at p).0, omega arith, refl)

pub fields_end-end-requires-clause-stands : goal.fields_end-end-requires-clause-stands
fields_end-end-requires-clause-stands c =
    let s = step _ c.args.bytes.now c.args.at c.loop-end.end c.loop-end.invariant.0 c.loop-end-test.true in
    is-got _ s.one s.takes s.is

pub loop-end-preserved : goal.loop-end-preserved
loop-end-preserved c =
    let v = c.loop-end.invariant in
    let s = step _ c.args.bytes.now c.args.at c.loop-end.end v.0 c.loop-end-test.true in
    let q = part-more _ c.args.bytes.now c.args.at c.loop-end.end c.loop-end.count c.fields_end-end.result v.0 s v.2 v.3 (c.fields_end-end.ensures.is ∙ ap (λ R. ending (c.loop-end.end + 1) R) s.is) in
    (q.0, (byte-there _ c.args.bytes.now c.args.at c.fields_end-end.result q.0).0, q.1, q.2)

pub returns : goal.returns
returns c =
    let v = c.loop-end.invariant in
    all-counted _ c.args.bytes.now c.args.at c.loop-end.end c.loop-end.count v.0 ((byte-there _ c.args.bytes.now c.args.at c.loop-end.end v.0).1 c.loop-end-test.false) v.3
