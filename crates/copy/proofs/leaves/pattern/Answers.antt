use Rattle.std.proofs.Common.{◌≡◌, ◌+◌, ◌-◌, ◌*◌, ◌<◌, ◌≤◌, ◌∷◌, length, get_or, take, drop, set, sym, ap, ◌∙◌, arith}
use Rattle.std.proofs.lemmas.List.{get_or-take, get_or-drop, ext_get_or}
use Rattle.spec.specs.Values.{code_text}
use Rattle.copy.specs.Writing.{written}
use Rattle.copy.proofs.Writes.{written-part, written-before, is-after}
use Rattle.copy.proofs.There.{pattern-long, pattern-there}
use Rattle.copy.proofs.leaves.pattern.Goals as goal

pub word-long-requires : goal.word-long-requires
word-long-requires c = pattern-long c.args.bytes.now c.args.from.end _ _ c.requires.inside c.requires.room.is

pub overflow_mul-end : goal.overflow_mul-end
overflow_mul-end c = omega (arith, (pattern-there c.args.bytes.now c.args.from.end _ _ _ c.word-long.ensures c.requires.inside c.requires.room.is).1.ends)

pub overflow_add-end : goal.overflow_add-end
overflow_add-end c = omega (arith, (pattern-there c.args.bytes.now c.args.from.end _ _ _ c.word-long.ensures c.requires.inside c.requires.room.is).1.ends)

pub overflow_add-to-2 : goal.overflow_add-to-2
overflow_add-to-2 c = omega (arith, (pattern-there c.args.bytes.now c.args.from.end _ _ _ c.word-long.ensures c.requires.inside c.requires.room.is).1.many, c.requires.room.fits)

pub slice_bounds-widen_pairs-end : goal.slice_bounds-widen_pairs-end
slice_bounds-widen_pairs-end c = (pattern-there c.args.bytes.now c.args.from.end _ _ _ c.word-long.ensures c.requires.inside c.requires.room.is).1.ends

pub slice_bounds-widen_pairs-end-2 : goal.slice_bounds-widen_pairs-end-2
slice_bounds-widen_pairs-end-2 c =
    let w = pattern-there c.args.bytes.now c.args.from.end _ _ _ c.word-long.ensures c.requires.inside c.requires.room.is in
    let h : c.args.from.to + 1 + c.word-long.result ≤ length c.args.rows.now = omega (arith, w.1.many, c.requires.room.fits) in
    h

pub returns : goal.returns
returns c =
    let room = c.requires.room in
    let bs = c.args.bytes.now in
    let xs = c.args.rows.now in
    let to = c.args.from.to in
    let at = c.args.from.end in
    let L = c.word-long.result in
    let w = pattern-there bs at _ _ _ c.word-long.ensures c.requires.inside room.is in
    let run = take (at + 8 + 2 * L - (at + 8)) (drop (at + 8) bs) in
    let long : length c.widen_pairs.new.rows ≡ L = omega (arith, c.widen_pairs.auto.rows) in
    let numbers : c.widen_pairs.new.rows ≡ room.what = ext_get_or 0 c.widen_pairs.new.rows room.what (omega (arith, long, w.1.many)) (λ i h.
    let a : 2 * i < at + 8 + 2 * L - (at + 8) = omega (arith, long) in
    let b : 2 * i + 1 < at + 8 + 2 * L - (at + 8) = omega (arith, long) in
    let p = get_or-take _ (drop (at + 8) bs) (2 * i) 0 a ∙ get_or-drop (at + 8) bs (2 * i) 0 in
    let j : at + 8 + (2 * i + 1) ≡ at + 8 + 2 * i + 1 = omega arith in
    let q = get_or-take _ (drop (at + 8) bs) (2 * i + 1) 0 b ∙ get_or-drop (at + 8) bs (2 * i + 1) 0 ∙ ap (λ k. get_or bs k 0) j in
    omega (arith, c.widen_pairs.ensures i h, p, q, w.1.each i (omega (arith, long)))) in
    record {
      reads = is-after code_text xs _ to at (record { end = at + 8 + 2 * L; to = to + 1 + L }) _ room.what room.long room.is (record {
        rows = ap (λ zs. set zs to L) (written-part xs (to + 1) _ c.widen_pairs.new.rows (omega (arith, long)) ∙ ap (λ t. written xs (to + 1) t) numbers)
            ∙ written-before xs to room.what L (omega (arith, room.fits)) ∙ ap (λ n. written xs to (n ∷ room.what)) (sym w.1.many);
        ends = omega (arith, w.0);
        goes = omega (arith, w.1.many);
      });
      inside = record { forth = omega arith; ends = w.1.ends; on = omega arith; fits = omega (arith, room.fits, w.1.many) };
    }
