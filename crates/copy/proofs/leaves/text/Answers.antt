use Rattle.std.proofs.Common.{◌≡◌, ◌+◌, ◌≤◌, ◌∷◌, length, take, drop, set, sym, ap, ◌∙◌, arith}
use Rattle.spec.specs.Values.{code_text}
use Rattle.copy.specs.Writing.{written}
use Rattle.copy.proofs.Writes.{written-part, written-before, is-after}
use Rattle.copy.proofs.There.{text-long, text-there}
use Rattle.copy.proofs.leaves.text.Goals as goal

pub word-long-requires : goal.word-long-requires
word-long-requires c = text-long c.args.bytes.now c.args.from.end _ _ c.requires.inside c.requires.room.is

pub overflow_add-end : goal.overflow_add-end
overflow_add-end c = omega (arith, text-there c.args.bytes.now c.args.from.end _ _ _ c.word-long.ensures c.requires.inside c.requires.room.is)

pub overflow_add-to-2 : goal.overflow_add-to-2
overflow_add-to-2 c = omega (arith, text-there c.args.bytes.now c.args.from.end _ _ _ c.word-long.ensures c.requires.inside c.requires.room.is, c.requires.room.fits)

pub slice_bounds-widen-end : goal.slice_bounds-widen-end
slice_bounds-widen-end c = (text-there c.args.bytes.now c.args.from.end _ _ _ c.word-long.ensures c.requires.inside c.requires.room.is).ends

pub slice_bounds-widen-end-2 : goal.slice_bounds-widen-end-2
slice_bounds-widen-end-2 c =
    let w = text-there c.args.bytes.now c.args.from.end _ _ _ c.word-long.ensures c.requires.inside c.requires.room.is in
    let h : c.args.from.to + 1 + c.word-long.result ≤ length c.args.rows.now = omega (arith, w.long, c.requires.room.fits) in
    h

pub returns : goal.returns
returns c =
    let room = c.requires.room in
    let xs = c.args.rows.now in
    let to = c.args.from.to in
    let at = c.args.from.end in
    let L = c.word-long.result in
    let w = text-there c.args.bytes.now at _ _ _ c.word-long.ensures c.requires.inside room.is in
    let bytes : c.widen.new.rows ≡ room.what = c.widen.ensures ∙ ap (λ n. take n (drop (at + 8) c.args.bytes.now)) (omega arith) ∙ sym w.is in
    record {
      reads = is-after code_text xs _ to at (record { end = at + 8 + L; to = to + 1 + L }) _ room.what room.long room.is (record {
        rows = ap (λ zs. set zs to L) (written-part xs (to + 1) _ c.widen.new.rows (omega (arith, ap length bytes, w.long)) ∙ ap (λ t. written xs (to + 1) t) bytes)
            ∙ written-before xs to room.what L (omega (arith, room.fits)) ∙ ap (λ n. written xs to (n ∷ room.what)) (sym w.long);
        ends = omega (arith, w.takes);
        goes = omega (arith, w.long);
      });
      inside = record { forth = omega arith; ends = w.ends; on = omega arith; fits = omega (arith, room.fits, w.long) };
    }
