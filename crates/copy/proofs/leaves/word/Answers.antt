use Rattle.std.proofs.Common.{◌+◌, [], ◌∷◌, drop, sym, ap, ◌∙◌, arith}
use Rattle.std.proofs.lemmas.List.{length-drop}
use Rattle.copy.specs.Writing.{written}
use Rattle.copy.proofs.Writes.{written_one, is-after}
use Rattle.copy.proofs.There.{word-there}
use Rattle.copy.proofs.leaves.word.Goals as goal

pub word-requires : goal.word-requires
word-requires c = omega (arith, word-there (drop c.args.from.end c.args.bytes.now) _ _ c.requires.room.is, length-drop c.args.from.end c.args.bytes.now)

pub returns : goal.returns
returns c =
    let room = c.requires.room in
    let w = word-there (drop c.args.from.end c.args.bytes.now) _ _ room.is in
    let l = length-drop c.args.from.end c.args.bytes.now in
    record {
      reads = is-after (λ n. n ∷ []) c.args.rows.now _ c.args.from.to c.args.from.end (record { end = c.args.from.end + 8; to = c.args.from.to + 1 }) _ room.what room.long room.is (record {
        rows = written_one c.args.rows.now c.args.from.to _ (omega (arith, room.fits)) ∙ ap (λ q. written c.args.rows.now c.args.from.to (q ∷ [])) (c.word.ensures ∙ sym w.1);
        ends = omega (arith, w.2);
        goes = omega arith;
      });
      inside = record { forth = omega arith; ends = omega (arith, w.0, l); on = omega arith; fits = omega (arith, room.fits) };
    }
