-- A byte, the id, and a byte.
use Rattle.std.proofs.Common.{rules}
use Rattle.answers.proofs.Writes.{wrote_around}
use Rattle.answers.proofs.write_not_valid.Goals as goal

pub returns : goal.returns
returns g c =
    rw c.from-2.ensures
    (wrote_around c.args.out.now c.in_ok-room.text.now c.set_text.new.room _ c.in_ok-room.room.now c.in_ok-out.kind.now 3 c.from.result _ _ (search rules) (search rules) c.set_text.ensures (search rules) c.from.ensures (search rules))
