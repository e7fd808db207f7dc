-- A 1, and then the text.
use Rattle.std.proofs.Common.{rules}
use Rattle.answers.proofs.Writes.{wrote_behind}
use Rattle.answers.proofs.pieces.put_item.Goals as goal

pub returns : goal.returns
returns g c =
    wrote_behind c.args.out.now c.in_ok-out.field-0-0.now c.in_ok-room.room.now c.put_text.new.out _ c.args.at c.in_ok-room.mark.now 1 c.in_ok-long.long (search rules) (search rules) c.in_ok-long.ensures
