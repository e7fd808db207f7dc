use Rattle.std.proofs.Common.{length, arith}
use Rattle.wire.specs.Grammar.{decode}
use Rattle.copy.proofs.BySize.{fits_scanned, was_scanned}
use Rattle.copy.proofs.tests.copied.Goals as goal

pub row-requires : goal.row-requires
row-requires c =
    record { call = was_scanned (decode c.args.bytes.now) c.in-Ok.call c.in-Ok.ensures; room = fits_scanned (decode c.args.bytes.now) c.in-Ok.call 0 (length c.args.rows.now) c.in-Ok.ensures (omega arith) }
