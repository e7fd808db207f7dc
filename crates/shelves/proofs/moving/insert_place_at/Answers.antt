use Rattle.std.proofs.Common.{◌+◌, ◌^◌, ◌<◌, ◌≤◌, arith}
use Rattle.shelves.proofs.Tables.{with-is, with-holds}
use Rattle.shelves.proofs.moving.insert_place_at.Goals as goal

pub raise-requires : goal.raise-requires
raise-requires c =
    with-holds c.args.table.now _ c.args.k c.args.gone c.args.count c.args.place _ c.resize.ensures c.requires.0 c.requires.1.0 c.requires.1.1.0 c.requires.1.1.1.0 (omega arith)
    (λ x. (c.args.old ≤ x) × (x + c.args.new < 2 ^ 64)) c.requires.1.1.1.1

pub returns : goal.returns
returns c =
    with-is c.args.table.now _ c.args.k c.args.gone c.args.count c.args.place _ c.resize.ensures c.requires.0 c.requires.1.0 c.requires.1.1.0 c.requires.1.1.1.0 (omega arith) _ c.args.old c.args.new c.raise.ensures
