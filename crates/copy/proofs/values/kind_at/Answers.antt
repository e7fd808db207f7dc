use Rattle.std.proofs.Common.{arith}
use Rattle.reader.proofs.Stood.{got-is}
use Rattle.copy.proofs.ValueForms.{value_there, few-forms}
use Rattle.copy.proofs.values.kind_at.Goals as goal

pub bounds-bytes-at : goal.bounds-bytes-at
bounds-bytes-at c = let w = got-is _ c.requires.1 in (value_there c.args.bytes.now c.args.at _ _ _ w.2).inside

pub unreachable-requires : goal.unreachable-requires
unreachable-requires c =
    let w = got-is _ c.requires.1 in
    let few = few-forms c.args.bytes.now c.args.at _ _ _ (value_there c.args.bytes.now c.args.at _ _ _ w.2) in
    omega (arith, c.in_default.ensures)
