use Rattle.std.proofs.Common.{sym, ◌∙◌}
use Rattle.laws.proofs.Texts.{none-some}
use Rattle.copy.proofs.WholeCalls.{called}
use Rattle.copy.proofs.call_kind.Goals as goal

pub bounds-bytes-0 : goal.bounds-bytes-0
bounds-bytes-0 c = (called c.args.bytes.now c.requires).1.some_bytes

pub unreachable-requires : goal.unreachable-requires
unreachable-requires c = none-some (sym c.in_default.ensures ∙ (called c.args.bytes.now c.requires).1.byte)
