use Rattle.wire.proofs.Order.{byte-order}
use Rattle.wire.proofs.byte_order.Goals as goal

pub returns : goal.returns
returns c = byte-order
