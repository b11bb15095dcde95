-- By exchanges of two members, and these by neighbours.
use Rattle.cbor_det.proofs.Orders.{order_free}
use Rattle.cbor_det.proofs.laws.members_come_in_any_order.Goals as goal

pub returns : goal.returns
returns c = record { order = order_free }
