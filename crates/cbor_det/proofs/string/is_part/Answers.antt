-- A text is UTF-8.
use Rattle.cbor_det.proofs.Strings.{part_true, part_false}
use Rattle.cbor_det.proofs.string.is_part.Goals as goal

pub returns-in-Ok : goal.returns-in-Ok
returns-in-Ok c = record { part = part_true c.args.kind c.args.octets.now c.in-TextString.is c.in-Ok.ensures.cases.1 }

pub returns-in-Err : goal.returns-in-Err
returns-in-Err c = record { part = part_false c.args.kind c.args.octets.now c.in-TextString.is c.in-Err.ensures.cases.0 }
