-- A text is UTF-8.
use Rattle.cbor_det.proofs.Strings.{text_is, text_not}
use Rattle.cbor_det.proofs.string.text_of.Goals as goal

pub returns-in-Ok : goal.returns-in-Ok
returns-in-Ok c = record { text = text_is c.in-Ok.text c.into_vec.result c.args.octets _ c.in-Ok.ensures.ok c.into_vec.ensures.items c.from_string.ensures.octets }

pub returns : goal.returns
returns c = record { text = text_not c.into_vec.result c.args.octets c.in-Err.ensures.succeeds c.into_vec.ensures.items }
