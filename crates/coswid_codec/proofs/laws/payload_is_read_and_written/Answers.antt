-- By the law of its form.
use Rattle.std.proofs.Common.{arith}
use Rattle.coswid_res.specs.Resources.{payload_item, PayloadMap}
use Rattle.coswid_res.specs.Schema.{one, a_map, payload}
use Rattle.coswid_codec.proofs.Lawful.{form_law}
use Rattle.coswid_codec.proofs.Resources.{payload_law}
use Rattle.coswid_codec.proofs.laws.payload_is_read_and_written.Goals as goal

pub returns : goal.returns
returns c = record { payload = form_law (one (a_map payload)) PayloadMap payload_item 0 0 (omega arith) payload_law }
