-- By the law of its form.
use Rattle.std.proofs.Common.{arith}
use Rattle.coswid_res.specs.Resources.{evidence_item, EvidenceMap}
use Rattle.coswid_res.specs.Schema.{one, a_map, evidence}
use Rattle.coswid_codec.proofs.Lawful.{form_law}
use Rattle.coswid_codec.proofs.Resources.{evidence_law}
use Rattle.coswid_codec.proofs.laws.evidence_is_read_and_written.Goals as goal

pub returns : goal.returns
returns c = record { evidence = form_law (one (a_map evidence)) EvidenceMap evidence_item 3 3 (omega arith) evidence_law }
