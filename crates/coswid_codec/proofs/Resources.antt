-- Payload, evidence, and the processes and other resources in them: RFC 9393, section 2.9.
use Rattle.std.proofs.Common.{refl}
use Rattle.cbor_det.specs.declared.item.Pairs as code
use Rattle.coswid_res.specs.Columns.{Values, MapOf, maps_of, ◌⨾◌}
use Rattle.coswid_res.specs.Resources.{process_table, resource_table, payload_table, PayloadMap, payload_item, evidence_table, EvidenceMap, evidence_item}
use Rattle.coswid_res.specs.Schema as schema
use Rattle.coswid_res.specs.Schema.{one, one_or_more, a_map}
use Rattle.coswid_res.specs.Words.{OneOrMore}
use Rattle.coswid_res.specs.declared.resources.evidence.Evidence.{Evidence}
use Rattle.coswid_res.specs.declared.resources.payload.Payload.{Payload}
use Rattle.coswid_res.specs.declared.resources.process.ProcessEntry.{ProcessEntry}
use Rattle.coswid_res.specs.declared.resources.resource.ResourceEntry.{ResourceEntry}
use Rattle.coswid_codec.proofs.Columns.{Laws, known, one_by, several_by}
use Rattle.coswid_codec.proofs.Directories.{directories_law}
use Rattle.coswid_codec.proofs.Files.{files_law}
use Rattle.coswid_codec.proofs.Lawful.{Lawful}
use Rattle.coswid_codec.proofs.Plain.{integer_law, text_law, time_law}

abbrev process_laws : Laws process_table.columns
process_laws = known text_law ⨾ known integer_law ⨾ tt

abbrev make_process : Values process_table.columns → code.Pairs → ProcessEntry
make_process (process_name, (pid, none)) extras = record { process_name = process_name; pid = pid; extras = extras }

pub processes_law : Lawful (one_or_more (a_map schema.process)) (OneOrMore (MapOf process_table)) (maps_of process_table) 0
processes_law = several_by schema.process process_table 0 process_laws make_process refl refl (λ p. refl) (λ vs xs. (refl, refl))

abbrev resource_laws : Laws resource_table.columns
resource_laws = known text_law ⨾ tt

abbrev make_resource : Values resource_table.columns → code.Pairs → ResourceEntry
make_resource (resource_type, none) extras = record { resource_type = resource_type; extras = extras }

pub resources_law : Lawful (one_or_more (a_map schema.resource)) (OneOrMore (MapOf resource_table)) (maps_of resource_table) 0
resources_law = several_by schema.resource resource_table 0 resource_laws make_resource refl refl (λ r. refl) (λ vs xs. (refl, refl))

abbrev payload_laws : Laws payload_table.columns
payload_laws = known directories_law ⨾ known files_law ⨾ known processes_law ⨾ known resources_law ⨾ tt

abbrev make_payload : Values payload_table.columns → code.Pairs → Payload
make_payload (directory, (file, (process, (resource, none)))) extras = record { directory = directory; file = file; process = process; resource = resource; extras = extras }

pub payload_law : Lawful (one (a_map schema.payload)) PayloadMap payload_item 0
payload_law = one_by schema.payload payload_table 0 payload_laws make_payload refl refl (λ p. refl) (λ vs xs. (refl, refl))

abbrev evidence_laws : Laws evidence_table.columns
evidence_laws = known directories_law ⨾ known files_law ⨾ known processes_law ⨾ known resources_law ⨾ known text_law ⨾ known time_law ⨾ known text_law ⨾ tt

abbrev make_evidence : Values evidence_table.columns → code.Pairs → Evidence
make_evidence (directory, (file, (process, (resource, (location, (date, (device_id, none))))))) extras = record { directory = directory; file = file; process = process; resource = resource; location = location; date = date; device_id = device_id; extras = extras }

pub evidence_law : Lawful (one (a_map schema.evidence)) EvidenceMap evidence_item 3
evidence_law = one_by schema.evidence evidence_table 2 evidence_laws make_evidence refl refl (λ e. refl) (λ vs xs. (refl, refl))
