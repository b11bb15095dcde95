-- Payload, evidence, and the processes and other resources in them: RFC 9393, section 2.9.
use Rattle.std.specs.Prelude.{[], ◌∷◌}
use Rattle.cbor_det.specs.Term.{Term, integer, text}
use Rattle.coswid_res.specs.declared.resources.evidence.Evidence.{Evidence}
use Rattle.coswid_res.specs.declared.resources.payload.Payload.{Payload}
use Rattle.coswid_res.specs.declared.resources.process.ProcessEntry.{ProcessEntry}
use Rattle.coswid_res.specs.declared.resources.resource.ResourceEntry.{ResourceEntry}
use Rattle.coswid_res.specs.Columns.{Table, required, optional, MapOf, map_of, maps_of}
use Rattle.coswid_res.specs.Directories.{DirectoryMap}
use Rattle.coswid_res.specs.DirectoryItems.{directories_item}
use Rattle.coswid_res.specs.Files.{file_table}
use Rattle.coswid_res.specs.Items.{time_item}
use Rattle.coswid_res.specs.Keys as keys
use Rattle.coswid_res.specs.Words.{Text, Integer, Time, OneOrMore}

-- Section 2.9.2.
abbrev pub process_table : Table ProcessEntry
process_table = record {
  columns =
      required keys.process_name Text text (λ p. p.process_name)
      ∷ optional keys.pid Integer integer (λ p. p.pid)
      ∷ [];
  extras = λ p. p.extras;
}

abbrev pub resource_table : Table ResourceEntry
resource_table = record {
  columns = required keys.resource_type Text text (λ r. r.resource_type) ∷ [];
  extras = λ r. r.extras;
}

-- Section 2.9.3.
abbrev pub payload_table : Table Payload
payload_table = record {
  columns =
      optional keys.directory (OneOrMore DirectoryMap) directories_item (λ p. p.directory)
      ∷ optional keys.file (OneOrMore (MapOf file_table)) (maps_of file_table) (λ p. p.file)
      ∷ optional keys.process (OneOrMore (MapOf process_table)) (maps_of process_table) (λ p. p.process)
      ∷ optional keys.resource (OneOrMore (MapOf resource_table)) (maps_of resource_table) (λ p. p.resource)
      ∷ [];
  extras = λ p. p.extras;
}

abbrev pub PayloadMap : Payload → Term → Type 0
PayloadMap = MapOf payload_table

abbrev pub payload_item : Payload → Term
payload_item = map_of payload_table

-- Section 2.9.4.
abbrev pub evidence_table : Table Evidence
evidence_table = record {
  columns =
      optional keys.directory (OneOrMore DirectoryMap) directories_item (λ e. e.directory)
      ∷ optional keys.file (OneOrMore (MapOf file_table)) (maps_of file_table) (λ e. e.file)
      ∷ optional keys.process (OneOrMore (MapOf process_table)) (maps_of process_table) (λ e. e.process)
      ∷ optional keys.resource (OneOrMore (MapOf resource_table)) (maps_of resource_table) (λ e. e.resource)
      ∷ optional keys.location Text text (λ e. e.location)
      ∷ optional keys.date Time time_item (λ e. e.date)
      ∷ optional keys.device_id Text text (λ e. e.device_id)
      ∷ [];
  extras = λ e. e.extras;
}

abbrev pub EvidenceMap : Evidence → Term → Type 0
EvidenceMap = MapOf evidence_table

abbrev pub evidence_item : Evidence → Term
evidence_item = map_of evidence_table
