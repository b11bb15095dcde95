-- The lines that commands print. Numbers are decimal.
use Rattle.std.specs.Prelude.{◌-◌, ℕ, List, [], ◌∷◌, ◌++◌, Option, Some, None, length, take, drop, codes}
use Rattle.std.specs.List.{flat_map}
use Rattle.std.specs.Fmt.{decimal}
use Rattle.hex.specs.Hex.{encode_lower}
use Rattle.sha2.specs.Sha256.{sha256}
use Rattle.swima_model.specs.DataModel.{DataModel}
use Rattle.swima_model.specs.Reports.{point_in}
use Rattle.swima_model.specs.Size.{report_count}
use Rattle.swima_model.specs.declared.record.Content.{Content}
use Rattle.swima_model.specs.declared.record.Record.{Record}
use Rattle.swima_model.specs.declared.report.Kind.{Kind}
use Rattle.swima_model.specs.declared.report.Kind.TheVariants.{Ids, Full}
use Rattle.swima_model.specs.declared.report.Point.{Point}
use Rattle.swima_model.specs.declared.report.Report.{Report}
use Rattle.validator_core.specs.declared.mirror.Taken.{Taken}
use Rattle.validator_core.specs.declared.mirror.Taken.TheVariants as taken
use Rattle.validator_core.specs.Held.{Held}
use Rattle.wire_base.specs.Escaped.{escaped}

-- A line: words with one space between them, and a line feed.
abbrev pub line : List (List ℕ) → List ℕ
line [] = 10 ∷ []
line (word ∷ []) = word ++ 10 ∷ []
line (word ∷ next ∷ others) = word ++ 32 ∷ line (next ∷ others)

-- The epoch of a mirror, which may have none.
abbrev pub epoch_text : Option ℕ → List ℕ
epoch_text None = codes "none"
epoch_text (Some epoch) = decimal epoch

-- What a mirror answered to a report of that many records at a point, or of that many events.
abbrev pub took : Point → ℕ → Taken → List ℕ
took point count taken.WrongKind = line (codes "took" ∷ codes "wrong-kind" ∷ [])
took point count taken.Stale = line (codes "took" ∷ codes "stale" ∷ [])
took point count (taken.Doubled id) = line (codes "took" ∷ codes "doubled" ∷ decimal id ∷ [])
took point count (taken.Large records octets) = line (codes "took" ∷ codes "large" ∷ decimal records ∷ decimal octets ∷ [])
took point count taken.Adopted = line (codes "took" ∷ codes "adopted" ∷ decimal point.epoch ∷ decimal point.eid ∷ decimal count ∷ [])
took point count (taken.OtherEpoch have got) = line (codes "took" ∷ codes "other-epoch" ∷ epoch_text have ∷ decimal got ∷ [])
took point count (taken.Gap have got) = line (codes "took" ∷ codes "gap" ∷ decimal have ∷ decimal got ∷ [])
took point count (taken.Contradiction eid) = line (codes "took" ∷ codes "contradiction" ∷ decimal eid ∷ [])
took point count (taken.Advanced from to) = line (codes "took" ∷ codes "advanced" ∷ decimal from ∷ decimal to ∷ [])
took point count taken.Memory = []

-- What a mirror answered to a report.
abbrev pub took_line : Report → Taken → List ℕ
took_line report answer = took (point_in report) (report_count report) answer

-- The data model of a record.
abbrev pub model_text : DataModel → List ℕ
model_text model = decimal model.pen ++ codes "/" ++ decimal model.kind

-- The body of a record: in a mirror of identifiers a dash, else its length and its SHA-256 digest
-- (FIPS 180-4) in hexadecimal digits.
abbrev pub body_text : Kind → List ℕ → List ℕ
body_text Ids body = codes "-"
body_text Full body = decimal (length body) ++ codes ":" ++ encode_lower (sha256 body)

-- The words on a record's content, after that of its data model.
abbrev pub content_words : Kind → Content → List (List ℕ)
content_words kind content = decimal content.source ∷ escaped content.ident ∷ escaped content.locator ∷ body_text kind content.body ∷ []

-- A record of a mirror.
unfoldable pub record_line : Kind → Record → List ℕ
record_line kind r = line (codes "record" ∷ decimal r.id ∷ model_text r.content.model ∷ content_words kind r.content)

-- The first line of a mirror that holds that many records: the point at which they stood, or that
-- there is none yet.
abbrev pub mirror_head : Option Point → ℕ → List ℕ
mirror_head None count = line (codes "mirror" ∷ codes "none" ∷ [])
mirror_head (Some point) count = line (codes "mirror" ∷ decimal point.epoch ∷ decimal point.eid ∷ decimal count ∷ [])

-- The records of a mirror that have a line: all, or none where it has no point yet.
abbrev pub listed : Option Point → List Record → List Record
listed None records = []
listed (Some point) records = records

-- A mirror: its first line, and a line for each record that is listed.
abbrev pub mirror_text : Held → List ℕ
mirror_text mirror = mirror_head mirror.point (length mirror.records) ++ flat_map (record_line mirror.kind) (listed mirror.point mirror.records)

-- The lines of the records from place `start` up to `end`, which is left out.
abbrev pub lines_between : ℕ → ℕ → Held → List ℕ
lines_between start end mirror = flat_map (record_line mirror.kind) (take (end - start) (drop start mirror.records))

-- An attribute that was skipped.
abbrev pub skipped_line : ℕ → ℕ → List ℕ
skipped_line vendor attr_type = line (codes "skipped" ∷ decimal vendor ∷ decimal attr_type ∷ [])

-- A fault: the number of its error code, and its place in the input.
abbrev pub fault_line : ℕ → ℕ → List ℕ
fault_line code place = line (codes "fault" ∷ decimal code ∷ decimal place ∷ [])

-- Another refusal: a word, and a number.
abbrev pub refusal : List ℕ → ℕ → List ℕ
refusal word number = line (word ∷ decimal number ∷ [])
