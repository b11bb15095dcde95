-- The same layouts read field by field, in the order of the figures of RFC 8412, sections 5.7 to
-- 5.10: they give the report, or the place of the first fault. Where what a length counts does not
-- fit, or is too long, that is the length.
use Rattle.std.specs.Prelude.{◌==◌, ℕ, List, [], length, nat_le, if◌then◌else◌}
use Rattle.wire_base.specs.Layout.{is_set}
use Rattle.wire_base.specs.Reading.{Reader, ◌>>=◌, done, octets, number, counted, meaning, if_so, several, at_end}
use Rattle.wire_base.specs.Stamp.{is_stamp}
use Rattle.swima_model.specs.declared.event.Event.{Event}
use Rattle.swima_model.specs.declared.record.Record.{Record}
use Rattle.swima_model.specs.declared.report.Kind.{Kind}
use Rattle.swima_model.specs.declared.report.Kind.TheVariants.{Ids, Full}
use Rattle.swima_model.specs.declared.report.Report.{Report}
use Rattle.swima_model.specs.declared.report.Report.TheVariants.{Inventory, Events}
use Rattle.swima_reports.specs.declared.entry.Origin.{Origin}
use Rattle.swima_reports.specs.declared.entry.Software.{Software}
use Rattle.swima_reports.specs.ActionNumber.{action_of}
use Rattle.swima_reports.specs.ReportForm.{FULFIL, MOST_BODY_OCTETS}
use Rattle.swima_reports.specs.ReportType.{SOFTWARE_IDENTIFIER_INVENTORY, SOFTWARE_IDENTIFIER_EVENTS, SOFTWARE_INVENTORY}

-- The body of a record.
unfoldable pub read_body : Kind → Reader (List ℕ)
read_body Ids = done []
read_body Full = meaning (if_so (λ body. nat_le (length body) MOST_BODY_OCTETS)) (counted 4)

-- What a record begins with: its identifier, the data model of its body and its source.
unfoldable pub read_origin : Reader Origin
read_origin = do
  id ← number 4
  pen ← number 3
  model ← number 1
  source ← number 1
  done (record { id = id; model = record { pen = pen; kind = model }; source = source })

-- What a record ends with: the software identifier, the locator and the body.
unfoldable pub read_software : Kind → Reader Software
read_software kind = do
  ident ← counted 2
  locator ← counted 2
  body ← read_body kind
  done (record { ident = ident; locator = locator; body = body })

-- The record that is made of both.
abbrev pub record_from : Origin → Software → Record
record_from origin software = record {
  id = origin.id;
  content = record { model = origin.model; source = origin.source; ident = software.ident; locator = software.locator; body = software.body };
}

-- A record.
unfoldable pub read_record : Kind → Reader Record
read_record kind = do
  origin ← read_origin
  reserved ← octets 1
  software ← read_software kind
  done (record_from origin software)

-- An event, with its action in place of the reserved octet.
unfoldable pub read_event : Kind → Reader Event
read_event kind = do
  eid ← number 4
  stamp ← meaning (if_so is_stamp) (octets 20)
  origin ← read_origin
  action ← meaning action_of (number 1)
  software ← read_software kind
  done (record { eid = eid; stamp = stamp; action = action; subject = record_from origin software })

-- An inventory, after which nothing is left.
unfoldable pub read_inventory : Kind → Reader Report
read_inventory kind = do
  flags ← number 1
  count ← number 3
  id ← number 4
  epoch ← number 4
  eid ← number 4
  records ← several count (read_record kind)
  at_end (Inventory kind (is_set flags FULFIL) id (record { epoch = epoch; eid = eid }) records)

-- Events, after which nothing is left.
unfoldable pub read_events : Kind → Reader Report
read_events kind = do
  flags ← number 1
  count ← number 3
  id ← number 4
  epoch ← number 4
  eid ← number 4
  consulted ← meaning (if_so (λ consulted. nat_le consulted eid)) (number 4)
  events ← several count (read_event kind)
  at_end (Events kind (is_set flags FULFIL) id (record { epoch = epoch; eid = eid }) consulted events)

-- The report that the value of an attribute of the type carries, which is one of the four.
abbrev pub read_report : ℕ → Reader Report
read_report attr_type =
    if attr_type == SOFTWARE_IDENTIFIER_INVENTORY then read_inventory Ids
    else if attr_type == SOFTWARE_IDENTIFIER_EVENTS then read_events Ids
    else if attr_type == SOFTWARE_INVENTORY then read_inventory Full
    else read_events Full
