-- What a report has to be, beside what its parts are by their types (RFC 8412, section 5.8).
use Rattle.std.specs.Prelude.{◌<◌, ◌≤◌, ◌^◌, ℕ, All}
use Rattle.wire_base.specs.Stamp.{IsStamp}
use Rattle.swima_model.specs.declared.event.Event.{Event}
use Rattle.swima_model.specs.declared.report.Point.{Point}
use Rattle.swima_model.specs.declared.report.Report.{Report}
use Rattle.swima_model.specs.declared.report.Report.TheVariants.{Inventory, Events}
use Rattle.swima_model.specs.Size.{report_count, report_size}

-- The point that a report names (sections 5.7 to 5.10, "Last EID").
abbrev pub point_in : Report → Point
point_in (Inventory kind fulfil id point records) = point
point_in (Events kind fulfil id point consulted events) = point

-- The time of each of its events is reported as a stamp (section 5.8, "Timestamp").
abbrev pub HasStamps : Report → Type 0
HasStamps (Inventory kind fulfil id point records) = Unit {0}
HasStamps (Events kind fulfil id point consulted events) = All (λ (e : Event). IsStamp e.stamp) events

-- The last event that was consulted is none after its point (section 5.8, "Last Consulted EID").
abbrev pub ConsultsWithin : Report → Type 0
ConsultsWithin (Inventory kind fulfil id point records) = Unit {0}
ConsultsWithin (Events kind fulfil id point consulted events) = consulted ≤ point.eid

-- The most octets of a report that is written.
abbrev pub MOST_REPORT_OCTETS : ℕ
MOST_REPORT_OCTETS = 16777000

-- The report fits the value of one attribute: three octets hold the number of its records or
-- events, and its octets are within the limit. Its times are stamps, and it consulted no event
-- after its point.
pub record FitsAttribute (report : Report) : Type 0 where
  pub count : report_count report < 2 ^ 24
  pub within : report_size report ≤ MOST_REPORT_OCTETS
  pub stamps : HasStamps report
  pub consulted : ConsultsWithin report
