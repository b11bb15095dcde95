-- The report that fulfils a subscription (RFC 8412, sections 5.7 to 5.10, "Flags").
use Rattle.std.specs.Prelude.{◌≡◌, ◌↔◌, true}
use Rattle.swima_model.specs.declared.report.Report.{Report}
use Rattle.swima_model.specs.declared.report.Report.TheVariants.{Inventory, Events}
use Rattle.swima_model.specs.Reports.{ConsultsWithin, FitsAttribute, HasStamps}
use Rattle.swima_model.specs.Size.{report_count, report_size}

-- The same report with the flag set that says that it fulfils a subscription.
abbrev pub fulfilling : Report → Report
fulfilling (Inventory kind fulfil id point records) = Inventory kind true id point records
fulfilling (Events kind fulfil id point consulted events) = Events kind true id point consulted events

-- One report has the size and the count of the other. It has stamps, and consults no event after
-- its point, exactly where the other does.
pub record AreAlike (one other : Report) : Type 0 where
  pub size : report_size one ≡ report_size other
  pub count : report_count one ≡ report_count other
  pub stamps : HasStamps one ↔ HasStamps other
  pub consulted : ConsultsWithin one ↔ ConsultsWithin other

-- The flag changes none of this, and what fits an attribute still does with the flag set.
abbrev pub FulfillingIsAlike : Type 0
FulfillingIsAlike = (report : Report) → AreAlike (fulfilling report) report × (FitsAttribute report → FitsAttribute (fulfilling report))
