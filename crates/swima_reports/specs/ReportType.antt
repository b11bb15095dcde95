-- The types of the attributes that carry reports (RFC 8412, section 5.2).
use Rattle.std.specs.Prelude.{◌≤◌, ℕ}
use Rattle.swima_model.specs.declared.report.Kind.TheVariants.{Ids, Full}
use Rattle.swima_model.specs.declared.report.Report.{Report}
use Rattle.swima_model.specs.declared.report.Report.TheVariants.{Inventory, Events}

-- Software Identifier Inventory, Software Identifier Events, Software Inventory and Software
-- Events.
abbrev pub SOFTWARE_IDENTIFIER_INVENTORY : ℕ
SOFTWARE_IDENTIFIER_INVENTORY = 14

abbrev pub SOFTWARE_IDENTIFIER_EVENTS : ℕ
SOFTWARE_IDENTIFIER_EVENTS = 15

abbrev pub SOFTWARE_INVENTORY : ℕ
SOFTWARE_INVENTORY = 16

abbrev pub SOFTWARE_EVENTS : ℕ
SOFTWARE_EVENTS = 17

-- The type is one of these.
abbrev pub IsReportType : ℕ → Type 0
IsReportType attr_type = (SOFTWARE_IDENTIFIER_INVENTORY ≤ attr_type) × (attr_type ≤ SOFTWARE_EVENTS)

-- The type of the attribute that carries a report.
abbrev pub report_type : Report → ℕ
report_type (Inventory Ids fulfil id point records) = SOFTWARE_IDENTIFIER_INVENTORY
report_type (Inventory Full fulfil id point records) = SOFTWARE_INVENTORY
report_type (Events Ids fulfil id point consulted events) = SOFTWARE_IDENTIFIER_EVENTS
report_type (Events Full fulfil id point consulted events) = SOFTWARE_EVENTS
