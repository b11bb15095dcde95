-- Whether the last report is partial, by the mirror's point.
use Rattle.std.specs.Prelude.{Bool, false, Option, Some, None}
use Rattle.swima_model.specs.declared.report.Point.{Point}
use Rattle.swima_model.specs.declared.report.Report.{Report}
use Rattle.swima_model.specs.declared.report.Report.TheVariants.{Inventory, Events}
use Rattle.session_rules.specs.FollowRules.{is_partial_at}

abbrev pub is_partial_of : Option Point → Option Report → Bool
is_partial_of held None = false
is_partial_of held (Some (Inventory kind fulfil id point records)) = false
is_partial_of held (Some (Events kind fulfil id point consulted events)) = is_partial_at held point consulted
