-- When a mirror is right over a history of epochs and events (RFC 8412, section 3.7.1). What is
-- right is our own to say.
use Rattle.std.specs.Prelude.{◌≡◌, List, [], Option, Some, None}
use Rattle.swima_model.specs.declared.record.Record.{Record}
use Rattle.swima_model.specs.declared.report.Kind.{Kind}
use Rattle.swima_model.specs.declared.report.Point.{Point}
use Rattle.swima_model.specs.declared.report.Report.{Report}
use Rattle.swima_model.specs.History.{History, IsHonest, LiesIn, Answers, live_at}
use Rattle.validator_core.specs.declared.mirror.Taken.{Taken}
use Rattle.validator_core.specs.declared.mirror.Taken.TheVariants as taken
use Rattle.validator_core.specs.Held.{Held}

-- Records that are held at a point are those that the history has live there, as reports of the
-- kind carry them; without a point there are none.
abbrev pub RightAt : History → Kind → List Record → Option Point → Type 0
RightAt history kind records None = records ≡ []
RightAt history kind records (Some point) = LiesIn history point (λ epoch. records ≡ live_at epoch point.eid kind)

-- The mirror holds exactly what the history has live at the mirror's point.
abbrev pub IsRight : History → Held → Type 0
IsRight history mirror = RightAt history mirror.kind mirror.records mirror.point

-- The answer says nothing against the report itself.
abbrev pub BlamesNot : Taken → Type 0
BlamesNot (taken.Doubled id) = ⊥
BlamesNot (taken.Large count octets) = ⊥
BlamesNot (taken.Contradiction eid) = ⊥
BlamesNot answer = Unit {0}

-- A mirror that is right over an honest history is right after each report that answers from it,
-- and says nothing against that.
abbrev pub StaysRight : Held → Report → Taken → Held → Type 0
StaysRight before report answer after = (history : History) → IsHonest history → IsRight history before → Answers history report
    → IsRight history after × BlamesNot answer
