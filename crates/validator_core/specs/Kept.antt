-- What every report keeps, by the table of Judge.
use Rattle.std.specs.Prelude.{◌≡◌}
use Rattle.std.specs.List.Sorted.{IsStrictlyIncreasing}
use Rattle.swima_model.specs.declared.report.Report.{Report}
use Rattle.validator_core.specs.Held.{Held}
use Rattle.swima_model.specs.InOrder.{ids}
use Rattle.validator_core.specs.Judge.{judge}

-- Each identifier that is held is below the next.
abbrev pub IsRising : Held → Type 0
IsRising mirror = IsStrictlyIncreasing (ids mirror.records)

-- Where that is so, it is so after each report.
abbrev pub JudgeKeepsRising : Type 0
JudgeKeepsRising = (mirror : Held) (report : Report) → IsRising mirror → IsRising (judge mirror report).1

-- A report that was just judged changes nothing when it is judged once more.
abbrev pub JudgedAgainChangesNothing : Type 0
JudgedAgainChangesNothing = (mirror : Held) (report : Report) → (judge (judge mirror report).1 report).1 ≡ (judge mirror report).1
