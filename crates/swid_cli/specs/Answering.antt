-- A stream of reports that answer from one history: what its mirror holds at the end.
use Rattle.std.specs.Prelude.{◌≡◌, ◌+◌, ◌-◌, ℕ, Option, true, List, ◌++◌, Ok, drop}
use Rattle.wire_base.specs.Outside.{Adds}
use Rattle.wire_base.specs.Reading.{whole}
use Rattle.pa_attrs.specs.declared.attr.Attr.{Attr}
use Rattle.pa_attrs.specs.Numbers.{HEADER}
use Rattle.swima_model.specs.History.{History, IsHonest, Answers}
use Rattle.swima_model.specs.declared.report.Kind.{Kind}
use Rattle.swima_model.specs.declared.report.Report.{Report}
use Rattle.swima_model.specs.declared.report.Report.TheVariants.{Inventory, Events}
use Rattle.swima_reports.specs.ReportReading.{read_report}
use Rattle.validator_core.specs.Held.{Held}
use Rattle.validator_core.specs.Right.{IsRight}
use Rattle.swid_cli.specs.declared.mirror.first_attribute.Front.TheVariants as front
use Rattle.command_text.specs.declared.ending.Ending.TheVariants as ending
use Rattle.swid_cli.specs.Front.{carries_report, first_of}
use Rattle.swid_cli.specs.Stream.{INPUT_OCTETS, Printed, stream_text}
use Rattle.command_text.specs.Text.{mirror_text}

-- A report stands in octets that begin at `at`: the first attribute there carries it, or it stands
-- after that.
pub data StandsIn : ℕ → List ℕ → Report → Type 0 where
  as_first : (at : ℕ) (octets : List ℕ) (report : Report) (attr : Attr) (len : ℕ) → first_of (INPUT_OCTETS - at) octets ≡ front.Whole attr len → carries_report attr.vendor attr.kind ≡ true
      → whole (read_report attr.kind) (at + HEADER) attr.value ≡ Ok report → StandsIn at octets report
  behind_first : (at : ℕ) (octets : List ℕ) (report : Report) (attr : Attr) (len : ℕ) → first_of (INPUT_OCTETS - at) octets ≡ front.Whole attr len
      → StandsIn (at + len) (drop len octets) report → StandsIn at octets report

-- The kind of a report.
abbrev pub report_kind : Report → Kind
report_kind (Inventory kind fulfil id point records) = kind
report_kind (Events kind fulfil id point consulted events) = kind

-- Each report of the kind that stands in all of the octets answers from the history.
abbrev pub AllAnswer : History → Kind → List ℕ → Type 0
AllAnswer history kind octets = (report : Report) → StandsIn 0 octets report → report_kind report ≡ kind → Answers history report

-- What is printed ends with the text of a mirror of the kind that is right over the history.
abbrev pub EndsRight : History → Kind → Printed → Type 0
EndsRight history kind printed = (lines : List ℕ) × (mirror : Held) × (mirror.kind ≡ kind) × IsRight history mirror × (printed.text ≡ lines ++ mirror_text mirror)

-- Where the reports of an input that is not refused answer from an honest history, the printed
-- mirror is right over it.
abbrev pub PrintedMirrorIsRight : Type 0
PrintedMirrorIsRight = (history : History) (kind : Kind) (octets : List ℕ) → IsHonest history → AllAnswer history kind octets → (stream_text kind octets).ending ≡ ending.Whole → EndsRight history kind (stream_text kind octets)

-- What was printed ends with the text of a mirror of the kind that is right over the history.
abbrev pub PrintsRight : History → Kind → Option (List ℕ) → Option (List ℕ) → Type 0
PrintsRight history kind before after = (lines : List ℕ) × (mirror : Held) × (mirror.kind ≡ kind) × IsRight history mirror × Adds before after (lines ++ mirror_text mirror)
