-- What `mirror` prints, as a function of all octets of the input.
use Rattle.std.specs.Prelude.{◌≡◌, ◌+◌, ◌-◌, ℕ, zero, suc, List, [], ◌++◌, Result, Ok, Err, length, drop, codes, if◌then◌else◌}
use Rattle.wire_base.specs.Reading.{whole}
use Rattle.pa_attrs.specs.declared.attr.Attr.{Attr}
use Rattle.pa_attrs.specs.Numbers.{HEADER, INVALID_PARAMETER}
use Rattle.swima_model.specs.declared.report.Kind.{Kind}
use Rattle.swima_model.specs.declared.report.Report.{Report}
use Rattle.swima_reports.specs.ReportReading.{read_report}
use Rattle.validator_core.specs.Held.{Held, empty_mirror}
use Rattle.validator_core.specs.Judge.{judge}
use Rattle.swid_cli.specs.declared.mirror.first_attribute.Front.{Front}
use Rattle.swid_cli.specs.declared.mirror.first_attribute.Front.TheVariants as front
use Rattle.command_text.specs.declared.ending.Ending.{Ending}
use Rattle.command_text.specs.declared.ending.Ending.TheVariants as ending
use Rattle.swid_cli.specs.Front.{carries_report, first_of, left_behind}
use Rattle.command_text.specs.Text.{fault_line, mirror_text, refusal, skipped_line, took_line}

-- The most octets of the input.
abbrev pub INPUT_OCTETS : ℕ
INPUT_OCTETS = 1073741824

-- A text, how it ends, and what is left of the input then.
pub record Printed : Type 0 where
  pub text : List ℕ
  pub ending : Ending
  pub left : List ℕ

-- What an attribute makes: a line, the octets that it took, and the mirror after it; or, where it
-- is not taken, the last text.
pub data StepOf : Type 0 where
  Goes : List ℕ → ℕ → Held → StepOf
  Ends : Printed → StepOf

-- The last text is this refusal.
abbrev pub refused : List ℕ → List ℕ → StepOf
refused text left = Ends (record { text = text; ending = ending.Refused; left = left })

-- A report that was read, of an attribute of this length.
abbrev pub report_step : Held → List ℕ → ℕ → Result Report ℕ → StepOf
report_step mirror octets len (Ok report) = Goes (took_line report (judge mirror report).0) len (judge mirror report).1
report_step mirror octets len (Err place) = refused (fault_line INVALID_PARAMETER place) (drop len octets)

-- A whole attribute of this length that begins at `at`: the report that it carries is taken, and
-- one that carries none is skipped.
abbrev pub attribute_step : ℕ → Held → List ℕ → Attr → ℕ → StepOf
attribute_step at mirror octets attr len =
    if carries_report attr.vendor attr.kind then report_step mirror octets len (whole (read_report attr.kind) (at + HEADER) attr.value)
    else Goes (skipped_line attr.vendor attr.kind) len mirror

-- What stands first in octets that begin at `at`.
abbrev pub front_step : ℕ → Held → List ℕ → Front → StepOf
front_step at mirror octets front.End = Ends (record { text = mirror_text mirror; ending = ending.Whole; left = [] })
front_step at mirror octets (front.Torn have) = refused (refusal (codes "torn") have) []
front_step at mirror octets front.Limit = refused (refusal (codes "limit") INPUT_OCTETS) (left_behind (INPUT_OCTETS - at) octets front.Limit)
front_step at mirror octets (front.Faulty fault) = refused (fault_line fault.code (at + fault.at)) (left_behind (INPUT_OCTETS - at) octets (front.Faulty fault))
front_step at mirror octets (front.Whole attr len) = attribute_step at mirror octets attr len

-- The first attribute of octets that begin at `at`.
unfoldable pub step_of : ℕ → Held → List ℕ → StepOf
step_of at mirror octets = front_step at mirror octets (first_of (INPUT_OCTETS - at) octets)

-- A line before a text.
abbrev pub after_line : List ℕ → Printed → Printed
after_line line printed = record { text = line ++ printed.text; ending = printed.ending; left = printed.left }

-- What an attribute makes, and after it what `next` makes of the octets after it.
abbrev pub and_on : (ℕ → Held → List ℕ → Printed) → ℕ → List ℕ → StepOf → Printed
and_on next at octets (Goes line len mirror) = after_line line (next (at + len) mirror (drop len octets))
and_on next at octets (Ends printed) = printed

-- Octets that begin at `at`, in at most that many attributes.
abbrev pub stream_by : ℕ → ℕ → Held → List ℕ → Printed
stream_by zero at mirror octets = record { text = []; ending = ending.Refused; left = octets }
stream_by (suc attributes) at mirror octets = and_on (stream_by attributes) at octets (step_of at mirror octets)

-- Octets that begin at `at`. Each attribute takes at least one of them, so they are no more than
-- the octets: what this function is, is said by `StreamGoesOn`.
unfoldable pub stream : ℕ → Held → List ℕ → Printed
stream at mirror octets = stream_by (length octets + 1) at mirror octets

-- A stream is its first attribute, and after it the stream of the octets after it.
abbrev pub StreamGoesOn : Type 0
StreamGoesOn = (at : ℕ) (mirror : Held) (octets : List ℕ) → stream at mirror octets ≡ and_on stream at octets (step_of at mirror octets)

-- All of the input.
abbrev pub stream_text : Kind → List ℕ → Printed
stream_text kind octets = stream 0 (empty_mirror kind) octets
