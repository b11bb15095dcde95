-- What stands first decides the step.
use Rattle.std.proofs.Common.{◌≡◌, ℕ, ◌+◌, ◌-◌, List, drop, Option, Some, Result, Ok, Err, refl, sym, ap, subst, ◌∙◌}
use Rattle.std.proofs.lemmas.Bool.{cond_both}
use Rattle.wire_base.specs.Reading.{whole}
use Rattle.pa_attrs.specs.declared.attr.Attr.{Attr}
use Rattle.pa_attrs.specs.Numbers.{HEADER}
use Rattle.swima_model.specs.declared.report.Report.{Report}
use Rattle.swima_reports.specs.ReportReading.{read_report}
use Rattle.validator_core.specs.Held.{Held}
use Rattle.swid_cli.specs.declared.mirror.first_attribute.Front.{Front}
use Rattle.swid_cli.specs.declared.mirror.first_attribute.Front.TheVariants as front
use Rattle.swid_cli.specs.declared.mirror.step.Step.{Step}
use Rattle.swid_cli.specs.declared.mirror.step.Step.TheVariants as step
use Rattle.swid_cli.specs.Front.{carries_report, first_of, left_behind}
use Rattle.command_text.specs.Text.{skipped_line}
use Rattle.swid_cli.specs.Stream.{INPUT_OCTETS, Goes, attribute_step, front_step, refused, report_step, step_of}
use Rattle.swid_cli.specs.Steps.{IsStep, left_of}

-- What is left after an attribute is after all its octets, whether a report was taken or not.
report_left : (mirror : Held) (octets : List ℕ) (len : ℕ) (read : Result Report ℕ) → left_of (report_step mirror octets len read) octets ≡ drop len octets
report_left mirror octets len (Ok report) = refl
report_left mirror octets len (Err place) = refl

attribute_left : (at : ℕ) (mirror : Held) (octets : List ℕ) (attr : Attr) (len : ℕ) → left_of (attribute_step at mirror octets attr len) octets ≡ drop len octets
attribute_left at mirror octets attr len =
    let read = whole (read_report attr.kind) (at + HEADER) attr.value in
    cond_both (carries_report attr.vendor attr.kind) (report_step mirror octets len read) (Goes (skipped_line attr.vendor attr.kind) len mirror)
    (λ taken. left_of taken octets ≡ drop len octets) (λ carries. report_left mirror octets len read) (λ skipped. refl)

-- What is left after what stands first is left after the step.
front_left : (at : ℕ) (mirror : Held) (octets : List ℕ) (first : Front) → left_of (front_step at mirror octets first) octets ≡ left_behind (INPUT_OCTETS - at) octets first
front_left at mirror octets front.End = refl
front_left at mirror octets (front.Torn have) = refl
front_left at mirror octets front.Limit = refl
front_left at mirror octets (front.Faulty fault) = refl
front_left at mirror octets (front.Whole attr len) = attribute_left at mirror octets attr len

-- The step of what stands first is the step of the octets.
pub first_step : (at : ℕ) (before : Held) (octets : List ℕ) (first : Front) (taken : Step) (after : Held) (left : Option (List ℕ))
    → (first ≡ first_of (INPUT_OCTETS - at) octets) × (left ≡ Some (left_behind (INPUT_OCTETS - at) octets first)) → IsStep (front_step at before octets first) taken after
    → IsStep (step_of at before octets) taken after × (left ≡ Some (left_of (step_of at before octets) octets))
unfolding step_of
first_step at before octets first taken after left is steps =
    subst (λ (f : Front). IsStep (front_step at before octets f) taken after × (left ≡ Some (left_of (front_step at before octets f) octets))) is.0
    (steps, is.1 ∙ ap (λ (o : List ℕ). Some o) (sym (front_left at before octets first)))

-- At the end the mirror is printed.
pub ended : (at : ℕ) (mirror : Held) (octets : List ℕ) → IsStep (front_step at mirror octets front.End) step.End mirror
ended at mirror octets = (refl, refl)

-- A refusal is printed.
pub was_refused : (text left : List ℕ) (taken : Step) (mirror : Held) → taken ≡ step.Refused text → IsStep (refused text left) taken mirror
was_refused text left taken mirror is = rw is (refl, refl)
