-- A mirror that is printed at the end is right over a history from which all reports answer.
use Rattle.std.proofs.Common.{◌≡◌, ◌≢◌, ◌⊎◌, inl, inr, ℕ, zero, suc, ◌+◌, ◌-◌, Bool, true, false, cond, not, List, [], ◌++◌, length, drop, Result, Ok, Err, Option, Some, None, refl, sym, ap, subst, ◌∙◌, append_assoc}
use Rattle.std.specs.Prelude.{IfSome}
use Rattle.std.proofs.lemmas.Bool.{cond-true}
use Rattle.wire_base.specs.Reading.{whole}
use Rattle.pa_attrs.specs.declared.attr.Attr.{Attr}
use Rattle.pa_attrs.specs.Numbers.{HEADER}
use Rattle.swima_model.specs.History.{History, IsHonest, Answers}
use Rattle.swima_model.specs.declared.report.Kind.{Kind}
use Rattle.swima_model.specs.declared.report.Kind.TheVariants.{Ids, Full}
use Rattle.swima_model.specs.declared.report.Report.{Report}
use Rattle.swima_model.specs.declared.report.Report.TheVariants.{Inventory, Events}
use Rattle.swima_reports.specs.ReportReading.{read_report}
use Rattle.validator_core.specs.declared.mirror.Taken.{Taken}
use Rattle.validator_core.specs.declared.mirror.Taken.TheVariants as taken
use Rattle.validator_core.specs.Held.{Held, empty_mirror}
use Rattle.validator_core.specs.Judge.{judge, same_kind}
use Rattle.validator_core.specs.Right.{IsRight}
use Rattle.validator_core.proofs.Righting.{judged_right, judged_kind}
use Rattle.swid_cli.specs.declared.mirror.first_attribute.Front.{Front}
use Rattle.swid_cli.specs.declared.mirror.first_attribute.Front.TheVariants as front
use Rattle.command_text.specs.declared.ending.Ending.TheVariants as ending
use Rattle.swid_cli.specs.Answering.{StandsIn, report_kind, AllAnswer, EndsRight, PrintedMirrorIsRight, PrintsRight}
use Rattle.swid_cli.specs.Answering.StandsIn.{as_first, behind_first}
use Rattle.wire_base.specs.Outside.{Adds}
use Rattle.swid_cli.specs.Run.{Prints}
use Rattle.swid_cli.specs.Front.{carries_report, first_of}
use Rattle.swid_cli.specs.Stream.{INPUT_OCTETS, Printed, Goes, after_line, and_on, front_step, report_step, step_of, stream, stream_by, stream_text}
use Rattle.command_text.specs.Text.{mirror_text, skipped_line, took_line}
use Rattle.swid_cli.proofs.Running.{is_whole}

-- The reports of the kind that stand in octets after a place answer.
abbrev Answering : History → Kind → ℕ → List ℕ → Type 0
Answering history kind at octets = (report : Report) → StandsIn at octets report → report_kind report ≡ kind → Answers history report

-- A mirror of the kind that is right.
record Stands (history : History) (kind : Kind) (mirror : Held) : Type 0 where
  of_kind : mirror.kind ≡ kind
  right : IsRight history mirror

-- Where what is printed was not refused, it ends with a right mirror of the kind.
abbrev Ended : History → Kind → Printed → Type 0
Ended history kind printed = printed.ending ≡ ending.Whole → EndsRight history kind printed

-- The kinds are one, or they are not.
kinds : (one other : Kind) → (one ≡ other) ⊎ (one ≢ other)
kinds Ids Ids = inl refl
kinds Ids Full = inr (λ e. absurd cc)
kinds Full Ids = inr (λ e. absurd cc)
kinds Full Full = inl refl

not_same : (one other : Kind) → one ≢ other → not (same_kind one other) ≡ true
not_same Ids Ids ne = absurd (ne refl)
not_same Ids Full ne = refl
not_same Full Ids ne = refl
not_same Full Full ne = absurd (ne refl)

-- A report of the other kind leaves the mirror as it is.
other_kind : (mirror : Held) (report : Report) → report_kind report ≢ mirror.kind → (judge mirror report).1 ≡ mirror
other_kind mirror (Inventory kind fulfil id point records) ne = ap (λ (j : Taken × Held). j.1) (cond-true (not (same_kind kind mirror.kind)) (taken.WrongKind, mirror) _ (not_same kind mirror.kind ne))
other_kind mirror (Events kind fulfil id point consulted events) ne = ap (λ (j : Taken × Held). j.1) (cond-true (not (same_kind kind mirror.kind)) (taken.WrongKind, mirror) _ (not_same kind mirror.kind ne))

-- A report that answers, if it is of the mirror's kind, leaves it right.
stands_on : (history : History) (kind : Kind) (mirror : Held) (report : Report) → IsHonest history → Stands history kind mirror → (report_kind report ≡ kind → Answers history report) → Stands history kind (judge mirror report).1
stands_on history kind mirror report honest stands answers = elim (kinds (report_kind report) kind) [
  | inl same ↦ record {
    of_kind = judged_kind mirror report ∙ stands.of_kind;
    right = (judged_right history mirror report honest stands.right (answers same)).0;
  }
  | inr ne ↦ subst (Stands history kind) (sym (other_kind mirror report (λ e. ne (e ∙ stands.of_kind)))) stands
]

-- A line before a text that ends right.
line_before : (history : History) (kind : Kind) (line : List ℕ) (printed : Printed) → Ended history kind printed → Ended history kind (after_line line printed)
line_before history kind line printed ended whole =
    let e = ended whole in
    (line ++ e.0, e.1, e.2, e.3, ap (λ (text : List ℕ). line ++ text) e.4 ∙ sym (append_assoc line e.0 (mirror_text e.1)))

module _ (history : History) (kind : Kind) (honest : IsHonest history) (attributes : ℕ)
    (behind : (at : ℕ) (mirror : Held) (octets : List ℕ) → Stands history kind mirror → Answering history kind at octets → Ended history kind (stream_by attributes at mirror octets)) where
  read_ends : (at : ℕ) (mirror : Held) (octets : List ℕ) (len : ℕ) (read : Result Report ℕ) → Stands history kind mirror → Answering history kind (at + len) (drop len octets)
      → ((report : Report) → read ≡ Ok report → report_kind report ≡ kind → Answers history report) → Ended history kind (and_on (stream_by attributes) at octets (report_step mirror octets len read))
  read_ends at mirror octets len (Ok report) stands answering answers =
      line_before history kind (took_line report (judge mirror report).0) (stream_by attributes (at + len) (judge mirror report).1 (drop len octets))
      (behind (at + len) (judge mirror report).1 (drop len octets) (stands_on history kind mirror report honest stands (answers report refl)) answering)
  read_ends at mirror octets len (Err place) stands answering answers = λ whole. absurd cc

  attribute_ends : (at : ℕ) (mirror : Held) (octets : List ℕ) (attr : Attr) (len : ℕ) (carries : Bool) → carries_report attr.vendor attr.kind ≡ carries → Stands history kind mirror
      → Answering history kind at octets → first_of (INPUT_OCTETS - at) octets ≡ front.Whole attr len
      → Ended history kind (and_on (stream_by attributes) at octets (cond carries (report_step mirror octets len (whole (read_report attr.kind) (at + HEADER) attr.value))
      (Goes (skipped_line attr.vendor attr.kind) len mirror)))
  attribute_ends at mirror octets attr len true is stands answering first =
      read_ends at mirror octets len (whole (read_report attr.kind) (at + HEADER) attr.value) stands
      (λ report later. answering report (behind_first at octets report attr len first later))
      (λ report read. answering report (as_first at octets report attr len first is read))
  attribute_ends at mirror octets attr len false is stands answering first =
      line_before history kind (skipped_line attr.vendor attr.kind) (stream_by attributes (at + len) mirror (drop len octets))
      (behind (at + len) mirror (drop len octets) stands (λ report later. answering report (behind_first at octets report attr len first later)))

  front_ends : (at : ℕ) (mirror : Held) (octets : List ℕ) (first : Front) → first_of (INPUT_OCTETS - at) octets ≡ first → Stands history kind mirror → Answering history kind at octets
      → Ended history kind (and_on (stream_by attributes) at octets (front_step at mirror octets first))
  front_ends at mirror octets front.End is stands answering = λ whole. ([], mirror, stands.of_kind, stands.right, refl)
  front_ends at mirror octets (front.Torn have) is stands answering = λ whole. absurd cc
  front_ends at mirror octets front.Limit is stands answering = λ whole. absurd cc
  front_ends at mirror octets (front.Faulty fault) is stands answering = λ whole. absurd cc
  front_ends at mirror octets (front.Whole attr len) is stands answering = attribute_ends at mirror octets attr len (carries_report attr.vendor attr.kind) refl stands answering is

-- So it is over any number of attributes.
stream_ends : (history : History) (kind : Kind) → IsHonest history → (attributes at : ℕ) (mirror : Held) (octets : List ℕ) → Stands history kind mirror → Answering history kind at octets
    → Ended history kind (stream_by attributes at mirror octets)
unfolding step_of
stream_ends history kind honest zero at mirror octets stands answering = λ whole. absurd cc
stream_ends history kind honest (suc attributes) at mirror octets stands answering =
    front_ends history kind honest attributes (stream_ends history kind honest attributes) at mirror octets (first_of (INPUT_OCTETS - at) octets) refl stands answering

pub printed_mirror_is_right : PrintedMirrorIsRight
unfolding stream
printed_mirror_is_right history kind octets honest answers whole =
    stream_ends history kind honest (length octets + 1) 0 (empty_mirror kind) octets (record { of_kind = refl; right = refl }) answers whole

-- So it is of what a command printed.
pub prints_right : (kind : Kind) (told left-after before after : Option (List ℕ)) (status : ℕ) → status ≡ 0 → IfSome told (λ octets. Prints (stream_text kind octets) left-after before after status)
    → IfSome told (λ octets. (history : History) → IsHonest history → AllAnswer history kind octets → PrintsRight history kind before after)
prints_right kind None left-after before after status good printed = tt
prints_right kind (Some octets) left-after before after status good printed = λ history honest answers.
    let right = printed_mirror_is_right history kind octets honest answers (is_whole (stream_text kind octets).ending (sym printed.ending ∙ good)) in
    (right.0, right.1, right.2, right.3, subst (λ (text : List ℕ). Adds before after text) right.4 printed.text)
