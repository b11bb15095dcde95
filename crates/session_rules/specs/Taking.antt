-- What a validator does with the messages of a batch: its mirror takes the reports, and messages
-- that have a fault are answered (RFC 5792, section 4.2.8; RFC 8412, section 3.3).
use Rattle.std.specs.Prelude.{◌==◌, ℕ, List, [], ◌∷◌, ◌++◌, Option, Some, None, Result, Ok, Err, length, nat_lt, if◌then◌else◌}
use Rattle.wire_base.specs.Reading.{whole}
use Rattle.swima_model.specs.declared.report.Report.{Report}
use Rattle.swima_model.specs.Size.{report_count}
use Rattle.swima_request.specs.declared.request.Request.{Request}
use Rattle.swima_reports.specs.ReportReading.{read_report}
use Rattle.swima_reports.specs.ReportType.{SOFTWARE_IDENTIFIER_INVENTORY, SOFTWARE_IDENTIFIER_EVENTS, SOFTWARE_INVENTORY, SOFTWARE_EVENTS}
use Rattle.pa_attrs.specs.declared.attr.PlacedAttr.{PlacedAttr}
use Rattle.pa_attrs.specs.declared.error.PaError.{PaError}
use Rattle.pa_attrs.specs.ErrorForm.{read_error}
use Rattle.pa_attrs.specs.Numbers.{ERROR}
use Rattle.pb_batch.specs.declared.batch.Message.{Message}
use Rattle.validator_core.specs.declared.mirror.Taken.{Taken as TakenValue}
use Rattle.validator_core.specs.Held.{Held}
use Rattle.validator_core.specs.Judge.{judge}
use Rattle.session_talk.specs.Talk.{Talk, Done, Note, each}
use Rattle.session_rules.specs.declared.word.ValidatorWord.{ValidatorWord as Word}
use Rattle.session_rules.specs.declared.word.ValidatorWord.TheVariants.{Reports, Lists, Failure}
use Rattle.session_rules.specs.Numbers.{next_number, counted_on}
use Rattle.swima_request.specs.AttributeTypes.{SUBSCRIPTION_STATUS_RESPONSE}
use Rattle.session_rules.specs.Messages.{error_attribute, pa_message}
use Rattle.session_rules.specs.Saying.{Said, Says, Refused, says, swima_body}
use Rattle.swima_request.specs.StatusForm.{read_status}
use Rattle.swima_model.specs.Reports.{point_in}
use Rattle.session_rules.specs.Following.{Notes, Stand, Draft, draft}

-- A validator asks nobody.
pub data NoQuestion : Type 0 where

abbrev pub NoReply : NoQuestion → Type 0
NoReply question = Unit {0}

-- A talk of a batch that is being written. Each report is noted as the mirror takes it.
abbrev pub Drafting : Type 0
Drafting = Talk NoQuestion NoReply Notes Draft

-- ---- what a message says

-- The attribute types that a validator supports.
abbrev pub SUPPORTED : List ℕ
SUPPORTED = ERROR ∷ SOFTWARE_IDENTIFIER_INVENTORY ∷ SOFTWARE_IDENTIFIER_EVENTS ∷ SOFTWARE_INVENTORY ∷ SOFTWARE_EVENTS ∷ SUBSCRIPTION_STATUS_RESPONSE ∷ []

-- A value that was read, as a word.
abbrev pub means : {A : Type 0} → (A → Word) → Result A ℕ → Result Word ℕ
means word (Ok value) = Ok (word value)
means word (Err place) = Err place

-- The word of an Error, of the requests of the subscriptions (section 5.12) and of a report
-- (sections 5.7 to 5.10).
abbrev pub failure_at : ℕ → List ℕ → Result Word ℕ
failure_at at value = means (λ (error : PaError). Failure error.code) (whole read_error at value)

abbrev pub list_at : ℕ → List ℕ → Result Word ℕ
list_at at value = means (λ (requests : List Request). Lists requests) (whole read_status at value)

abbrev pub report_at : ℕ → ℕ → List ℕ → Result Word ℕ
report_at kind at value = means (λ (report : Report). Reports report) (whole (read_report kind) at value)

-- The word of an attribute of these types, or the place of the first fault of its value.
abbrev pub word_of : PlacedAttr → Result Word ℕ
word_of placed =
    if placed.attr.kind == ERROR then failure_at placed.at placed.attr.value
    else (if placed.attr.kind == SUBSCRIPTION_STATUS_RESPONSE then list_at placed.at placed.attr.value
    else report_at placed.attr.kind placed.at placed.attr.value)

-- ---- a report (RFC 8412, section 3.7.3)

-- The mirror has taken a report, and holds this.
abbrev pub with_mirror : Notes → Report → Held → Notes
with_mirror notes report mirror = record notes { mirror = mirror; last = Some report }

-- What it answered is noted.
abbrev pub with_answer : Notes → Report → TakenValue → Notes
with_answer notes report answer = record notes {
  taken_reports = notes.taken_reports ++ record { point = point_in report; count = report_count report; answer = answer } ∷ [];
  reports = counted_on notes.reports 1;
}

-- The mirror takes a report, and then what it answered is noted.
abbrev pub takes : Draft → Report → Drafting
takes d report =
    let judged : TakenValue × Held = judge d.notes.mirror report in
    let moved : Notes = with_mirror d.notes report judged.1 in
    let after : Notes = with_answer moved report judged.0 in
    Note moved (Note after (Done (record d { notes = after })))

-- ---- a message

-- A word.
abbrev pub speaks : Draft → Word → Drafting
speaks d (Reports report) = takes d report
speaks d (Lists requests) = Done d
speaks d (Failure code) = Done (record d { errors = d.errors ++ code ∷ [] })

-- The most answers of a batch, which leaves room for a message of the validator's own.
abbrev pub MOST_ANSWERS : ℕ
MOST_ANSWERS = 63

-- An Error that answers a message. After the last that has room they are left out.
abbrev pub answers : Draft → PaError → Draft
answers d error =
    if nat_lt (length d.answers) MOST_ANSWERS then record d { answers = d.answers ++ pa_message (next_number d.numbered) (error_attribute error ∷ []) ∷ []; numbered = next_number d.numbered } else d

-- What a message says. Of one that is refused nothing is looked at.
abbrev pub takes_said : Draft → Said Word → Drafting
takes_said d (Says words) = each speaks d words
takes_said d (Refused (Some error)) = Done (answers d error)
takes_said d (Refused None) = Done d

abbrev pub takes_body : Draft → Option (List ℕ) → Drafting
takes_body d (Some body) = takes_said d (says SUPPORTED word_of body)
takes_body d None = Done d

-- A message of the batch.
abbrev pub takes_message : Draft → Message → Drafting
takes_message d message = takes_body d (swima_body message)

-- ---- a batch

-- The messages of a batch, in order.
abbrev pub drafts : Stand → List Message → Drafting
drafts s messages = each takes_message (draft s) messages
