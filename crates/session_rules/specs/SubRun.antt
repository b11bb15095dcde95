-- The run of a subscription's reports, by its place (RFC 8412, section 3.8.5). A report that is put
-- for a subscription sets its place to what it consulted, and nothing else changes a place. From a
-- place of the current epoch a report of events goes on with all that match, none skipped or
-- doubled.
use Rattle.std.specs.Prelude.{◌≡◌, ◌⊎◌, ◌<◌, ◌≤◌, ◌+◌, ◌^◌, ℕ, List, [], ◌∷◌, ◌++◌, None, All, Contains}
use Rattle.swima_model.specs.declared.event.Event.{Event}
use Rattle.swima_model.specs.declared.report.Kind.{Kind}
use Rattle.swima_model.specs.declared.report.Point.{Point}
use Rattle.swima_model.specs.declared.report.Report.{Report}
use Rattle.swima_model.specs.declared.report.Report.TheVariants.{Inventory, Events}
use Rattle.swima_model.specs.History.{Epoch, from_to}
use Rattle.swima_model.specs.Kinds.{events_of_kind}
use Rattle.swima_request.specs.declared.request.Request.{Request}
use Rattle.swima_subs.specs.declared.waiting.Waiting.{Waiting}
use Rattle.swima_subs.specs.Subscriptions.{next_request, reported}
use Rattle.collector_core.specs.declared.answer.Answer.TheVariants as answer
use Rattle.collector_core.specs.Answering.{answer_at, wanted_events}
use Rattle.collector_core.specs.Chronicle.{Chronicle, current, point_of}
use Rattle.collector_core.specs.Legal.{IsLegal}
use Rattle.session_talk.specs.Keeping.{Keeps}
use Rattle.session_rules.specs.declared.config.ServeConfig.{ServeConfig}
use Rattle.session_rules.specs.declared.word.CollectorWord.{CollectorWord as Word}
use Rattle.swima_model.specs.Reports.{point_in}
use Rattle.session_rules.specs.Answering.{Drafting, reach_of, renews_one, speaks}
use Rattle.session_rules.specs.Messages.{report_attribute}
use Rattle.session_rules.specs.Serving.{Draft}

-- ---- places

-- Each subscription was there with its place, or is new and has none.
abbrev pub PlacesStay : List Waiting → List Waiting → Type 0
PlacesStay before after = All (λ (held : Waiting). Contains before held ⊎ (held.place ≡ None)) after

-- A report was put into the batch, and the subscription of the ID was fulfilled up to what the
-- report consulted. All other places stay.
pub record PutsFor (id : ℕ) (before after : Draft) : Type 0 where
  pub report : Report
  pub put : after.attrs ≡ before.attrs ++ report_attribute report ∷ []
  pub noted : after.points ≡ before.points ++ point_in report ∷ []
  pub others : List Waiting
  pub stay : PlacesStay before.subs others
  pub place : after.subs ≡ reported others id (reach_of report)

-- A draft after another: no place changed, or a report was put for a subscription.
abbrev pub PlacesFollow : Draft → Draft → Type 0
PlacesFollow before after = PlacesStay before.subs after.subs ⊎ ((id : ℕ) × PutsFor id before after)

-- So along a talk, whatever is replied.
abbrev pub Follows : Draft → Drafting → Type 0
Follows before talk = Keeps (λ (n : Unit {0}). Unit {0}) (λ (n : Unit {0}). Unit {0}) (λ (after : Draft). PlacesFollow before after) talk

-- Each word of a message, and each subscription that is fulfilled further, changes places so.
pub record PlacesFollowReports : Type 0 where
  pub words : (d : Draft) (word : Word) → Follows d (speaks d word)
  pub renewals : (c : ServeConfig) (d : Draft) (held : Waiting) → Follows d (renews_one c d held)

-- ---- events

-- The events of an epoch that match, above an event identifier up to another.
abbrev pub matching : List (List ℕ) → Kind → ℕ → ℕ → Epoch → List Event
matching targets kind above last epoch = events_of_kind kind (wanted_events targets (from_to (above + 1) last epoch.events))

-- The report of events goes on from a place of its epoch with all events that match, up to the last
-- that it consulted.
abbrev pub GoesOnFrom : Chronicle → Request → Point → Report → Type 0
GoesOnFrom chronicle request place (Inventory kind fulfil id point records) = Unit {0}
GoesOnFrom chronicle request place (Events kind fulfil id point consulted events) =
    (id ≡ request.id) × (point ≡ point_of chronicle) × (consulted ≤ point.eid)
    × (place.epoch ≡ point.epoch → events ≡ matching request.targets request.kind place.eid consulted (current chronicle))

-- What answers the next request of a subscription does so.
abbrev pub ReportsGoOn : Type 0
ReportsGoOn = (chronicle : Chronicle) (request : Request) (place now : Point) (most : ℕ) (report : Report) → IsLegal chronicle → place.eid < 2 ^ 32
    → answer_at chronicle (next_request request place now) most ≡ answer.Report report → GoesOnFrom chronicle request place report

-- Of two successive reports of events of one epoch, the later has all events that match above the
-- last that the earlier consulted, up to the last that it consulted itself.
abbrev pub GoesOnAfter : Chronicle → Request → Report → Report → Type 0
GoesOnAfter chronicle request (Events kind fulfil id point consulted events) (Events later_kind later_fulfil later_id later_point last later) =
    point.epoch ≡ later_point.epoch → later ≡ matching request.targets request.kind consulted last (current chronicle)
GoesOnAfter chronicle request first second = Unit {0}

-- The subscription was fulfilled as far as the earlier, and the later answers its next request.
abbrev pub SuccessiveReports : Type 0
SuccessiveReports = (chronicle : Chronicle) (request : Request) (first second : Report) (now : Point) (most : ℕ) → IsLegal chronicle → (reach_of first).eid < 2 ^ 32
    → answer_at chronicle (next_request request (reach_of first) now) most ≡ answer.Report second → GoesOnAfter chronicle request first second
