-- An answer that is a report can be written, and is read back from what is written of it.
use Rattle.std.proofs.Common.{◌≡◌, ◌∙◌, ◌||◌, ◌<◌, ◌^◌, ℕ, Bool, true, false, eqb, ltb, cond, take, refl, sym, ap, subst, arith}
use Rattle.std.specs.Prelude.{All, Ok, nat_le, ◌&&◌}
use Rattle.std.proofs.lemmas.List.Elements.{All-filter, All-map, All-take, recursion_from_All}
use Rattle.wire_base.specs.Stamp.{IsStamp}
use Rattle.swima_model.specs.declared.event.Action.{Action}
use Rattle.swima_model.specs.declared.event.Action.TheVariants.{Creation, Deletion, Alteration}
use Rattle.swima_model.specs.declared.event.Event.{Event}
use Rattle.swima_model.specs.declared.record.Record.{Record}
use Rattle.swima_model.specs.declared.report.Kind.{Kind}
use Rattle.swima_model.specs.declared.report.Kind.TheVariants.{Ids, Full}
use Rattle.swima_model.specs.declared.report.Report.{Report}
use Rattle.swima_model.specs.History.{from_to, live_at}
use Rattle.swima_model.specs.Kinds.{events_of_kind, record_of_kind}
use Rattle.swima_model.specs.Live.{live}
use Rattle.swima_model.proofs.OfKind.{event_of_kind}
use Rattle.swima_request.specs.declared.request.Request.{Request}
use Rattle.swima_reports.specs.ActionNumber.{action_number}
use Rattle.swima_reports.specs.ReportForm.{CanBeWritten, MayCarry, MayCarryEvent}
use Rattle.swima_reports.specs.Written.{EventHasRoom, IsWritable, RecordHasRoom}
use Rattle.swima_reports.proofs.Writing.{carried_is_report, events_writable, inventory_writable, length-stamp, written_is_read}
use Rattle.collector_core.specs.declared.answer.Answer.TheVariants as answer
use Rattle.collector_core.specs.Answering.{events_at, events_report, if_fits, inventory_at, is_wanted, told_at, wanted_records}
use Rattle.collector_core.specs.Chronicle.{Chronicle, current, first_kept, last_eid, point_of}
use Rattle.collector_core.specs.Legal.{IsLegal}
use Rattle.collector_core.specs.Meaning.{CanBeTold}
use Rattle.collector_core.specs.WrittenAnswers.{AnswersAreReadBack}
use Rattle.collector_core.proofs.Along.{stamped}
use Rattle.collector_core.proofs.Answered.{fits_is}
use Rattle.collector_core.proofs.Chronicles.{current_honest}
use Rattle.collector_core.proofs.Limits.{IsWithin, SubjectIsWithin, eids_within, epoch_within, live_within}
use Rattle.collector_core.proofs.Telling.{answers_can_be_told}

-- ---- records and events, as reports of a kind carry them

-- Its fields have room, and reports of the kind may carry it.
abbrev RecordIsCarried : Kind → Record → Type 0
RecordIsCarried kind r = RecordHasRoom kind r × MayCarry kind r.content.body

record_is_carried : (kind : Kind) (r : Record) → IsWithin r → RecordIsCarried kind (record_of_kind kind r)
record_is_carried Ids r (id, content) = (
  ((id, (content.pen, (content.kind, (content.source, (tt, (omega (arith, content.ident), (omega (arith, content.locator), tt))))))), refl),
  refl,
)
record_is_carried Full r (id, content) = (
  (
    (id, (content.pen, (content.kind, (content.source, (tt, (omega (arith, content.ident), (omega (arith, content.locator), (omega (arith, content.body), tt)))))))),
    content.body,
  ),
  content.body,
)

-- An event that has such a record, and numbers and a moment that fit.
abbrev EventIsWithin : Event → Type 0
EventIsWithin e = (e.eid < 2 ^ 32) × IsStamp e.stamp × IsWithin e.subject

action_fits : (action : Action) → action_number action < 256
action_fits Creation = omega arith
action_fits Deletion = omega arith
action_fits Alteration = omega arith

abbrev EventIsCarried : Kind → Event → Type 0
EventIsCarried kind e = EventHasRoom kind e × MayCarryEvent kind e

event_is_carried : (kind : Kind) (e : Event) → EventIsWithin e → EventIsCarried kind (event_of_kind kind e)
event_is_carried Ids e (eid, stamp, (id, content)) = (
  (
    (eid, (length-stamp e.stamp stamp, (id, (content.pen, (content.kind, (content.source, (action_fits e.action, (omega (arith, content.ident), (omega (arith, content.locator), tt))))))))),
    refl,
  ),
  (stamp, refl),
)
event_is_carried Full e (eid, stamp, (id, content)) = (
  (
    (eid, (length-stamp e.stamp stamp, (id, (content.pen, (content.kind, (content.source, (action_fits e.action, (omega (arith, content.ident), (omega (arith, content.locator), (omega (arith, content.body), tt)))))))))),
    content.body,
  ),
  (stamp, content.body),
)

-- ---- reports

-- The report can be written, and its kind may carry what it has.
abbrev IsCarried : Report → Type 0
IsCarried report = IsWritable report × CanBeWritten report

module _ (chronicle : Chronicle) (request : Request) (most : ℕ) (legal : IsLegal chronicle) (number : request.id < 2 ^ 32) where
  records_are_carried : All (RecordIsCarried request.kind) (wanted_records request.targets (live_at (current chronicle) (last_eid chronicle) request.kind))
  records_are_carried =
      let within = epoch_within chronicle legal in
      let held : All IsWithin (live (current chronicle).base (take (last_eid chronicle) (current chronicle).events)) =
      live_within (current chronicle).base (take (last_eid chronicle) (current chronicle).events) within.base
      (All-take SubjectIsWithin (last_eid chronicle) (current chronicle).events within.subjects) in
      All-filter (λ (r : Record). is_wanted request.targets r.content.ident) (RecordIsCarried request.kind) (live_at (current chronicle) (last_eid chronicle) request.kind)
      (All-map (RecordIsCarried request.kind) (record_of_kind request.kind) (live (current chronicle).base (take (last_eid chronicle) (current chronicle).events))
      (λ k d lt. record_is_carried request.kind _ (held k d lt)))

  inventory_is_carried : CanBeTold most (inventory_at chronicle request) → IsCarried (inventory_at chronicle request)
  inventory_is_carried told = (
    inventory_writable request.kind false request.id (point_of chronicle) _ (omega (arith, told.count)) number (epoch_within chronicle legal).number (current_honest chronicle legal).few (λ k d lt. (records_are_carried k d lt).0),
    recursion_from_All (λ (r : Record). MayCarry request.kind r.content.body) _ (λ k d lt. (records_are_carried k d lt).1),
  )

  events_are_carried : (count : ℕ) → All (EventIsCarried request.kind) (events_of_kind request.kind (take count (events_at chronicle request)))
  events_are_carried count =
      let subjects = (epoch_within chronicle legal).subjects in
      let all : All EventIsWithin (current chronicle).events = λ k d lt. (eids_within chronicle legal k d lt, stamped chronicle legal k d lt, subjects k d lt) in
      let asked : All EventIsWithin (from_to request.earliest (last_eid chronicle) (current chronicle).events) =
      All-filter (λ (e : Event). nat_le request.earliest e.eid && nat_le e.eid (last_eid chronicle)) EventIsWithin (current chronicle).events all in
      let wanted : All EventIsWithin (events_at chronicle request) =
      All-filter (λ (e : Event). is_wanted request.targets e.subject.content.ident) EventIsWithin (from_to request.earliest (last_eid chronicle) (current chronicle).events) asked in
      All-map (EventIsCarried request.kind) (event_of_kind request.kind) (take count (events_at chronicle request))
      (λ k d lt. event_is_carried request.kind _ (All-take EventIsWithin count (events_at chronicle request) wanted k d lt))

  events_report_is_carried : (count : ℕ) → CanBeTold most (events_report request (point_of chronicle) (events_at chronicle request) count) → IsCarried (events_report request (point_of chronicle) (events_at chronicle request) count)
  events_report_is_carried count told =
      let few : last_eid chronicle < 2 ^ 32 = (current_honest chronicle legal).few in (
        events_writable request.kind false request.id (point_of chronicle) _ _ (omega (arith, told.count)) number (epoch_within chronicle legal).number few (omega (arith, told.consulted, few)) told.consulted told.stamps (λ k d lt. (events_are_carried count k d lt).0),
        (told.consulted, recursion_from_All (MayCarryEvent request.kind) _ (λ k d lt. (events_are_carried count k d lt).1)),
      )

  answer_is_carried : (report : Report) (test : Bool) → cond test (if_fits most (inventory_at chronicle request)) (if_fits most (told_at chronicle request most)) ≡ answer.Report report
      → CanBeTold most report → IsCarried report
  answer_is_carried report true e told =
      let same : inventory_at chronicle request ≡ report = fits_is most (inventory_at chronicle request) report e in
      subst IsCarried same (inventory_is_carried (subst (CanBeTold most) (sym same) told))
  answer_is_carried report false e told =
      let same : told_at chronicle request most ≡ report = fits_is most (told_at chronicle request most) report e in
      subst IsCarried same (events_report_is_carried _ (subst (CanBeTold most) (sym same) told))

pub answers_are_read_back : AnswersAreReadBack
answers_are_read_back chronicle request most report legal number small e =
    let told : CanBeTold most report = answers_can_be_told chronicle request most report legal e in
    let carried : IsCarried report = answer_is_carried chronicle request most legal number report (eqb request.earliest 0 || ltb request.earliest (first_kept chronicle)) e told in
    record {
      fits = record { count = omega (arith, told.count); within = omega (arith, told.size, small); stamps = told.stamps; consulted = told.consulted };
      writable = carried.0;
      same = λ base. written_is_read base report carried.0 ∙ ap Ok (carried_is_report report carried.1);
    }
