-- The rules of a validator, which is the server of PB-TNC (RFC 5793, section 3.2), for each step
-- that it hears.
use Rattle.std.specs.Prelude.{◌==◌, ◌+◌, ◌&&◌, ◌||◌, ℕ, Bool, true, false, List, [], ◌∷◌, ◌++◌, Option, Some, None, min, nat_lt, nat_le, if◌then◌else◌}
use Rattle.wire_base.specs.Turns.{Turn}
use Rattle.swima_model.specs.declared.report.Point.{Point}
use Rattle.swima_model.specs.declared.report.Report.{Report}
use Rattle.swima_model.specs.declared.report.Report.TheVariants.{Inventory, Events}
use Rattle.swima_request.specs.declared.request.Request.{Request}
use Rattle.swima_request.specs.RequestForm.{written_request}
use Rattle.pb_batch.specs.declared.batch.Batch.{Batch}
use Rattle.pb_batch.specs.declared.batch.Message.{Message}
use Rattle.pb_batch.specs.declared.batch.Message.TheVariants.{Assessment}
use Rattle.pb_batch.specs.declared.fault.PbFault.{PbFault}
use Rattle.pb_batch.specs.declared.kind.BatchKind.{BatchKind}
use Rattle.pb_batch.specs.declared.kind.BatchKind.TheVariants as kinds
use Rattle.pb_batch.specs.Written.{fault_batch_of, written}
use Rattle.pb_machine.specs.declared.machine.State.{State}
use Rattle.pb_machine.specs.declared.machine.State.TheVariants.{Decided}
use Rattle.pb_machine.specs.Table.{received, sent}
use Rattle.validator_core.specs.declared.mirror.want.Want.{Want}
use Rattle.validator_core.specs.declared.mirror.want.Want.TheVariants as wanted
use Rattle.validator_core.specs.Held.{Held}
use Rattle.validator_core.specs.Want.{want}
use Rattle.session_talk.specs.Talk.{Talk, Done, Write, Note, and_then}
use Rattle.session_hear.specs.Step.{Step, Came, Faulty, Quiet, Spent, Cut}
use Rattle.session_hear.specs.Hearing.{heard}
use Rattle.session_hear.specs.Serving.{serve}
use Rattle.session_rules.specs.declared.config.FollowConfig.{FollowConfig}
use Rattle.session_rules.specs.declared.end.SessionEnd.TheVariants as end
use Rattle.session_rules.specs.Numbers.{DO_NOT_KNOW, next_number}
use Rattle.swima_request.specs.AttributeTypes.{SWIMA_REQUEST}
use Rattle.session_rules.specs.Messages.{attribute, pa_message, server_batch}
use Rattle.session_rules.specs.declared.verdict.Verdict.{Verdict}
use Rattle.session_rules.specs.declared.verdict.Verdict.TheVariants.{PassesOver, Refuses, EndsBy, GoesOn}
use Rattle.session_rules.specs.Verdict.{verdict}
use Rattle.session_rules.specs.Following.{Notes, Tries, Stand, Draft, begin, ends, with_errors, same_point}
use Rattle.session_rules.specs.Taking.{NoQuestion, NoReply, drafts}

-- A talk of a validator.
abbrev pub Follows : Type 0
Follows = Talk NoQuestion NoReply Notes Stand

-- The machine, once a batch of the kind is sent.
abbrev pub sends : Stand → BatchKind → Stand
sends s kind = record s { machine = sent s.machine kind }

-- The session is closed by a CLOSE.
abbrev pub closes : Stand → Follows
closes s = Write (written (server_batch kinds.Close [])) (Done (ends (sends s kinds.Close) end.Closed))

-- A fault is answered by the CLOSE that reports it, and ends the session (RFC 5793, section 4.9).
abbrev pub refuses : Stand → PbFault → Follows
refuses s fault = Write (written (fault_batch_of true fault)) (Done (ends (sends s kinds.Close) (end.Refused fault.code fault.offset)))

-- ---- requests (RFC 8412, section 5.6)

-- The event identifier from which on events are asked for; 0 asks for the inventory.
abbrev pub earliest_of : Want → ℕ
earliest_of wanted.Full = 0
earliest_of wanted.Spent = 0
earliest_of (wanted.EventsFrom eid) = eid

-- The next request, of the mirror's kind, with the next ID from 1 on. The first of a session is a
-- subscription where that is so configured.
abbrev pub next_request : FollowConfig → Stand → Request
next_request c s = record {
  clear = false;
  subscribe = c.subscribe && (s.asked == 0);
  kind = s.notes.mirror.kind;
  id = next_number s.asked;
  earliest = earliest_of (want s.notes.mirror);
  targets = [];
}

-- The most requests of a round in a row that leave the mirror's point as it is.
abbrev pub MOST_IN_VAIN : ℕ
MOST_IN_VAIN = 3

-- How many requests of the round in a row left the mirror's point as it is. No more are counted
-- than may be made.
abbrev pub in_vain_by : Option Tries → Option Point → ℕ
in_vain_by None point = 0
in_vain_by (Some tries) point = if same_point tries.point point then tries.count else 0

abbrev pub in_vain : Stand → ℕ
in_vain s = in_vain_by s.tries s.notes.mirror.point

-- The standing once the next request is made, which takes the next number of a message.
abbrev pub asks : Stand → Stand
asks s = record s { numbered = next_number s.numbered; asked = next_number s.asked; tries = Some (record { point = s.notes.mirror.point; count = min (in_vain s + 1) MOST_IN_VAIN }) }

-- The message of a request.
abbrev pub request_message : FollowConfig → Stand → Message
request_message c s = pa_message (next_number s.numbered) (attribute SWIMA_REQUEST (written_request (next_request c s)) ∷ [])

-- A batch with a request after the answers.
abbrev pub writes_request : FollowConfig → Stand → BatchKind → List Message → Follows
writes_request c s kind answers = Write (written (server_batch kind (answers ++ request_message c s ∷ []))) (Done (sends (asks s) kind))

-- A batch without one.
abbrev pub writes_answers : Stand → List Message → Follows
writes_answers s answers = Write (written (server_batch kinds.Sdata answers)) (Done (sends s kinds.Sdata))

-- ---- whether another request is made

-- The report is partial: there are events after the last that was consulted (RFC 8412,
-- section 3.7.5), in the mirror's epoch and after the mirror's point.
abbrev pub is_partial_at : Option Point → Point → ℕ → Bool
is_partial_at None point consulted = false
is_partial_at (Some held) point consulted = (point.epoch == held.epoch) && (nat_lt consulted point.eid && nat_lt held.eid point.eid)

abbrev pub is_partial : Held → Option Report → Bool
is_partial mirror None = false
is_partial mirror (Some (Inventory kind fulfil id point records)) = false
is_partial mirror (Some (Events kind fulfil id point consulted events)) = is_partial_at mirror.point point consulted

-- Another request is made where none was in this session; or where the mirror's mark is set or the
-- last report is partial, unless too many were in vain.
abbrev pub asks_more : Stand → Bool
asks_more s = (s.asked == 0) || (nat_lt (in_vain s) MOST_IN_VAIN && (s.notes.mirror.off || is_partial s.notes.mirror s.notes.last))

-- ---- CDATA and CRETRY

-- The standing once the batch is written of which this is the draft.
abbrev pub drafted : Stand → Draft → Stand
drafted s d = record s { numbered = d.numbered; notes = with_errors d }

-- After the last round the session is closed at once.
abbrev pub closes_if : Stand → Bool → Follows
closes_if s true = closes s
closes_if s false = Done s

-- A RESULT ends a round (RFC 5793, section 4.6). The assessment stands before the answers.
abbrev pub decides : FollowConfig → Stand → List Message → Follows
decides c s answers =
    let after : Stand = record (sends s kinds.Outcome) { tries = None; rounds = s.rounds + 1 } in
    Write (written (server_batch kinds.Outcome (Assessment DO_NOT_KNOW ∷ answers))) (Note s.notes (closes_if after (nat_le c.rounds after.rounds)))

-- After CDATA it asks again or decides.
abbrev pub answers_data : FollowConfig → Stand → List Message → Bool → Follows
answers_data c s answers true = writes_request c s kinds.Sdata answers
answers_data c s answers false = decides c s answers

-- After CRETRY it asks where it wrote an SRETRY since the last CDATA, since the request in that was
-- not heard.
abbrev pub answers_retry : FollowConfig → Stand → List Message → Bool → Follows
answers_retry c s answers true = writes_request c s kinds.Sdata answers
answers_retry c s answers false = writes_answers s answers

-- ---- a batch

-- A CDATA and a CRETRY, whose messages were taken.
abbrev pub after_data : FollowConfig → Stand → Draft → Follows
after_data c s d = let after : Stand = record (drafted s d) { retried = false } in answers_data c after d.answers (asks_more after)

abbrev pub after_retry : FollowConfig → Stand → Draft → Follows
after_retry c s d = answers_retry c (drafted s d) d.answers s.retried

-- A batch that the machine goes on with, by its kind. No other kind comes to a server, and a CLOSE
-- has ended the session.
abbrev pub obeys : FollowConfig → Stand → BatchKind → List Message → Follows
obeys c s kinds.Cdata messages = and_then (drafts s messages) (λ (d : Draft). after_data c s d)
obeys c s kinds.Cretry messages = and_then (drafts s messages) (λ (d : Draft). after_retry c s d)
obeys c s kind messages = Done s

-- A batch that the machine has heard, by its verdict.
abbrev pub judged : FollowConfig → Stand → Batch → Verdict → Follows
judged c s batch PassesOver = Done s
judged c s batch (Refuses fault) = refuses s fault
judged c s batch (EndsBy by) = Done (ends s by)
judged c s batch GoesOn = obeys c s batch.kind batch.messages

-- A batch goes to the machine first, and then by what the machine says of its kind.
abbrev pub hears : FollowConfig → Stand → Batch → Follows
hears c s batch = judged c (record s { machine = (received s.machine batch.kind).1 }) batch (verdict (received s.machine batch.kind).0 batch)

-- ---- an idle turn

-- In Decided it begins a round by an SRETRY with a request, unless it has subscribed.
abbrev pub retries : FollowConfig → Stand → Follows
retries c s = writes_request c (record s { retried = true }) kinds.Sretry []

abbrev pub rests : FollowConfig → Stand → State → Follows
rests c s Decided = if c.subscribe then Done s else retries c s
rests c s other = Done s

-- The session ends with the last idle turn that is allowed, at which nothing is written.
abbrev pub idles : FollowConfig → Stand → ℕ → Follows
idles c s turns = if nat_le c.idle turns then Done (ends s (end.IdleOut turns)) else rests c s s.machine.state

-- ---- a step

-- The other end closed, between two batches or in one of which that many octets are there.
abbrev pub cut_off : Stand → ℕ → Stand
cut_off s have = ends s (if have == 0 then end.Ended else end.Torn have)

-- A step of a session that is not over.
abbrev pub steps : FollowConfig → Stand → Step → Follows
steps c s (Came batch) = hears c s batch
steps c s (Faulty fault) = refuses s fault
steps c s (Quiet turns) = idles c s turns
steps c s Spent = Done (ends s end.Enough)
steps c s (Cut have) = Done (cut_off s have)

-- A step. After the session nothing is done.
abbrev pub steps_unless : {E : Type 0} → FollowConfig → Stand → Step → Option E → Follows
steps_unless c s step None = steps c s step
steps_unless c s step (Some over) = Done s

abbrev pub react : FollowConfig → Stand → Step → Follows
react c s step = steps_unless c s step s.over

-- The last octet that the limit allows ends a session that is not over.
abbrev pub enough_unless : {E : Type 0} → Stand → Option E → Stand
enough_unless s None = ends s end.Enough
enough_unless s (Some over) = s

abbrev pub enough : Stand → Stand
enough s = enough_unless s s.over

-- ---- a session

-- What is noted of a standing.
abbrev pub note : Stand → Notes
note s = s.notes

-- A session with a mirror: what follows from each step.
abbrev pub session : FollowConfig → Held → List Turn → Follows
session c mirror turns = serve (react c) note (begin mirror) (heard false c.octets turns).0
