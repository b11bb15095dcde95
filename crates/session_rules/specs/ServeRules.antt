-- The rules of a collector, which is the client of PB-TNC (RFC 5793, section 3.2), for each step
-- that it hears.
use Rattle.std.specs.Prelude.{◌==◌, ℕ, Bool, true, false, List, [], ◌∷◌, Option, Some, None, nat_le, if◌then◌else◌}
use Rattle.wire_base.specs.Turns.{Turn}
use Rattle.swima_model.specs.declared.report.Point.{Point}
use Rattle.swima_request.specs.declared.request.Request.{Request}
use Rattle.swima_subs.specs.declared.waiting.Waiting.{Waiting}
use Rattle.pb_batch.specs.declared.batch.Batch.{Batch}
use Rattle.pb_batch.specs.declared.batch.Message.{Message}
use Rattle.pb_batch.specs.declared.fault.PbFault.{PbFault}
use Rattle.pb_batch.specs.declared.kind.BatchKind.{BatchKind}
use Rattle.pb_batch.specs.declared.kind.BatchKind.TheVariants as kinds
use Rattle.pb_batch.specs.Written.{fault_batch_of, written}
use Rattle.pb_machine.specs.declared.machine.State.{State}
use Rattle.pb_machine.specs.declared.machine.State.TheVariants.{Decided}
use Rattle.pb_machine.specs.Table.{received, sent}
use Rattle.session_talk.specs.Talk.{Talk, Done, Ask, Write, Note, and_then, quietly}
use Rattle.session_hear.specs.Step.{Step, Came, Faulty, Quiet, Spent, Cut}
use Rattle.session_hear.specs.Hearing.{heard}
use Rattle.session_hear.specs.Serving.{serve}
use Rattle.session_rules.specs.declared.config.ServeConfig.{ServeConfig}
use Rattle.session_rules.specs.declared.end.SessionEnd.TheVariants as end
use Rattle.session_rules.specs.Messages.{client_batch}
use Rattle.session_rules.specs.declared.verdict.Verdict.{Verdict}
use Rattle.session_rules.specs.declared.verdict.Verdict.TheVariants.{PassesOver, Refuses, EndsBy, GoesOn}
use Rattle.session_rules.specs.Verdict.{verdict}
use Rattle.session_rules.specs.Questions.{Question, Reply, AskMoved}
use Rattle.session_rules.specs.Serving.{Notes, Stand, Draft, begin, ends, with_errors, with_reports}
use Rattle.session_rules.specs.Answering.{drafts}

-- A talk of a collector.
abbrev pub Serves : Type 0
Serves = Talk Question Reply Notes Stand

-- The machine, once a batch of the kind is sent.
abbrev pub sends : Stand → BatchKind → Stand
sends s kind = record s { machine = sent s.machine kind }

-- ---- a fault (RFC 5793, section 4.9)

-- A fault is answered by the CLOSE that reports it, and ends the session.
abbrev pub refuses : Stand → PbFault → Serves
refuses s fault = Write (written (fault_batch_of false fault)) (Done (ends (sends s kinds.Close) (end.Refused fault.code fault.offset)))

-- ---- SDATA and SRETRY

-- What was drafted is written as a CDATA, and then noted.
abbrev pub writes_draft : Stand → Draft → Serves
writes_draft s d =
    let errors : Notes = with_errors s.notes d in
    let all : Notes = with_reports errors d in
    Write (written (client_batch kinds.Cdata d.messages)) (Note errors (Note all (Done (record s { machine = sent s.machine kinds.Cdata; subs = d.subs; numbered = d.numbered; notes = all }))))

-- After SDATA or SRETRY it writes CDATA, with the answers to the messages.
abbrev pub replies : ServeConfig → Stand → List Message → Serves
replies c s messages = and_then (quietly (drafts c s messages)) (λ (d : Draft). writes_draft s d)

-- ---- RESULT

-- As many reports were written as are wanted.
abbrev pub is_enough : Option ℕ → ℕ → Bool
is_enough None reports = false
is_enough (Some wanted) reports = nat_le wanted reports

-- After RESULT it writes nothing, or closes the session where as many reports were written as are
-- wanted.
abbrev pub closes_if : Stand → Bool → Serves
closes_if s true = Write (written (client_batch kinds.Close [])) (Done (ends (sends s kinds.Close) end.Closed))
closes_if s false = Done s

-- ---- a batch

-- A batch that the machine goes on with, by its kind. No other kind comes to a client, and a CLOSE
-- has ended the session.
abbrev pub obeys : ServeConfig → Stand → BatchKind → List Message → Serves
obeys c s kinds.Sdata messages = replies c s messages
obeys c s kinds.Sretry messages = replies c s messages
obeys c s kinds.Outcome messages = closes_if s (is_enough c.reports s.notes.reports)
obeys c s kind messages = Done s

-- A batch that the machine has heard, by its verdict.
abbrev pub judged : ServeConfig → Stand → Batch → Verdict → Serves
judged c s batch PassesOver = Done s
judged c s batch (Refuses fault) = refuses s fault
judged c s batch (EndsBy by) = Done (ends s by)
judged c s batch GoesOn = obeys c s batch.kind batch.messages

-- A batch goes to the machine first, and then by what the machine says of its kind.
abbrev pub hears : ServeConfig → Stand → Batch → Serves
hears c s batch = judged c (record s { machine = (received s.machine batch.kind).1 }) batch (verdict (received s.machine batch.kind).0 batch)

-- ---- an idle turn

-- A talk about whether something has changed. It writes nothing.
abbrev pub Looking : Type 0
Looking = Talk Question Reply (Unit {0}) Bool

-- Whether something has changed since the point up to which a subscription was fulfilled.
abbrev pub looks_from : Request → Option Point → Looking
looks_from request None = Done false
looks_from request (Some place) = Ask (AskMoved place request.targets) (λ moved. Done moved)

-- So of some subscription: the desk is asked of them in order, until one has moved.
abbrev pub looks_on : Looking → Bool → Looking
looks_on later true = Done true
looks_on later false = later

abbrev pub looks : List Waiting → Looking
looks [] = Done false
looks (held ∷ subs) = and_then (looks_from held.request held.place) (λ moved. looks_on (looks subs) moved)

-- Where some subscription has moved it writes an empty CRETRY (RFC 8412, section 3.8.5).
abbrev pub retries_if : Stand → Bool → Serves
retries_if s true = Write (written (client_batch kinds.Cretry [])) (Done (sends s kinds.Cretry))
retries_if s false = Done s

-- Nothing is looked at in states other than Decided.
abbrev pub rests : Stand → State → Serves
rests s Decided = and_then (quietly (looks s.subs)) (λ moved. retries_if s moved)
rests s other = Done s

-- The session ends with the last idle turn that is allowed, at which nothing is looked at.
abbrev pub idles : ServeConfig → Stand → ℕ → Serves
idles c s turns = if nat_le c.idle turns then Done (ends s (end.IdleOut turns)) else rests s s.machine.state

-- ---- a step

-- The other end closed, between two batches or in one of which that many octets are there.
abbrev pub cut_off : Stand → ℕ → Stand
cut_off s have = ends s (if have == 0 then end.Ended else end.Torn have)

-- A step of a session that is not over.
abbrev pub steps : ServeConfig → Stand → Step → Serves
steps c s (Came batch) = hears c s batch
steps c s (Faulty fault) = refuses s fault
steps c s (Quiet turns) = idles c s turns
steps c s Spent = Done (ends s end.Enough)
steps c s (Cut have) = Done (cut_off s have)

-- A step. After the session nothing is done.
abbrev pub steps_unless : {E : Type 0} → ServeConfig → Stand → Step → Option E → Serves
steps_unless c s step None = steps c s step
steps_unless c s step (Some over) = Done s

abbrev pub react : ServeConfig → Stand → Step → Serves
react c s step = steps_unless c s step s.over

-- The last octet that the limit allows ends a session that is not over.
abbrev pub enough_unless : {E : Type 0} → Stand → Option E → Stand
enough_unless s None = ends s end.Enough
enough_unless s (Some over) = s

abbrev pub enough : Stand → Stand
enough s = enough_unless s s.over

-- ---- a session

-- What is noted of a standing.
abbrev pub note : Stand → Notes
note s = s.notes

-- A session: first an empty CDATA, and then what follows from each step.
abbrev pub session : ServeConfig → List Turn → Serves
session c turns = Write (written (client_batch kinds.Cdata [])) (serve (react c) note begin (heard true c.octets turns).0)
