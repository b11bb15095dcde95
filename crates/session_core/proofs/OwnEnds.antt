-- No rule of a validator ends a session as a fault of the link does, or as running out of memory.
use Rattle.std.proofs.Common.{ℕ, ◌+◌, Bool, true, false, cond, nat_le, List, [], ◌∷◌, Option, Some, None}
use Rattle.std.specs.Prelude.{◌||◌, ◌==◌}
use Rattle.wire_base.specs.Turns.{Turn}
use Rattle.swima_model.specs.declared.report.Report.{Report}
use Rattle.pb_batch.specs.declared.batch.Batch.{Batch}
use Rattle.pb_batch.specs.declared.batch.Message.{Message}
use Rattle.pb_batch.specs.declared.batch.Message.TheVariants.{Assessment, Error, Frame, Pa, Recommendation}
use Rattle.pb_batch.specs.declared.kind.BatchKind.{BatchKind}
use Rattle.pb_batch.specs.declared.kind.BatchKind.TheVariants as kinds
use Rattle.pb_machine.specs.declared.machine.Heard.{Heard}
use Rattle.pb_machine.specs.declared.machine.Heard.TheVariants as heard-as
use Rattle.pb_machine.specs.declared.machine.State.{State}
use Rattle.pb_machine.specs.declared.machine.State.TheVariants.{Init, ServerWorking, ClientWorking, Decided, End}
use Rattle.pb_machine.specs.Table.{received}
use Rattle.validator_core.specs.Held.{Held}
use Rattle.session_talk.specs.Talk.{Talk, Done, Ask, Write, Note}
use Rattle.session_talk.specs.Course.{Answers}
use Rattle.session_talk.specs.Keeping.{Keeps, NotesAre}
use Rattle.session_talk.proofs.Keeping.{keeps_then, keeps_each, keeps_gives}
use Rattle.session_hear.specs.Step.{Step, Came, Faulty, Quiet, Spent, Cut}
use Rattle.session_hear.specs.Hearing.{heard}
use Rattle.session_hear.specs.Serving.{serve}
use Rattle.session_rules.specs.declared.config.FollowConfig.{FollowConfig}
use Rattle.session_rules.specs.declared.end.SessionEnd.{SessionEnd}
use Rattle.session_rules.specs.declared.end.SessionEnd.TheVariants as end
use Rattle.session_rules.specs.declared.verdict.Verdict.{Verdict}
use Rattle.session_rules.specs.declared.verdict.Verdict.TheVariants.{PassesOver, Refuses, EndsBy, GoesOn}
use Rattle.session_rules.specs.declared.word.ValidatorWord.{ValidatorWord as Word}
use Rattle.session_rules.specs.declared.word.ValidatorWord.TheVariants.{Reports, Lists, Failure}
use Rattle.session_rules.specs.Following.{Notes, Stand, Draft, begin, draft, ends}
use Rattle.session_rules.specs.FollowRules as following
use Rattle.session_rules.specs.Saying.{Said, Says, Refused, says, swima_body}
use Rattle.session_rules.specs.Taking.{NoQuestion, NoReply, takes, speaks, takes_said, takes_body, takes_message, drafts, SUPPORTED, word_of}
use Rattle.session_rules.specs.Transcripts.{nobody, Follows}
use Rattle.session_rules.specs.Verdict.{ended_by, error_in, is_close, or_later, peer_error, verdict}

-- An end that a rule may give.
abbrev pub ByRule : Option SessionEnd → Type 0
ByRule (Some end.LinkFault) = ⊥
ByRule (Some end.Memory) = ⊥
ByRule by = Unit {0}

abbrev StandByRule : Stand → Type 0
StandByRule s = ByRule s.over

abbrev AnyNotes : Notes → Type 0
AnyNotes notes = Unit {0}

abbrev AnyDraft : Draft → Type 0
AnyDraft d = Unit {0}

abbrev KeepsDraft : Talk NoQuestion NoReply Notes Draft → Type 0
KeepsDraft talk = Keeps AnyNotes AnyNotes AnyDraft talk

abbrev KeepsStand : Talk NoQuestion NoReply Notes Stand → Type 0
KeepsStand talk = Keeps AnyNotes AnyNotes StandByRule talk

-- ---- verdicts

abbrev VerdictByRule : Verdict → Type 0
VerdictByRule (EndsBy by) = ByRule (Some by)
VerdictByRule PassesOver = Unit {0}
VerdictByRule (Refuses fault) = Unit {0}
VerdictByRule GoesOn = Unit {0}

counted_by : (counts : Bool) (vendor code : ℕ) → ByRule (cond counts (Some (end.PeerError vendor code)) None)
counted_by true vendor code = tt
counted_by false vendor code = tt

error_by : (closing : Bool) (message : Message) → ByRule (error_in closing message)
error_by closing (Error fatal vendor code info) = counted_by (fatal || closing) vendor code
error_by closing (Pa excl vendor subtype collector validator body) = tt
error_by closing (Assessment result) = tt
error_by closing (Recommendation code) = tt
error_by closing (Frame noskip vendor kind body) = tt

later_by : (first later : Option SessionEnd) → ByRule first → ByRule later → ByRule (or_later first later)
later_by (Some by) later one other = one
later_by None later one other = other

peers_by : (closing : Bool) (messages : List Message) → ByRule (peer_error closing messages)
peers_by closing [] = tt
peers_by closing (message ∷ messages) = later_by (error_in closing message) (peer_error closing messages) (error_by closing message) (peers_by closing messages)

ended_so : (kind : BatchKind) (first : Option SessionEnd) → ByRule first → VerdictByRule (ended_by kind first)
ended_so kind (Some by) so = so
ended_so kinds.Close None so = tt
ended_so kinds.Cdata None so = tt
ended_so kinds.Sdata None so = tt
ended_so kinds.Outcome None so = tt
ended_so kinds.Cretry None so = tt
ended_so kinds.Sretry None so = tt

verdict_so : (said : Heard) (batch : Batch) → VerdictByRule (verdict said batch)
verdict_so heard-as.Ignored batch = tt
verdict_so heard-as.Unexpected batch = tt
verdict_so heard-as.Go batch = ended_so batch.kind (peer_error (is_close batch.kind) batch.messages) (peers_by (is_close batch.kind) batch.messages)

-- ---- what is taken of a batch

takes_keeps : (d : Draft) (report : Report) → KeepsDraft (takes d report)
takes_keeps d report = λ so. (tt, λ also. (tt, tt))

speaks_keeps : (d : Draft) (word : Word) → AnyDraft d → KeepsDraft (speaks d word)
speaks_keeps d (Reports report) any = takes_keeps d report
speaks_keeps d (Lists requests) any = tt
speaks_keeps d (Failure code) any = tt

said_keeps : (d : Draft) (said : Said Word) → KeepsDraft (takes_said d said)
said_keeps d (Says words) = keeps_each AnyNotes AnyNotes AnyDraft speaks d words speaks_keeps tt
said_keeps d (Refused (Some error)) = tt
said_keeps d (Refused None) = tt

body_keeps : (d : Draft) (body : Option (List ℕ)) → KeepsDraft (takes_body d body)
body_keeps d (Some body) = said_keeps d (says SUPPORTED word_of body)
body_keeps d None = tt

message_keeps : (d : Draft) (message : Message) → AnyDraft d → KeepsDraft (takes_message d message)
message_keeps d message any = body_keeps d (swima_body message)

drafts_keeps : (s : Stand) (messages : List Message) → KeepsDraft (drafts s messages)
drafts_keeps s messages = keeps_each AnyNotes AnyNotes AnyDraft takes_message (draft s) messages message_keeps tt

-- ---- a step

closes_keeps : (s : Stand) (enough : Bool) → StandByRule s → KeepsStand (following.closes_if s enough)
closes_keeps s true so = tt
closes_keeps s false so = so

data_keeps : (c : FollowConfig) (s : Stand) (answers : List Message) (more : Bool) → StandByRule s → KeepsStand (following.answers_data c s answers more)
data_keeps c s answers true so = so
data_keeps c s answers false so = λ noted. (tt, closes_keeps (record (following.sends s kinds.Outcome) { tries = None; rounds = s.rounds + 1 }) (nat_le c.rounds (s.rounds + 1)) so)

retry_keeps : (c : FollowConfig) (s : Stand) (answers : List Message) (more : Bool) → StandByRule s → KeepsStand (following.answers_retry c s answers more)
retry_keeps c s answers true so = so
retry_keeps c s answers false so = so

obeys_keeps : (c : FollowConfig) (s : Stand) (batch : BatchKind) (messages : List Message) → StandByRule s → KeepsStand (following.obeys c s batch messages)
obeys_keeps c s kinds.Cdata messages so =
    keeps_then AnyNotes AnyNotes AnyDraft StandByRule (drafts s messages) (λ (d : Draft). following.after_data c s d) (drafts_keeps s messages)
    (λ d any. data_keeps c (record (following.drafted s d) { retried = false }) d.answers (following.asks_more (record (following.drafted s d) { retried = false })) so)
obeys_keeps c s kinds.Cretry messages so =
    keeps_then AnyNotes AnyNotes AnyDraft StandByRule (drafts s messages) (λ (d : Draft). following.after_retry c s d) (drafts_keeps s messages)
    (λ d any. retry_keeps c (following.drafted s d) d.answers s.retried so)
obeys_keeps c s kinds.Sdata messages so = so
obeys_keeps c s kinds.Outcome messages so = so
obeys_keeps c s kinds.Sretry messages so = so
obeys_keeps c s kinds.Close messages so = so

judged_keeps : (c : FollowConfig) (s : Stand) (batch : Batch) (by : Verdict) → VerdictByRule by → StandByRule s → KeepsStand (following.judged c s batch by)
judged_keeps c s batch PassesOver may so = so
judged_keeps c s batch (Refuses fault) may so = tt
judged_keeps c s batch (EndsBy by) may so = may
judged_keeps c s batch GoesOn may so = obeys_keeps c s batch.kind batch.messages so

-- Either of two talks.
either : (test : Bool) (one other : Talk NoQuestion NoReply Notes Stand) → KeepsStand one → KeepsStand other → KeepsStand (cond test one other)
either true one other first second = first
either false one other first second = second

rests_keeps : (c : FollowConfig) (s : Stand) (state : State) → StandByRule s → KeepsStand (following.rests c s state)
rests_keeps c s Decided so = either c.subscribe (Done s) (following.retries c s) so so
rests_keeps c s Init so = so
rests_keeps c s ServerWorking so = so
rests_keeps c s ClientWorking so = so
rests_keeps c s End so = so

cut_by : (at : Bool) (have : ℕ) → ByRule (Some (cond at end.Ended (end.Torn have)))
cut_by true have = tt
cut_by false have = tt

steps_keeps : (c : FollowConfig) (s : Stand) (step : Step) → StandByRule s → KeepsStand (following.steps c s step)
steps_keeps c s (Came batch) so =
    judged_keeps c (record s { machine = (received s.machine batch.kind).1 }) batch (verdict (received s.machine batch.kind).0 batch) (verdict_so (received s.machine batch.kind).0 batch) so
steps_keeps c s (Faulty fault) so = tt
steps_keeps c s (Quiet turns) so = either (nat_le c.idle turns) (Done (ends s (end.IdleOut turns))) (following.rests c s s.machine.state) tt (rests_keeps c s s.machine.state so)
steps_keeps c s Spent so = tt
steps_keeps c s (Cut have) so = cut_by (have == 0) have

unless_keeps : {E : Type 0} (c : FollowConfig) (s : Stand) (step : Step) (over : Option E) → StandByRule s → KeepsStand (following.steps_unless c s step over)
unless_keeps c s step None so = steps_keeps c s step so
unless_keeps c s step (Some over) so = so

serve_keeps : (c : FollowConfig) (s : Stand) (steps : List Step) → StandByRule s → KeepsStand (serve (following.react c) following.note s steps)
serve_keeps c s [] so = so
serve_keeps c s (step ∷ steps) so =
    keeps_then AnyNotes AnyNotes StandByRule StandByRule (following.react c s step) (λ next. Note (following.note next) (serve (following.react c) following.note next steps))
    (unless_keeps c s step s.over so) (λ next here noted. (tt, serve_keeps c next steps here))

-- Nothing is said of notes.
any_notes : {A : Type 0} (replies : Answers NoQuestion NoReply) (talk : Talk NoQuestion NoReply Notes A) (places : List ℕ) → NotesAre replies AnyNotes talk places
any_notes replies (Done value) places = tt
any_notes replies (Ask question talk) places = elim question [ ]
any_notes replies (Write octets talk) places = any_notes replies talk places
any_notes replies (Note note talk) places = (tt, any_notes replies talk places)

-- ---- a session

pub ends_by_rule : (mirror : Held) (c : FollowConfig) (turns : List Turn) (octets : List ℕ) (stand : Stand) → Follows mirror c turns octets stand → ByRule stand.over
ends_by_rule mirror c turns octets stand follows =
    keeps_gives AnyNotes AnyNotes StandByRule nobody (following.session c mirror turns) [] octets stand
    (serve_keeps c (begin mirror) (heard false c.octets turns).0 tt) (any_notes nobody (following.session c mirror turns) []) follows
