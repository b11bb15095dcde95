-- What stays true of the notes of a validator in a whole session.
use Rattle.std.proofs.Common.{ℕ, ◌+◌, Bool, true, false, cond, nat_le, nat_lt, length, List, [], ◌∷◌, ◌++◌, Option, Some, None}
use Rattle.wire_base.specs.Turns.{Turn}
use Rattle.swima_model.specs.declared.report.Report.{Report}
use Rattle.pb_batch.specs.declared.batch.Batch.{Batch}
use Rattle.pb_batch.specs.declared.batch.Message.{Message}
use Rattle.pb_batch.specs.declared.kind.BatchKind.{BatchKind}
use Rattle.pb_batch.specs.declared.kind.BatchKind.TheVariants as kinds
use Rattle.pb_machine.specs.declared.machine.State.{State}
use Rattle.pb_machine.specs.declared.machine.State.TheVariants.{Init, ServerWorking, ClientWorking, Decided, End}
use Rattle.pb_machine.specs.Table.{received}
use Rattle.validator_core.specs.declared.mirror.Taken.{Taken}
use Rattle.validator_core.specs.Held.{Held}
use Rattle.validator_core.specs.Judge.{judge}
use Rattle.session_talk.specs.Talk.{Talk, Done, Note}
use Rattle.session_talk.specs.Keeping.{Keeps}
use Rattle.session_talk.proofs.Keeping.{keeps_each, keeps_then}
use Rattle.session_hear.specs.Step.{Step, Came, Faulty, Quiet, Spent, Cut}
use Rattle.session_hear.specs.Hearing.{heard}
use Rattle.session_hear.specs.Serving.{serve}
use Rattle.session_rules.specs.declared.config.FollowConfig.{FollowConfig}
use Rattle.session_rules.specs.declared.end.SessionEnd.TheVariants as end
use Rattle.session_rules.specs.declared.verdict.Verdict.{Verdict}
use Rattle.session_rules.specs.declared.verdict.Verdict.TheVariants.{PassesOver, Refuses, EndsBy, GoesOn}
use Rattle.session_rules.specs.declared.word.ValidatorWord.{ValidatorWord as Word}
use Rattle.session_rules.specs.declared.word.ValidatorWord.TheVariants.{Reports, Lists, Failure}
use Rattle.session_rules.specs.Following.{Notes, Stand, Draft, begin, draft, ends, nothing_noted}
use Rattle.session_rules.specs.FollowRules as following
use Rattle.session_rules.specs.Messages.{error_attribute, pa_message}
use Rattle.session_rules.specs.Numbers.{next_number}
use Rattle.session_rules.specs.Saying.{Said, Says, Refused, says, swima_body}
use Rattle.session_rules.specs.Taking.{NoQuestion, NoReply, takes, speaks, takes_said, takes_body, takes_message, drafts, with_answer, with_mirror, SUPPORTED, word_of}
use Rattle.session_rules.specs.Verdict.{verdict}

-- It stays true where the mirror takes a report and its note is so, where the answer is noted, and
-- where Errors are.
module _ (given kept : Notes → Type 0)
    (reports : (notes : Notes) (report : Report) → kept notes → given (with_mirror notes report (judge notes.mirror report).1) → kept (with_mirror notes report (judge notes.mirror report).1))
    (answered : (notes : Notes) (report : Report) (answer : Taken) → kept notes → kept (with_answer notes report answer))
    (errors : (notes : Notes) (codes : List ℕ) → kept notes → kept (record notes { errors = codes })) where
  abbrev DraftKept : Draft → Type 0
  DraftKept d = kept d.notes

  abbrev StandKept : Stand → Type 0
  StandKept s = kept s.notes

  abbrev KeepsDraft : Talk NoQuestion NoReply Notes Draft → Type 0
  KeepsDraft talk = Keeps given kept DraftKept talk

  abbrev KeepsStand : Talk NoQuestion NoReply Notes Stand → Type 0
  KeepsStand talk = Keeps given kept StandKept talk

  -- ---- a message

  takes_keeps : (d : Draft) (report : Report) → DraftKept d → KeepsDraft (takes d report)
  takes_keeps d report here = λ so.
      let moved : kept (with_mirror d.notes report (judge d.notes.mirror report).1) = reports d.notes report here so in
      let after : kept (with_answer (with_mirror d.notes report (judge d.notes.mirror report).1) report (judge d.notes.mirror report).0) = answered (with_mirror d.notes report (judge d.notes.mirror report).1) report (judge d.notes.mirror report).0 moved in
      (moved, λ also. (after, after))

  speaks_keeps : (d : Draft) (word : Word) → DraftKept d → KeepsDraft (speaks d word)
  speaks_keeps d (Reports report) here = takes_keeps d report here
  speaks_keeps d (Lists requests) here = here
  speaks_keeps d (Failure code) here = here

  said_keeps : (d : Draft) (said : Said Word) → DraftKept d → KeepsDraft (takes_said d said)
  said_keeps d (Says words) here = keeps_each given kept DraftKept speaks d words speaks_keeps here
  said_keeps d (Refused (Some error)) here = answers_kept (nat_lt (length d.answers) 63) (record d { answers = d.answers ++ pa_message (next_number d.numbered) (error_attribute error ∷ []) ∷ []; numbered = next_number d.numbered }) d here here
    where
      answers_kept : (test : Bool) (one other : Draft) → DraftKept one → DraftKept other → DraftKept (cond test one other)
      answers_kept true one other first second = first
      answers_kept false one other first second = second
  said_keeps d (Refused None) here = here

  body_keeps : (d : Draft) (body : Option (List ℕ)) → DraftKept d → KeepsDraft (takes_body d body)
  body_keeps d (Some body) here = said_keeps d (says SUPPORTED word_of body) here
  body_keeps d None here = here

  message_keeps : (d : Draft) (message : Message) → DraftKept d → KeepsDraft (takes_message d message)
  message_keeps d message here = body_keeps d (swima_body message) here

  drafts_keeps : (s : Stand) (messages : List Message) → StandKept s → KeepsDraft (drafts s messages)
  drafts_keeps s messages here = keeps_each given kept DraftKept takes_message (draft s) messages message_keeps here

  -- ---- a step

  closes_keeps : (s : Stand) (enough : Bool) → StandKept s → KeepsStand (following.closes_if s enough)
  closes_keeps s true here = here
  closes_keeps s false here = here

  data_keeps : (c : FollowConfig) (s : Stand) (answers : List Message) (more : Bool) → StandKept s → KeepsStand (following.answers_data c s answers more)
  data_keeps c s answers true here = here
  data_keeps c s answers false here = λ so. (here, closes_keeps (record (following.sends s kinds.Outcome) { tries = None; rounds = s.rounds + 1 }) (nat_le c.rounds (s.rounds + 1)) here)

  retry_keeps : (c : FollowConfig) (s : Stand) (answers : List Message) (more : Bool) → StandKept s → KeepsStand (following.answers_retry c s answers more)
  retry_keeps c s answers true here = here
  retry_keeps c s answers false here = here

  obeys_keeps : (c : FollowConfig) (s : Stand) (batch : BatchKind) (messages : List Message) → StandKept s → KeepsStand (following.obeys c s batch messages)
  obeys_keeps c s kinds.Cdata messages here =
      keeps_then given kept DraftKept StandKept (drafts s messages) (λ (d : Draft). following.after_data c s d) (drafts_keeps s messages here)
      (λ d there. data_keeps c (record (following.drafted s d) { retried = false }) d.answers (following.asks_more (record (following.drafted s d) { retried = false })) (errors d.notes (d.notes.errors ++ d.errors) there))
  obeys_keeps c s kinds.Cretry messages here =
      keeps_then given kept DraftKept StandKept (drafts s messages) (λ (d : Draft). following.after_retry c s d) (drafts_keeps s messages here)
      (λ d there. retry_keeps c (following.drafted s d) d.answers s.retried (errors d.notes (d.notes.errors ++ d.errors) there))
  obeys_keeps c s kinds.Sdata messages here = here
  obeys_keeps c s kinds.Outcome messages here = here
  obeys_keeps c s kinds.Sretry messages here = here
  obeys_keeps c s kinds.Close messages here = here

  judged_keeps : (c : FollowConfig) (s : Stand) (batch : Batch) (by : Verdict) → StandKept s → KeepsStand (following.judged c s batch by)
  judged_keeps c s batch PassesOver here = here
  judged_keeps c s batch (Refuses fault) here = here
  judged_keeps c s batch (EndsBy by) here = here
  judged_keeps c s batch GoesOn here = obeys_keeps c s batch.kind batch.messages here

  rests_keeps : (c : FollowConfig) (s : Stand) (state : State) → StandKept s → KeepsStand (following.rests c s state)
  rests_keeps c s Decided here = unless_subscribed c.subscribe (Done s) (following.retries c s) here here
    where
      unless_subscribed : (test : Bool) (one other : Talk NoQuestion NoReply Notes Stand) → KeepsStand one → KeepsStand other → KeepsStand (cond test one other)
      unless_subscribed true one other first second = first
      unless_subscribed false one other first second = second
  rests_keeps c s Init here = here
  rests_keeps c s ServerWorking here = here
  rests_keeps c s ClientWorking here = here
  rests_keeps c s End here = here

  idles_keeps : (c : FollowConfig) (s : Stand) (turns : ℕ) → StandKept s → KeepsStand (following.idles c s turns)
  idles_keeps c s turns here = either (nat_le c.idle turns) (Done (ends s (end.IdleOut turns))) (following.rests c s s.machine.state) here (rests_keeps c s s.machine.state here)
    where
      either : (test : Bool) (one other : Talk NoQuestion NoReply Notes Stand) → KeepsStand one → KeepsStand other → KeepsStand (cond test one other)
      either true one other first second = first
      either false one other first second = second

  steps_keeps : (c : FollowConfig) (s : Stand) (step : Step) → StandKept s → KeepsStand (following.steps c s step)
  steps_keeps c s (Came batch) here =
      judged_keeps c (record s { machine = (received s.machine batch.kind).1 }) batch (verdict (received s.machine batch.kind).0 batch) here
  steps_keeps c s (Faulty fault) here = here
  steps_keeps c s (Quiet turns) here = idles_keeps c s turns here
  steps_keeps c s Spent here = here
  steps_keeps c s (Cut have) here = here

  unless_keeps : {E : Type 0} (c : FollowConfig) (s : Stand) (step : Step) (over : Option E) → StandKept s → KeepsStand (following.steps_unless c s step over)
  unless_keeps c s step None here = steps_keeps c s step here
  unless_keeps c s step (Some over) here = here

  serve_keeps : (c : FollowConfig) (s : Stand) (steps : List Step) → StandKept s → KeepsStand (serve (following.react c) following.note s steps)
  serve_keeps c s [] here = here
  serve_keeps c s (step ∷ steps) here =
      keeps_then given kept StandKept StandKept (following.react c s step) (λ next. Note (following.note next) (serve (following.react c) following.note next steps))
      (unless_keeps c s step s.over here) (λ next here so. (here, serve_keeps c next steps here))

  pub session_keeps : (c : FollowConfig) (mirror : Held) (turns : List Turn) → kept (nothing_noted mirror) → Keeps given kept StandKept (following.session c mirror turns)
  session_keeps c mirror turns here = serve_keeps c (begin mirror) (heard false c.octets turns).0 here
