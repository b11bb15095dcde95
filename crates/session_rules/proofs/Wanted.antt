-- Each request of a session asks for what the mirror wants that is noted then.
use Rattle.std.proofs.Common.{◌≡◌, ℕ, zero, suc, ◌+◌, ◌<◌, ◌%◌, ◌^◌, ◌&&◌, arith, Bool, true, false, cond, nat_le, nat_lt, length, List, [], ◌∷◌, ◌++◌, Option, Some, None, inl, inr, refl, sym, ap, ◌∙◌}
use Rattle.std.specs.Prelude.{◌==◌}
use Rattle.std.specs.List.{AllByRecursion}
use Rattle.std.proofs.lemmas.Bool.{eqb-true, false_from_ne_true}
use Rattle.wire_base.specs.Turns.{Turn}
use Rattle.swima_model.specs.declared.report.Report.{Report}
use Rattle.pb_batch.specs.declared.batch.Batch.{Batch}
use Rattle.pb_batch.specs.declared.batch.Message.{Message}
use Rattle.pb_batch.specs.declared.batch.Message.TheVariants.{Assessment}
use Rattle.pb_batch.specs.declared.fault.PbFault.{PbFault}
use Rattle.pb_batch.specs.declared.kind.BatchKind.{BatchKind}
use Rattle.pb_batch.specs.declared.kind.BatchKind.TheVariants as kinds
use Rattle.pb_batch.specs.Written.{fault_batch_of, written}
use Rattle.pb_machine.specs.declared.machine.State.{State}
use Rattle.pb_machine.specs.declared.machine.State.TheVariants.{Init, ServerWorking, ClientWorking, Decided, End}
use Rattle.pb_machine.specs.Table.{received}
use Rattle.validator_core.specs.Held.{Held}
use Rattle.validator_core.specs.Judge.{judge}
use Rattle.validator_core.specs.Want.{want}
use Rattle.session_talk.specs.Talk.{Talk, Done, Ask, Write, Note}
use Rattle.session_talk.specs.Keeping.{Writes}
use Rattle.session_talk.proofs.Writing.{writes_then, writes_each}
use Rattle.session_hear.specs.Step.{Step, Came, Faulty, Quiet, Spent, Cut}
use Rattle.session_hear.specs.Hearing.{heard}
use Rattle.session_hear.specs.Serving.{serve}
use Rattle.session_rules.specs.declared.config.FollowConfig.{FollowConfig}
use Rattle.session_rules.specs.declared.end.SessionEnd.TheVariants as end
use Rattle.session_rules.specs.declared.verdict.Verdict.{Verdict}
use Rattle.session_rules.specs.declared.verdict.Verdict.TheVariants.{PassesOver, Refuses, EndsBy, GoesOn}
use Rattle.session_rules.specs.declared.word.ValidatorWord.{ValidatorWord as Word}
use Rattle.session_rules.specs.declared.word.ValidatorWord.TheVariants.{Reports, Lists, Failure}
use Rattle.session_rules.specs.Following.{Notes, Stand, Draft, begin, draft, ends, nothing_noted}
use Rattle.session_rules.specs.FollowRules as following
use Rattle.session_rules.specs.Messages.{error_attribute, pa_message, server_batch}
use Rattle.session_rules.specs.Numbers.{DO_NOT_KNOW, next_number}
use Rattle.session_rules.specs.Saying.{Said, Says, Refused, says, swima_body}
use Rattle.session_rules.specs.Taking.{NoQuestion, NoReply, speaks, takes_said, takes_body, takes_message, drafts, with_answer, with_mirror, SUPPORTED, word_of}
use Rattle.session_rules.specs.Verdict.{verdict}
use Rattle.session_rules.specs.Wanted.{AsksNothing, AsksNot, AsksFor, AsksOf, RequestsAreWanted, StandsSo}

-- ---- the first request

-- The number after a number of four octets is one of four octets.
next_below : (n : ℕ) → next_number n < 2 ^ 32
next_below n = omega arith

not_none : (n : ℕ) → suc n ≡ 0 → ⊥
not_none n is = omega (arith, is)

not_one : (n : ℕ) → 0 < n → n < 4294967296 → (n + 1) % 4294967296 ≡ 1 → ⊥
not_one n some below is = omega (arith, some, below, is)

-- No request was made exactly where the next has the ID 1.
first_asked : (n : ℕ) → n < 2 ^ 32 → (n == 0) ≡ (next_number n == 1)
first_asked zero below = refl
first_asked (suc n) below =
    false_from_ne_true (suc n == 0) (λ same. not_none n (eqb-true (suc n) 0 same))
    ∙ sym (false_from_ne_true (next_number (suc n) == 1) (λ same. not_one (suc n) (omega arith) below (eqb-true (next_number (suc n)) 1 same)))

-- ---- a batch that is being written

all_append : {X : Type 0} (P : X → Type 0) (xs ys : List X) → AllByRecursion P xs → AllByRecursion P ys → AllByRecursion P (xs ++ ys)
all_append P [] ys first second = second
all_append P (x ∷ xs) ys first second = (first.0, all_append P xs ys first.1 second)

-- What is said of each batch, and of the end, with what stays true of the notes.
abbrev pub AsksAnd : FollowConfig → (Notes → Type 0) → Notes → List ℕ → Type 0
AsksAnd c kept notes octets = AsksOf c notes octets × kept notes

abbrev pub StandsAnd : (Notes → Type 0) → Notes → Stand → Type 0
StandsAnd kept notes stand = StandsSo notes stand × kept notes × kept stand.notes

-- It stays true where the mirror's answer to a report is noted, and where Errors are.
module _ (c : FollowConfig) (kept : Notes → Type 0)
    (answered : (notes : Notes) (report : Report) → kept notes → kept (with_answer (with_mirror notes report (judge notes.mirror report).1) report (judge notes.mirror report).0))
    (errors : (notes : Notes) (codes : List ℕ) → kept notes → kept (record notes { errors = codes })) where
  -- The mirror that was noted last is that of the draft, and no answer asks for anything.
  abbrev DraftSo : Notes → Draft → Type 0
  DraftSo notes d = (notes.mirror ≡ d.notes.mirror) × AllByRecursion AsksNothing d.answers × kept notes × kept d.notes

  abbrev WritesDraft : Notes → Talk NoQuestion NoReply Notes Draft → Type 0
  WritesDraft last talk = Writes (AsksAnd c kept) DraftSo last talk

  draft_if : (last : Notes) (test : Bool) (one other : Draft) → DraftSo last one → DraftSo last other → DraftSo last (cond test one other)
  draft_if last true one other first second = first
  draft_if last false one other first second = second

  speaks_writes : (last : Notes) (d : Draft) (word : Word) → DraftSo last d → WritesDraft last (speaks d word)
  speaks_writes last d (Reports report) here = let after = answered d.notes report here.3 in (refl, here.1, after, after)
  speaks_writes last d (Lists requests) here = here
  speaks_writes last d (Failure code) here = here

  said_writes : (last : Notes) (d : Draft) (said : Said Word) → DraftSo last d → WritesDraft last (takes_said d said)
  said_writes last d (Says words) here = writes_each (AsksAnd c kept) DraftSo speaks last d words speaks_writes here
  said_writes last d (Refused (Some error)) here =
      draft_if last (nat_lt (length d.answers) 63) (record d { answers = d.answers ++ pa_message (next_number d.numbered) (error_attribute error ∷ []) ∷ []; numbered = next_number d.numbered }) d
      (here.0, all_append AsksNothing d.answers (pa_message (next_number d.numbered) (error_attribute error ∷ []) ∷ []) here.1 (record { number = next_number d.numbered; error = error; is = refl }, tt), here.2, here.3) here
  said_writes last d (Refused None) here = here

  body_writes : (last : Notes) (d : Draft) (body : Option (List ℕ)) → DraftSo last d → WritesDraft last (takes_body d body)
  body_writes last d (Some body) here = said_writes last d (says SUPPORTED word_of body) here
  body_writes last d None here = here

  drafts_writes : (last : Notes) (s : Stand) (messages : List Message) → StandsAnd kept last s → WritesDraft last (drafts s messages)
  drafts_writes last s messages here = writes_each (AsksAnd c kept) DraftSo takes_message last (draft s) messages (λ noted d message there. body_writes noted d (swima_body message) there) (here.0.0, tt, here.1, here.2)

  -- ---- a step

  abbrev WritesStand : Notes → Talk NoQuestion NoReply Notes Stand → Type 0
  WritesStand last talk = Writes (AsksAnd c kept) (StandsAnd kept) last talk

  stand_if : (last : Notes) (test : Bool) (one other : Talk NoQuestion NoReply Notes Stand) → WritesStand last one → WritesStand last other → WritesStand last (cond test one other)
  stand_if last true one other first second = first
  stand_if last false one other first second = second

  asked : (last : Notes) (s : Stand) (kind : BatchKind) (answers : List Message) → StandsSo last s → AllByRecursion AsksNothing answers
      → AsksFor c last.mirror (written (server_batch kind (answers ++ following.request_message c s ∷ [])))
  asked last s kind answers here none = record {
    kind = kind;
    answers = answers;
    number = next_number s.numbered;
    request = following.next_request c s;
    is = refl;
    none = none;
    wants = ap (λ (mirror : Held). following.earliest_of (want mirror)) (sym here.0);
    of_kind = ap (λ (mirror : Held). mirror.kind) (sym here.0);
    of_all = refl;
    clears_nothing = refl;
    subscribes = ap (λ (b : Bool). c.subscribe && b) (first_asked s.asked here.1);
  }

  asked_not : (kind : BatchKind) (messages : List Message) → AllByRecursion AsksNothing messages → AsksNot (written (server_batch kind messages))
  asked_not kind messages none = record { kind = kind; messages = messages; is = refl; none = none }

  closes_writes : (last : Notes) (s : Stand) (enough : Bool) → StandsAnd kept last s → WritesStand last (following.closes_if s enough)
  closes_writes last s true here = ((inr (asked_not kinds.Close [] tt), here.1), here)
  closes_writes last s false here = here

  data_writes : (last : Notes) (s : Stand) (answers : List Message) (more : Bool) → StandsAnd kept last s → AllByRecursion AsksNothing answers → WritesStand last (following.answers_data c s answers more)
  data_writes last s answers true here none = ((inl (asked last s kinds.Sdata answers here.0 none), here.1), ((here.0.0, next_below s.asked), here.1, here.2))
  data_writes last s answers false here none = (
    (inr (asked_not kinds.Outcome (Assessment DO_NOT_KNOW ∷ answers) (tt, none)), here.1),
    closes_writes s.notes (record (following.sends s kinds.Outcome) { tries = None; rounds = s.rounds + 1 }) (nat_le c.rounds (s.rounds + 1)) ((refl, here.0.1), here.2, here.2),
  )

  retry_writes : (last : Notes) (s : Stand) (answers : List Message) (more : Bool) → StandsAnd kept last s → AllByRecursion AsksNothing answers → WritesStand last (following.answers_retry c s answers more)
  retry_writes last s answers true here none = ((inl (asked last s kinds.Sdata answers here.0 none), here.1), ((here.0.0, next_below s.asked), here.1, here.2))
  retry_writes last s answers false here none = ((inr (asked_not kinds.Sdata answers none), here.1), here)

  obeys_writes : (last : Notes) (s : Stand) (kind : BatchKind) (messages : List Message) → StandsAnd kept last s → WritesStand last (following.obeys c s kind messages)
  obeys_writes last s kinds.Cdata messages here =
      writes_then (AsksAnd c kept) DraftSo (StandsAnd kept) last (drafts s messages) (λ (d : Draft). following.after_data c s d) (drafts_writes last s messages here)
      (λ noted d there. data_writes noted (record (following.drafted s d) { retried = false }) d.answers (following.asks_more (record (following.drafted s d) { retried = false })) ((there.0, here.0.1), there.2, errors d.notes (d.notes.errors ++ d.errors) there.3) there.1)
  obeys_writes last s kinds.Cretry messages here =
      writes_then (AsksAnd c kept) DraftSo (StandsAnd kept) last (drafts s messages) (λ (d : Draft). following.after_retry c s d) (drafts_writes last s messages here)
      (λ noted d there. retry_writes noted (following.drafted s d) d.answers s.retried ((there.0, here.0.1), there.2, errors d.notes (d.notes.errors ++ d.errors) there.3) there.1)
  obeys_writes last s kinds.Sdata messages here = here
  obeys_writes last s kinds.Outcome messages here = here
  obeys_writes last s kinds.Sretry messages here = here
  obeys_writes last s kinds.Close messages here = here

  refuses_writes : (last : Notes) (s : Stand) (fault : PbFault) → StandsAnd kept last s → WritesStand last (following.refuses s fault)
  refuses_writes last s fault here = ((inr (asked_not kinds.Close (fault_batch_of true fault).messages (tt, tt)), here.1), here)

  judged_writes : (last : Notes) (s : Stand) (batch : Batch) (by : Verdict) → StandsAnd kept last s → WritesStand last (following.judged c s batch by)
  judged_writes last s batch PassesOver here = here
  judged_writes last s batch (Refuses fault) here = refuses_writes last s fault here
  judged_writes last s batch (EndsBy by) here = here
  judged_writes last s batch GoesOn here = obeys_writes last s batch.kind batch.messages here

  rests_writes : (last : Notes) (s : Stand) (state : State) → StandsAnd kept last s → WritesStand last (following.rests c s state)
  rests_writes last s Decided here = stand_if last c.subscribe (Done s) (following.retries c s) here ((inl (asked last (record s { retried = true }) kinds.Sretry [] here.0 tt), here.1), ((here.0.0, next_below s.asked), here.1, here.2))
  rests_writes last s Init here = here
  rests_writes last s ServerWorking here = here
  rests_writes last s ClientWorking here = here
  rests_writes last s End here = here

  steps_writes : (last : Notes) (s : Stand) (step : Step) → StandsAnd kept last s → WritesStand last (following.steps c s step)
  steps_writes last s (Came batch) here = judged_writes last (record s { machine = (received s.machine batch.kind).1 }) batch (verdict (received s.machine batch.kind).0 batch) here
  steps_writes last s (Faulty fault) here = refuses_writes last s fault here
  steps_writes last s (Quiet turns) here =
      stand_if last (nat_le c.idle turns) (Done (ends s (end.IdleOut turns))) (following.rests c s s.machine.state) here (rests_writes last s s.machine.state here)
  steps_writes last s Spent here = here
  steps_writes last s (Cut have) here = here

  unless_writes : {E : Type 0} (last : Notes) (s : Stand) (step : Step) (over : Option E) → StandsAnd kept last s → WritesStand last (following.steps_unless c s step over)
  unless_writes last s step None here = steps_writes last s step here
  unless_writes last s step (Some over) here = here

  serve_writes : (last : Notes) (s : Stand) (steps : List Step) → StandsAnd kept last s → WritesStand last (serve (following.react c) following.note s steps)
  serve_writes last s [] here = here
  serve_writes last s (step ∷ steps) here =
      writes_then (AsksAnd c kept) (StandsAnd kept) (StandsAnd kept) last (following.react c s step) (λ next. Note (following.note next) (serve (following.react c) following.note next steps))
      (unless_writes last s step s.over here) (λ noted next there. serve_writes (following.note next) next steps ((refl, there.0.1), there.2, there.2))

  pub session_writes : (mirror : Held) (turns : List Turn) → kept (nothing_noted mirror) → WritesStand (nothing_noted mirror) (following.session c mirror turns)
  session_writes mirror turns here = serve_writes (nothing_noted mirror) (begin mirror) (heard false c.octets turns).0 ((refl, omega arith), here, here)

-- ---- all sessions

-- What follows from what is said of each batch and of the end can be said of them.
pub writes_weaker : {Q : Type 0} {R : Q → Type 0} {N A : Type 0} (so weaker : N → List ℕ → Type 0) (then_so then_weaker : N → A → Type 0)
    → ((noted : N) (octets : List ℕ) → so noted octets → weaker noted octets) → ((noted : N) (value : A) → then_so noted value → then_weaker noted value)
    → (last : N) (talk : Talk Q R N A) → Writes so then_so last talk → Writes weaker then_weaker last talk
writes_weaker so weaker then_so then_weaker of_batch of_end last (Done value) writes = of_end last value writes
writes_weaker so weaker then_so then_weaker of_batch of_end last (Ask question talk) writes = λ reply. writes_weaker so weaker then_so then_weaker of_batch of_end last (talk reply) (writes reply)
writes_weaker so weaker then_so then_weaker of_batch of_end last (Write octets talk) writes = (of_batch last octets writes.0, writes_weaker so weaker then_so then_weaker of_batch of_end last talk writes.1)
writes_weaker so weaker then_so then_weaker of_batch of_end last (Note note talk) writes = writes_weaker so weaker then_so then_weaker of_batch of_end note talk writes

abbrev Nothing : Notes → Type 0
Nothing notes = Unit {0}

pub requests_are_wanted : RequestsAreWanted
requests_are_wanted c mirror turns =
    writes_weaker (AsksAnd c Nothing) (AsksOf c) (StandsAnd Nothing) StandsSo (λ notes octets so. so.0) (λ notes stand so. so.0) (nothing_noted mirror) (following.session c mirror turns)
    (session_writes c Nothing (λ notes report here. tt) (λ notes codes here. tt) mirror turns tt)
