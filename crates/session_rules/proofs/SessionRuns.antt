-- A whole session of a collector is runs of reports.
use Rattle.std.proofs.Common.{◌≡◌, ℕ, ◌++◌, Bool, true, false, cond, nat_le, List, [], ◌∷◌, Option, Some, None, refl, sym, ap, ap₂, subst, ◌∙◌, append-nil}
use Rattle.std.specs.List.{AllByRecursion}
use Rattle.swima_request.specs.declared.request.Request.{Request}
use Rattle.swima_subs.specs.declared.waiting.Waiting.{Waiting}
use Rattle.swima_subs.specs.Subscriptions.{AreSubs}
use Rattle.swima_subs.proofs.Keeping.{none_are}
use Rattle.pb_batch.specs.declared.batch.Batch.{Batch}
use Rattle.pb_batch.specs.declared.batch.Message.{Message}
use Rattle.pb_batch.specs.declared.kind.BatchKind.{BatchKind}
use Rattle.pb_batch.specs.declared.kind.BatchKind.TheVariants as kinds
use Rattle.pb_batch.specs.Written.{written}
use Rattle.pb_machine.specs.declared.machine.State.{State}
use Rattle.pb_machine.specs.declared.machine.State.TheVariants.{Init, ServerWorking, ClientWorking, Decided, End}
use Rattle.pb_machine.specs.Table.{received}
use Rattle.collector_core.specs.Chronicle.{Chronicle}
use Rattle.collector_core.specs.Legal.{IsLegal}
use Rattle.session_talk.specs.Talk.{Talk, Done, Note, and_then, each, quietly}
use Rattle.session_hear.specs.Step.{Step, Came, Faulty, Quiet, Spent, Cut}
use Rattle.session_hear.specs.Hearing.{heard}
use Rattle.session_hear.specs.Serving.{serve}
use Rattle.session_rules.specs.declared.config.ServeConfig.{ServeConfig}
use Rattle.session_rules.specs.declared.end.SessionEnd.TheVariants as end
use Rattle.session_rules.specs.declared.verdict.Verdict.{Verdict}
use Rattle.session_rules.specs.declared.verdict.Verdict.TheVariants.{PassesOver, Refuses, EndsBy, GoesOn}
use Rattle.session_rules.specs.Answering.{answers_message, drafts, renews}
use Rattle.session_rules.specs.Messages.{client_batch}
use Rattle.swima_model.specs.declared.report.Point.{Point}
use Rattle.session_rules.specs.Questions.{AskMoved, Question, Reply, at_places}
use Rattle.session_rules.specs.Serving.{Notes, Stand, Draft, begin, draft, ends}
use Rattle.session_rules.specs.ServeRules as serving
use Rattle.session_rules.specs.SubRuns.{ArePut, AreRuns, Put, Sent, Sends, SendsFault, SessionsAreRuns, all_octets, all_puts, put_attribute, puts_of, sent_octets}
use Rattle.session_rules.specs.Verdict.{verdict}
use Rattle.session_rules.proofs.Coming.{Comes, comes_then, comes_quietly, comes_gives}
use Rattle.session_rules.proofs.DraftRuns.{ClosedSo, messages_come, renews_come}
use Rattle.session_rules.proofs.PutRuns.{Placed, all_append, are_placed, none_put, octets_append}

module _ (chronicle : Chronicle) (legal : IsLegal chronicle) where
  -- These batches were written.
  pub record StandAt (octets : List ℕ) (held : List Waiting) : Type 0 where
    pub sent : List Sent
    pub octets_are : octets ≡ all_octets sent
    pub put : ArePut chronicle [] (all_puts sent)
    pub placed : AllByRecursion (Placed (all_puts sent)) held
    pub subs : AreSubs held

  abbrev StandSo : List ℕ → Stand → Type 0
  StandSo octets s = StandAt octets s.subs

  abbrev ComesStand : List ℕ → Talk Question Reply Notes Stand → Type 0
  ComesStand octets talk = Comes (at_places chronicle) StandSo octets talk

  -- A batch without attributes is written.
  bare_sent : (octets : List ℕ) (subs : List Waiting) (one : Sent) → all_puts (one ∷ []) ≡ [] → StandAt octets subs → StandAt (octets ++ sent_octets one) subs
  bare_sent octets subs one none so =
      let puts : all_puts so.sent ≡ all_puts (so.sent ++ one ∷ []) = sym (all_append so.sent (one ∷ []) ∙ ap (λ (ps : List Put). all_puts so.sent ++ ps) none ∙ append-nil (all_puts so.sent)) in
      record {
        sent = so.sent ++ one ∷ [];
        octets_are = ap (λ (os : List ℕ). os ++ sent_octets one) so.octets_are ∙ sym (octets_append so.sent one);
        put = subst (λ (ps : List Put). ArePut chronicle [] ps) puts so.put;
        placed = subst (λ (ps : List Put). AllByRecursion (Placed ps) subs) puts so.placed;
        subs = so.subs;
      }

  -- ---- a batch that is answered

  draft_so : (c : ServeConfig) (octets : List ℕ) (s : Stand) → StandSo octets s → ClosedSo chronicle legal octets (draft c s)
  draft_so c octets s so = (
    (
      all_puts so.sent,
      record {
        sent = so.sent;
        octets_are = so.octets_are;
        messages = [];
        messages_are = refl;
        puts = [];
        puts_are = refl;
        all_are = sym (append-nil (all_puts so.sent));
        put = so.put;
        placed = so.placed;
        subs = so.subs;
      },
    ),
    refl,
  )

  drafts_come : (c : ServeConfig) (octets : List ℕ) (s : Stand) (messages : List Message) → StandSo octets s → Comes (at_places chronicle) (ClosedSo chronicle legal) octets (drafts c s messages)
  drafts_come c octets s messages so =
      comes_then (at_places chronicle) (ClosedSo chronicle legal) (ClosedSo chronicle legal) octets (each answers_message (draft c s) messages) (λ (d : Draft). renews c d)
      (messages_come chronicle legal octets (draft c s) messages (draft_so c octets s so)) (λ more d there. renews_come chronicle legal c more d there)

  -- All that was put is in the messages of the batch.
  draft_sent : (octets : List ℕ) (d : Draft) → ClosedSo chronicle legal octets d → StandAt (octets ++ written (client_batch kinds.Cdata d.messages)) d.subs
  draft_sent octets d ((all, so), closed) =
      let none : so.puts ≡ [] = none_put put_attribute so.puts (sym so.puts_are ∙ closed) in
      let puts : all ≡ all_puts (so.sent ++ Sends kinds.Cdata so.messages ∷ []) =
      so.all_are ∙ ap (λ (ps : List Put). all_puts so.sent ++ (puts_of so.messages ++ ps)) none ∙ sym (all_append so.sent (Sends kinds.Cdata so.messages ∷ [])) in
      record {
        sent = so.sent ++ Sends kinds.Cdata so.messages ∷ [];
        octets_are = ap₂ (λ (os : List ℕ) (ms : List Message). os ++ written (client_batch kinds.Cdata ms)) so.octets_are so.messages_are ∙ sym (octets_append so.sent (Sends kinds.Cdata so.messages));
        put = subst (λ (ps : List Put). ArePut chronicle [] ps) puts so.put;
        placed = subst (λ (ps : List Put). AllByRecursion (Placed ps) d.subs) puts so.placed;
        subs = so.subs;
      }

  replies_come : (c : ServeConfig) (octets : List ℕ) (s : Stand) (messages : List Message) → StandSo octets s → ComesStand octets (serving.replies c s messages)
  replies_come c octets s messages so =
      comes_then (at_places chronicle) (ClosedSo chronicle legal) StandSo octets (quietly (drafts c s messages)) (λ (d : Draft). serving.writes_draft s d)
      (comes_quietly (at_places chronicle) Notes (ClosedSo chronicle legal) octets (drafts c s messages) (drafts_come c octets s messages so)) (λ more d there. draft_sent more d there)

  -- ---- a step

  closes_come : (octets : List ℕ) (s : Stand) (enough : Bool) → StandSo octets s → ComesStand octets (serving.closes_if s enough)
  closes_come octets s true so = bare_sent octets s.subs (Sends kinds.Close []) refl so
  closes_come octets s false so = so

  obeys_come : (c : ServeConfig) (octets : List ℕ) (s : Stand) (kind : BatchKind) (messages : List Message) → StandSo octets s → ComesStand octets (serving.obeys c s kind messages)
  obeys_come c octets s kinds.Sdata messages so = replies_come c octets s messages so
  obeys_come c octets s kinds.Sretry messages so = replies_come c octets s messages so
  obeys_come c octets s kinds.Outcome messages so = closes_come octets s (serving.is_enough c.reports s.notes.reports) so
  obeys_come c octets s kinds.Cdata messages so = so
  obeys_come c octets s kinds.Cretry messages so = so
  obeys_come c octets s kinds.Close messages so = so

  judged_come : (c : ServeConfig) (octets : List ℕ) (s : Stand) (batch : Batch) (by : Verdict) → StandSo octets s → ComesStand octets (serving.judged c s batch by)
  judged_come c octets s batch PassesOver so = so
  judged_come c octets s batch (Refuses fault) so = bare_sent octets s.subs (SendsFault fault) refl so
  judged_come c octets s batch (EndsBy by) so = so
  judged_come c octets s batch GoesOn so = obeys_come c octets s batch.kind batch.messages so

  retries_come : (octets : List ℕ) (s : Stand) (moved : Bool) → StandSo octets s → ComesStand octets (serving.retries_if s moved)
  retries_come octets s true so = bare_sent octets s.subs (Sends kinds.Cretry []) refl so
  retries_come octets s false so = so

  -- A talk that writes nothing.
  abbrev Looks : List Waiting → List ℕ → Talk Question Reply (Unit {0}) Bool → Type 0
  Looks subs octets talk = Comes (at_places chronicle) (λ (os : List ℕ) (moved : Bool). StandAt os subs) octets talk

  looks_one : (octets : List ℕ) (subs : List Waiting) (request : Request) (place : Option Point) (later : Talk Question Reply (Unit {0}) Bool) → StandAt octets subs → Looks subs octets later
      → Looks subs octets (and_then (serving.looks_from request place) (λ moved. serving.looks_on later moved))
  looks_one octets subs request None later so rest = rest
  looks_one octets subs request (Some place) later so rest = λ at. by_moved (at_places chronicle at (AskMoved place request.targets))
    where
      by_moved : (moved : Bool) → Looks subs octets (serving.looks_on later moved)
      by_moved true = so
      by_moved false = rest

  looks_come : (octets : List ℕ) (subs items : List Waiting) → StandAt octets subs → Looks subs octets (serving.looks items)
  looks_come octets subs [] so = so
  looks_come octets subs (held ∷ later) so = looks_one octets subs held.request held.place (serving.looks later) so (looks_come octets subs later so)

  rests_come : (octets : List ℕ) (s : Stand) (state : State) → StandSo octets s → ComesStand octets (serving.rests s state)
  rests_come octets s Decided so =
      comes_then (at_places chronicle) (λ (os : List ℕ) (moved : Bool). StandAt os s.subs) StandSo octets (quietly (serving.looks s.subs)) (λ moved. serving.retries_if s moved)
      (comes_quietly (at_places chronicle) Notes (λ (os : List ℕ) (moved : Bool). StandAt os s.subs) octets (serving.looks s.subs) (looks_come octets s.subs s.subs so)) (λ more moved there. retries_come more s moved there)
  rests_come octets s Init so = so
  rests_come octets s ServerWorking so = so
  rests_come octets s ClientWorking so = so
  rests_come octets s End so = so

  stand_if : (octets : List ℕ) (test : Bool) (one other : Talk Question Reply Notes Stand) → ComesStand octets one → ComesStand octets other → ComesStand octets (cond test one other)
  stand_if octets true one other first second = first
  stand_if octets false one other first second = second

  steps_come : (c : ServeConfig) (octets : List ℕ) (s : Stand) (step : Step) → StandSo octets s → ComesStand octets (serving.steps c s step)
  steps_come c octets s (Came batch) so = judged_come c octets (record s { machine = (received s.machine batch.kind).1 }) batch (verdict (received s.machine batch.kind).0 batch) so
  steps_come c octets s (Faulty fault) so = bare_sent octets s.subs (SendsFault fault) refl so
  steps_come c octets s (Quiet turns) so = stand_if octets (nat_le c.idle turns) (Done (ends s (end.IdleOut turns))) (serving.rests s s.machine.state) so (rests_come octets s s.machine.state so)
  steps_come c octets s Spent so = so
  steps_come c octets s (Cut have) so = so

  unless_comes : {E : Type 0} (c : ServeConfig) (octets : List ℕ) (s : Stand) (step : Step) (over : Option E) → StandSo octets s → ComesStand octets (serving.steps_unless c s step over)
  unless_comes c octets s step None so = steps_come c octets s step so
  unless_comes c octets s step (Some over) so = so

  serve_comes : (c : ServeConfig) (octets : List ℕ) (s : Stand) (steps : List Step) → StandSo octets s → ComesStand octets (serve (serving.react c) serving.note s steps)
  serve_comes c octets s [] so = so
  serve_comes c octets s (step ∷ steps) so =
      comes_then (at_places chronicle) StandSo StandSo octets (serving.react c s step) (λ next. Note (serving.note next) (serve (serving.react c) serving.note next steps))
      (unless_comes c octets s step s.over so) (λ more next there. serve_comes c more next steps there)

  begins : StandAt (written (client_batch kinds.Cdata [])) []
  begins = record { sent = Sends kinds.Cdata [] ∷ []; octets_are = sym (append-nil (written (client_batch kinds.Cdata []))); put = tt; placed = tt; subs = none_are }

  are_runs : (octets : List ℕ) (subs : List Waiting) → StandAt octets subs → AreRuns chronicle octets subs
  are_runs octets subs so = record { sent = so.sent; octets_are = so.octets_are; put = so.put; placed = are_placed (all_puts so.sent) subs so.placed }

pub sessions_are_runs : SessionsAreRuns
sessions_are_runs chronicle c turns places octets stand legal serves =
    are_runs chronicle legal octets stand.subs
    (comes_gives (at_places chronicle) (λ (os : List ℕ) (s : Stand). StandAt chronicle legal os s.subs) [] (serving.session c turns) places octets stand
    (serve_comes chronicle legal c (written (client_batch kinds.Cdata [])) begin (heard true c.octets turns).0 (begins chronicle legal)) serves)
