-- What a collector puts into the batch that it writes, and where its subscriptions are placed then.
use Rattle.std.proofs.Common.{◌≡◌, ℕ, ◌<◌, ◌^◌, Bool, true, false, cond, nat_le, nat_lt, length, List, [], ◌∷◌, ◌++◌, Option, Some, None, take, refl, sym, ap, subst, ◌∙◌, append_assoc}
use Rattle.std.specs.Prelude.{◌==◌, map}
use Rattle.std.specs.List.{AllByRecursion}
use Rattle.std.proofs.lemmas.List.{map-append}
use Rattle.swima_model.specs.declared.report.Point.{Point}
use Rattle.swima_model.specs.declared.report.Report.{Report}
use Rattle.swima_request.specs.declared.request.Request.{Request}
use Rattle.swima_request.specs.StatusForm.{status_octets, written_status}
use Rattle.swima_request.specs.AttributeTypes.{SUBSCRIPTION_STATUS_RESPONSE}
use Rattle.swima_subs.specs.declared.sub_answer.SubAnswer.{SubAnswer}
use Rattle.swima_subs.specs.declared.sub_answer.SubAnswer.TheVariants.{Taken, Reused, Denied, Memory}
use Rattle.swima_subs.specs.declared.waiting.Waiting.{Waiting}
use Rattle.swima_subs.specs.Subscriptions.{AreDifferent, AreSubs, MOST_SUBSCRIPTIONS, applied, cleared, ended, is_held, new_waiting, next_request, reported, status}
use Rattle.swima_subs.proofs.Keeping.{subs_stay}
use Rattle.pa_attrs.specs.declared.attr.Attr.{Attr}
use Rattle.pa_attrs.specs.declared.error.PaError.{PaError}
use Rattle.pa_attrs.specs.declared.error_code.PaErrorCode.TheVariants as code
use Rattle.pa_attrs.specs.ErrorForm.{swima_error}
use Rattle.pa_attrs.specs.Numbers.{number_of_code}
use Rattle.pb_batch.specs.declared.batch.Message.{Message}
use Rattle.pb_batch.specs.Form.{BATCH_MESSAGES}
use Rattle.collector_core.specs.declared.answer.Answer.{Answer}
use Rattle.collector_core.specs.declared.answer.Answer.TheVariants as answer
use Rattle.collector_core.specs.Answering.{answer_at}
use Rattle.collector_core.specs.Chronicle.{Chronicle, front, point_of}
use Rattle.collector_core.specs.Legal.{IsLegal}
use Rattle.collector_core.proofs.Fronts.{fronts_are_legal}
use Rattle.session_talk.specs.Talk.{Done, and_then, each}
use Rattle.session_rules.specs.declared.config.ServeConfig.{ServeConfig}
use Rattle.session_rules.specs.declared.word.CollectorWord.{CollectorWord as Word}
use Rattle.session_rules.specs.declared.word.CollectorWord.TheVariants.{Wants, AsksStatus, Failure}
use Rattle.session_rules.specs.Answering.{answered, answers_body, answers_message, answers_said, closed, closes, earlier_left, puts_error, puts_report, puts_sized, reach_of, next_if, next_of, renewed, renews, renews_by, renews_one, speaks, taken, word_of, SUPPORTED}
use Rattle.session_rules.specs.Messages.{attribute, error_attribute, pa_message}
use Rattle.session_rules.specs.Numbers.{next_number}
use Rattle.session_rules.specs.Questions.{AskMoved, at_places}
use Rattle.session_rules.specs.Saying.{Said, Says, Refused, says, swima_body}
use Rattle.session_rules.specs.Serving.{Draft}
use Rattle.session_rules.specs.SubRuns.{ArePut, Filled, IsPut, last_for, Put, PutAnswer, PutError, PutFirst, PutList, PutNext, Sent, all_octets, all_puts, filled_message, put_attribute, puts_of}
use Rattle.session_rules.proofs.Coming.{Comes, comes_then}
use Rattle.session_rules.proofs.PutRuns.{IsOf, OnlyOnes, Placed, all_ended, all_pushed, all_taken, different_taken, none_of, only_ended, only_ones, only_reported, others_placed, placed_on, placed_reported, put_more, puts_closed}
use Rattle.session_rules.proofs.Reach.{reach_below}
use Rattle.session_rules.proofs.Running.{successive_reports}

module _ (chronicle : Chronicle) (legal : IsLegal chronicle) where
  -- After these octets all of this was put into batches, into the messages of this batch, and into
  -- the message that is open.
  pub record DraftAt (all : List Put) (octets : List ℕ) (d : Draft) : Type 0 where
    pub sent : List Sent
    pub octets_are : octets ≡ all_octets sent
    pub messages : List Filled
    pub messages_are : d.messages ≡ map filled_message messages
    pub puts : List Put
    pub puts_are : d.attrs ≡ map put_attribute puts
    pub all_are : all ≡ all_puts sent ++ (puts_of messages ++ puts)
    pub put : ArePut chronicle [] all
    pub placed : AllByRecursion (Placed all) d.subs
    pub subs : AreSubs d.subs

  abbrev pub DraftSo : List ℕ → Draft → Type 0
  DraftSo octets d = (all : List Put) × DraftAt all octets d

  -- No attribute is put.
  stays : (all : List Put) (octets : List ℕ) (d e : Draft) → DraftAt all octets d → e.messages ≡ d.messages → e.attrs ≡ d.attrs → AllByRecursion (Placed all) e.subs → AreSubs e.subs → DraftAt all octets e
  stays all octets d e so messages attrs placed subs = record {
    sent = so.sent;
    octets_are = so.octets_are;
    messages = so.messages;
    messages_are = messages ∙ so.messages_are;
    puts = so.puts;
    puts_are = attrs ∙ so.puts_are;
    all_are = so.all_are;
    put = so.put;
    placed = placed;
    subs = subs;
  }

  -- One is put.
  one_put : (all : List Put) (octets : List ℕ) (d e : Draft) (put : Put) → DraftAt all octets d → IsPut chronicle all put → e.messages ≡ d.messages → e.attrs ≡ d.attrs ++ put_attribute put ∷ []
      → AllByRecursion (Placed (all ++ put ∷ [])) e.subs → AreSubs e.subs → DraftAt (all ++ put ∷ []) octets e
  one_put all octets d e put so is messages attrs placed subs = record {
    sent = so.sent;
    octets_are = so.octets_are;
    messages = so.messages;
    messages_are = messages ∙ so.messages_are;
    puts = so.puts ++ put ∷ [];
    puts_are = attrs ∙ ap (λ (xs : List Attr). xs ++ put_attribute put ∷ []) so.puts_are ∙ sym (map-append put_attribute so.puts (put ∷ []));
    all_are = ap (λ (ps : List Put). ps ++ put ∷ []) so.all_are ∙ append_assoc (all_puts so.sent) (puts_of so.messages ++ so.puts) (put ∷ []) ∙ ap (λ (ps : List Put). all_puts so.sent ++ ps) (append_assoc (puts_of so.messages) so.puts (put ∷ []));
    put = put_more chronicle all put so.put is;
    placed = placed;
    subs = subs;
  }

  -- An Error is put.
  error_put : (all : List Put) (octets : List ℕ) (d e : Draft) (error : PaError) → DraftAt all octets d → e.messages ≡ d.messages → e.attrs ≡ d.attrs ++ error_attribute error ∷ [] → AllByRecursion (Placed all) e.subs → AreSubs e.subs → DraftSo octets e
  error_put all octets d e error so messages attrs placed subs =
      (all ++ PutError error ∷ [], one_put all octets d e (PutError error) so tt messages attrs (placed_on all (PutError error) e.subs (λ id last. refl) placed) subs)

  -- ---- a request

  module _ (all : List Put) (octets : List ℕ) (d : Draft) (so : DraftAt all octets d) (request : Request) (own : request.subscribe ≡ true → AllByRecursion (IsOf request) d.subs) where
    report_put : (place most : ℕ) (report : Report) → answer_at (front chronicle place) request most ≡ answer.Report report → DraftSo octets (answered d request (answer.Report report))
    report_put place most report is = by_flag request.subscribe refl
      where
        by_flag : (b : Bool) → request.subscribe ≡ b → DraftSo octets (puts_report (record d { subs = cond b (reported d.subs request.id (reach_of report)) d.subs }) report)
        by_flag true flag = (
          all ++ PutFirst request report ∷ [],
          one_put all octets d (puts_report (record d { subs = reported d.subs request.id (reach_of report) }) report) (PutFirst request report) so (flag, record { place = place; most = most; is = is }) refl refl
              (placed_reported all (PutFirst request report) request report (λ id last. refl) d.subs (reach_below (front chronicle place) (fronts_are_legal chronicle place legal) request most report is) (own flag) so.placed)
              ((subs_stay d.subs so.subs).reported_so request.id (reach_of report)),
        )
        by_flag false flag = (
          all ++ PutAnswer request report ∷ [],
          one_put all octets d (puts_report (record d { subs = d.subs }) report) (PutAnswer request report) so (flag, record { place = place; most = most; is = is }) refl refl
              (placed_on all (PutAnswer request report) d.subs (λ id last. refl) so.placed) so.subs,
        )

    large_put : (size most : ℕ) → DraftSo octets (answered d request (answer.TooLarge size most))
    large_put size most = by_flag request.subscribe
      where
        by_flag : (b : Bool) → DraftSo octets (puts_error (record d { subs = cond b (ended d.subs request.id) d.subs }) code.SwimaResponseTooLargeError request.id (Some most))
        by_flag true =
            error_put all octets d (puts_error (record d { subs = ended d.subs request.id }) code.SwimaResponseTooLargeError request.id (Some most)) (swima_error (number_of_code code.SwimaResponseTooLargeError) request.id (Some most)) so refl refl
            (all_ended (Placed all) request.id d.subs so.placed) ((subs_stay d.subs so.subs).ended_so request.id)
        by_flag false =
            error_put all octets d (puts_error (record d { subs = d.subs }) code.SwimaResponseTooLargeError request.id (Some most)) (swima_error (number_of_code code.SwimaResponseTooLargeError) request.id (Some most)) so refl refl so.placed so.subs

    answer_put : (place most : ℕ) (reply : Answer) → answer_at (front chronicle place) request most ≡ reply → DraftSo octets (answered d request reply)
    answer_put place most (answer.Report report) is = report_put place most report is
    answer_put place most (answer.TooLarge size limit) is = large_put size limit
    answer_put place most answer.Memory is = (all, so)

  taken_comes : (all : List Put) (octets : List ℕ) (d : Draft) (so : DraftAt all octets d) (request : Request) (said : SubAnswer) → (request.subscribe ≡ true → said ≡ Taken → AllByRecursion (IsOf request) d.subs)
      → Comes (at_places chronicle) DraftSo octets (taken d request said)
  taken_comes all octets d so request Taken own = λ place. answer_put all octets d so request (λ flag. own flag refl) place d.room (answer_at (front chronicle place) request d.room) refl
  taken_comes all octets d so request (Reused id) own =
      error_put all octets d (puts_error d code.SwimaSubscriptionIdReuseError id None) (swima_error (number_of_code code.SwimaSubscriptionIdReuseError) id None) so refl refl so.placed so.subs
  taken_comes all octets d so request (Denied held) own =
      error_put all octets d (puts_error d code.SwimaSubscriptionDeniedError request.id None) (swima_error (number_of_code code.SwimaSubscriptionDeniedError) request.id None) so refl refl so.placed so.subs
  taken_comes all octets d so request Memory own = (all, so)

  -- The subscriptions, once a request is applied: a new one has no place, and no other has its ID.
  cleared_all : (P : Waiting → Type 0) (subs : List Waiting) (request : Request) → AllByRecursion P subs → AllByRecursion P (cleared subs request)
  cleared_all P subs request all = by_flag request.clear
    where
      by_flag : (b : Bool) → AllByRecursion P (cond b [] subs)
      by_flag true = tt
      by_flag false = all

  new_placed : (puts : List Put) (request : Request) → Placed puts (new_waiting request)
  new_placed puts request place is = absurd cc

  applied_placed : (puts : List Put) (subs : List Waiting) (request : Request) → AllByRecursion (Placed puts) subs → AllByRecursion (Placed puts) (applied subs request).1
  applied_placed puts subs request all = by_flags request.subscribe (is_held request.id (cleared subs request)) (nat_le MOST_SUBSCRIPTIONS (length (cleared subs request))) (cleared_all (Placed puts) subs request all)
    where
      by_flags : (b held full : Bool) → AllByRecursion (Placed puts) (cleared subs request)
          → AllByRecursion (Placed puts) (cond {A = SubAnswer × List Waiting} b (cond held (Reused request.id, cleared subs request) (cond full (Denied MOST_SUBSCRIPTIONS, cleared subs request) (Taken, cleared subs request ++ new_waiting request ∷ []))) (Taken, cleared subs request)).1
      by_flags true true full left = left
      by_flags true false true left = left
      by_flags true false false left = all_pushed (Placed puts) (cleared subs request) (new_waiting request) left (new_placed puts request)
      by_flags false held full left = left

  applied_own : (subs : List Waiting) (request : Request) → request.subscribe ≡ true → (applied subs request).0 ≡ Taken → AllByRecursion (IsOf request) (applied subs request).1
  applied_own subs request = by_flags request.subscribe (is_held request.id (cleared subs request)) (nat_le MOST_SUBSCRIPTIONS (length (cleared subs request))) refl
    where
      by_flags : (b held full : Bool) → is_held request.id (cleared subs request) ≡ held → b ≡ true
          → (cond {A = SubAnswer × List Waiting} b (cond held (Reused request.id, cleared subs request) (cond full (Denied MOST_SUBSCRIPTIONS, cleared subs request) (Taken, cleared subs request ++ new_waiting request ∷ []))) (Taken, cleared subs request)).0 ≡ Taken
          → AllByRecursion (IsOf request) (cond {A = SubAnswer × List Waiting} b (cond held (Reused request.id, cleared subs request) (cond full (Denied MOST_SUBSCRIPTIONS, cleared subs request) (Taken, cleared subs request ++ new_waiting request ∷ []))) (Taken, cleared subs request)).1
      by_flags true true full none flag said = absurd cc
      by_flags true false true none flag said = absurd cc
      by_flags true false false none flag said = all_pushed (IsOf request) (cleared subs request) (new_waiting request) (none_of request (cleared subs request) none) (λ same. refl)
      by_flags false held full none flag said = absurd cc

  -- ---- a word

  word_comes : (octets : List ℕ) (d : Draft) (word : Word) → DraftSo octets d → Comes (at_places chronicle) DraftSo octets (speaks d word)
  word_comes octets d (Wants request) (all, so) =
      taken_comes all octets (record d { subs = (applied d.subs request).1; earlier = earlier_left d.earlier request.clear })
      (stays all octets d (record d { subs = (applied d.subs request).1; earlier = earlier_left d.earlier request.clear }) so refl refl (applied_placed all d.subs request so.placed) ((subs_stay d.subs so.subs).applied_so request))
      request (applied d.subs request).0 (applied_own d.subs request)
  word_comes octets d AsksStatus (all, so) = by_room (nat_le (status_octets (status d.subs)) d.room)
    where
      by_room : (b : Bool) → DraftSo octets (cond b (puts_sized d (attribute SUBSCRIPTION_STATUS_RESPONSE (written_status (status d.subs))) (status_octets (status d.subs))) (puts_error d code.SwimaResponseTooLargeError 0 (Some d.room)))
      by_room true = (
        all ++ PutList (status d.subs) ∷ [],
        one_put all octets d (puts_sized d (attribute SUBSCRIPTION_STATUS_RESPONSE (written_status (status d.subs))) (status_octets (status d.subs))) (PutList (status d.subs)) so tt refl refl
            (placed_on all (PutList (status d.subs)) d.subs (λ id last. refl) so.placed) so.subs,
      )
      by_room false =
          error_put all octets d (puts_error d code.SwimaResponseTooLargeError 0 (Some d.room)) (swima_error (number_of_code code.SwimaResponseTooLargeError) 0 (Some d.room)) so refl refl so.placed so.subs
  word_comes octets d (Failure code) (all, so) = (all, stays all octets d (record d { errors = d.errors ++ code ∷ [] }) so refl refl so.placed so.subs)

  words_come : (octets : List ℕ) (d : Draft) (words : List Word) → DraftSo octets d → Comes (at_places chronicle) DraftSo octets (each speaks d words)
  words_come octets d [] so = so
  words_come octets d (word ∷ words) so =
      comes_then (at_places chronicle) DraftSo DraftSo octets (speaks d word) (λ next. each speaks next words) (word_comes octets d word so) (λ more next there. words_come more next words there)

  -- ---- a message

  -- No message is open.
  abbrev pub ClosedSo : List ℕ → Draft → Type 0
  ClosedSo octets d = DraftSo octets d × (d.attrs ≡ [])

  closed_by : (octets : List ℕ) (d : Draft) (attrs : List Attr) → d.attrs ≡ attrs → DraftSo octets d → ClosedSo octets (closes attrs d)
  closed_by octets d [] is so = (so, is)
  closed_by octets d (attr ∷ attrs) is (all, so) = (
    (
      all,
      record {
        sent = so.sent;
        octets_are = so.octets_are;
        messages = so.messages ++ record { number = next_number d.numbered; puts = so.puts } ∷ [];
        messages_are = ap (λ (ms : List Message). ms ++ pa_message (next_number d.numbered) (attr ∷ attrs) ∷ []) so.messages_are
            ∙ ap (λ (xs : List Attr). map filled_message so.messages ++ pa_message (next_number d.numbered) xs ∷ []) (sym is ∙ so.puts_are)
            ∙ sym (map-append filled_message so.messages (record { number = next_number d.numbered; puts = so.puts } ∷ []));
        puts = [];
        puts_are = refl;
        all_are = so.all_are ∙ puts_closed (all_puts so.sent) so.messages (record { number = next_number d.numbered; puts = so.puts });
        put = so.put;
        placed = so.placed;
        subs = so.subs;
      },
    ),
    refl,
  )

  closed_so : (octets : List ℕ) (d : Draft) → DraftSo octets d → ClosedSo octets (closed d)
  closed_so octets d so = closed_by octets d d.attrs refl so

  said_comes : (octets : List ℕ) (d : Draft) (said : Said Word) → ClosedSo octets d → Comes (at_places chronicle) ClosedSo octets (answers_said d said)
  said_comes octets d (Says words) so =
      comes_then (at_places chronicle) DraftSo ClosedSo octets (each speaks d words) (λ (e : Draft). Done (closed e)) (words_come octets d words so.0) (λ more e there. closed_so more e there)
  said_comes octets d (Refused (Some error)) so =
      closed_so octets (record d { attrs = d.attrs ++ error_attribute error ∷ [] }) (error_put so.0.0 octets d (record d { attrs = d.attrs ++ error_attribute error ∷ [] }) error so.0.1 refl refl so.0.1.placed so.0.1.subs)
  said_comes octets d (Refused None) so = so

  body_comes : (octets : List ℕ) (d : Draft) (body : Option (List ℕ)) → ClosedSo octets d → Comes (at_places chronicle) ClosedSo octets (answers_body d body)
  body_comes octets d (Some body) so = said_comes octets d (says SUPPORTED word_of body) so
  body_comes octets d None so = so

  pub messages_come : (octets : List ℕ) (d : Draft) (messages : List Message) → ClosedSo octets d → Comes (at_places chronicle) ClosedSo octets (each answers_message d messages)
  messages_come octets d [] so = so
  messages_come octets d (message ∷ messages) so =
      comes_then (at_places chronicle) ClosedSo ClosedSo octets (answers_message d message) (λ next. each answers_message next messages) (body_comes octets d (swima_body message) so) (λ more next there. messages_come more next messages there)

  -- ---- subscriptions of earlier batches

  -- Those that are still to be fulfilled are placed too, and are the only ones of their IDs.
  pub record LeftSo (items : List Waiting) (octets : List ℕ) (d : Draft) : Type 0 where
    pub all : List Put
    pub so : DraftAt all octets d
    pub left : AllByRecursion (Placed all) items
    pub only : OnlyOnes items d.subs
    pub different : AreDifferent items

  module _ (c : ServeConfig) (octets : List ℕ) (d : Draft) (held : Waiting) (items : List Waiting) (now : LeftSo (held ∷ items) octets d) where
    -- Nothing is put of it.
    passed : LeftSo items octets d
    passed = record { all = now.all; so = now.so; left = now.left.1; only = now.only.1; different = now.different.1 }

    next_is : (last : Report) (seen at : ℕ) (report : Report) → last_for held.request.id now.all ≡ Some (held.request, last) → (reach_of last).eid < 2 ^ 32
        → answer_at (front chronicle at) (next_request held.request (reach_of last) (point_of (front chronicle seen))) d.room ≡ answer.Report report → LeftSo items octets (renewed c d held.request.id (answer.Report report))
    next_is last seen at report was below is = record {
      all = now.all ++ PutNext held.request report ∷ [];
      so = one_put now.all octets d (renewed c d held.request.id (answer.Report report)) (PutNext held.request report) now.so
          (record {
            last = last;
            was = was;
            seen = seen;
            place = at;
            most = d.room;
            is = is;
            whole = successive_reports (front chronicle at) held.request last report (point_of (front chronicle seen)) d.room (fronts_are_legal chronicle at legal) below is;
          })
          refl refl
          (placed_reported now.all (PutNext held.request report) held.request report (λ id last. refl) d.subs
          (reach_below (front chronicle at) (fronts_are_legal chronicle at legal) (next_request held.request (reach_of last) (point_of (front chronicle seen))) d.room report is) now.only.0 now.so.placed)
          ((subs_stay d.subs now.so.subs).reported_so held.request.id (reach_of report));
      left = others_placed now.all (PutNext held.request report) held.request report (λ id last. refl) items now.different.0 now.left.1;
      only = only_reported items d.subs held.request.id (reach_of report) now.only.1;
      different = now.different.1;
    }

    next_put : (place : Point) (seen at : ℕ) (report : Report) → held.place ≡ Some place
        → answer_at (front chronicle at) (next_request held.request place (point_of (front chronicle seen))) d.room ≡ answer.Report report → LeftSo items octets (renewed c d held.request.id (answer.Report report))
    next_put place seen at report has is =
        let there = now.left.0 place has in
        next_is there.0 seen at report there.1 (subst (λ (p : Point). p.eid < 2 ^ 32) (sym there.2) there.3)
        (ap (λ (p : Point). answer_at (front chronicle at) (next_request held.request p (point_of (front chronicle seen))) d.room) there.2 ∙ is)

    large_next : (size most : ℕ) → LeftSo items octets (renewed c d held.request.id (answer.TooLarge size most))
    large_next size most = by_room (d.room == c.max)
      where
        by_room : (b : Bool) → LeftSo items octets (cond b (puts_error (record d { subs = ended d.subs held.request.id }) code.SwimaResponseTooLargeError held.request.id (Some most)) d)
        by_room true = record {
          all = now.all ++ PutError (swima_error (number_of_code code.SwimaResponseTooLargeError) held.request.id (Some most)) ∷ [];
          so = one_put now.all octets d (puts_error (record d { subs = ended d.subs held.request.id }) code.SwimaResponseTooLargeError held.request.id (Some most))
              (PutError (swima_error (number_of_code code.SwimaResponseTooLargeError) held.request.id (Some most))) now.so tt refl refl
              (placed_on now.all (PutError (swima_error (number_of_code code.SwimaResponseTooLargeError) held.request.id (Some most))) (ended d.subs held.request.id) (λ id last. refl)
              (all_ended (Placed now.all) held.request.id d.subs now.so.placed))
              ((subs_stay d.subs now.so.subs).ended_so held.request.id);
          left = placed_on now.all (PutError (swima_error (number_of_code code.SwimaResponseTooLargeError) held.request.id (Some most))) items (λ id last. refl) now.left.1;
          only = only_ended items d.subs held.request.id now.only.1;
          different = now.different.1;
        }
        by_room false = passed

    next_answered : (place : Point) (seen at : ℕ) (reply : Answer) → held.place ≡ Some place
        → answer_at (front chronicle at) (next_request held.request place (point_of (front chronicle seen))) d.room ≡ reply → LeftSo items octets (renewed c d held.request.id reply)
    next_answered place seen at (answer.Report report) has is = next_put place seen at report has is
    next_answered place seen at (answer.TooLarge size most) has is = large_next size most
    next_answered place seen at answer.Memory has is = passed

    renewal_comes : (place : Option Point) → held.place ≡ place
        → Comes (at_places chronicle) (LeftSo items) octets (and_then (next_of held.request place) (λ (next : Option Request). renews_by c d next))
    renewal_comes None has = passed
    renewal_comes (Some place) has = λ asked. by_moved (at_places chronicle asked (AskMoved place held.request.targets))
      where
        by_moved : (moved : Bool) → Comes (at_places chronicle) (LeftSo items) octets (and_then (next_if held.request place moved) (λ (next : Option Request). renews_by c d next))
        by_moved true = λ seen at. next_answered place seen at (answer_at (front chronicle at) (next_request held.request place (point_of (front chronicle seen))) d.room) has refl
        by_moved false = passed

  renewals_come : (c : ServeConfig) (octets : List ℕ) (d : Draft) (items : List Waiting) → LeftSo items octets d → Comes (at_places chronicle) DraftSo octets (each (renews_one c) d items)
  renewals_come c octets d [] now = (now.all, now.so)
  renewals_come c octets d (held ∷ items) now =
      comes_then (at_places chronicle) (LeftSo items) DraftSo octets (renews_one c d held) (λ next. each (renews_one c) next items) (renewal_comes c octets d held items now held.place refl)
      (λ more next there. renewals_come c more next items there)

  pub renews_come : (c : ServeConfig) (octets : List ℕ) (d : Draft) → ClosedSo octets d → Comes (at_places chronicle) ClosedSo octets (renews c d)
  renews_come c octets d so = by_count (nat_lt (length d.messages) BATCH_MESSAGES)
    where
      by_count : (b : Bool) → Comes (at_places chronicle) ClosedSo octets (cond b (and_then (each (renews_one c) d (take d.earlier d.subs)) (λ (e : Draft). Done (closed e))) (Done d))
      by_count true =
          comes_then (at_places chronicle) DraftSo ClosedSo octets (each (renews_one c) d (take d.earlier d.subs)) (λ (e : Draft). Done (closed e))
          (renewals_come c octets d (take d.earlier d.subs) (record {
            all = so.0.0;
            so = so.0.1;
            left = all_taken (Placed so.0.0) d.earlier d.subs so.0.1.placed;
            only = all_taken (λ (item : Waiting). AllByRecursion (IsOf item.request) d.subs) d.earlier d.subs (only_ones d.subs so.0.1.subs.different);
            different = different_taken d.earlier d.subs so.0.1.subs.different;
          }))
          (λ more e there. closed_so more e there)
      by_count false = so
