-- Worked subscriptions: requests that are taken and refused, what is said of those that are held,
-- and reports that are too large.
use Rattle.std.specs.Prelude.{◌≡◌, ◌≤◌, ℕ, List, [], ◌∷◌, ◌++◌, Some, None, true, length, map}
use Rattle.wire_base.specs.Turns.{turns_of}
use Rattle.swima_model.specs.declared.record.Record.{Record}
use Rattle.swima_subs.specs.declared.waiting.Waiting.{Waiting}
use Rattle.swima_subs.specs.Subscriptions.{new_waiting}
use Rattle.collector_core.specs.declared.chronicle.Entry.TheVariants as entry
use Rattle.collector_core.specs.Chronicle.{Chronicle}
use Rattle.pb_batch.specs.Form.{BATCH_MESSAGES}
use Rattle.pb_machine.specs.declared.machine.Role.TheVariants as role
use Rattle.pb_machine.specs.declared.machine.State.TheVariants as state
use Rattle.session_talk.specs.Given.{given}
use Rattle.session_talk.specs.Talk.{Done}
use Rattle.session_hear.specs.Hearing.{heard}
use Rattle.session_hear.specs.Serving.{serve}
use Rattle.session_rules.specs.declared.config.ServeConfig.{ServeConfig}
use Rattle.session_rules.specs.Answering.{renews}
use Rattle.session_rules.specs.Questions.{at_places}
use Rattle.session_rules.specs.ServeRules.{react, note}
use Rattle.session_rules.specs.Serving.{Draft, Stand, begin, nothing_noted}
use Rattle.session_rules.specs.Transcripts.{served}
use Rattle.session_rules.specs.Vectors.{empty_cdata, empty_sdata, no_records, one_record, one_subscription, second_request, status_request, subscription, denied}
use Rattle.session_rules.specs.Worked.{at, created_one, no_software, record_one, serving, subscribed}
use Rattle.session_rules.specs.WorkedFaults.{changed, error_with}

-- A collector that holds these subscriptions, after its first CDATA.
abbrev pub holding : List Waiting → Stand
holding subs = record begin { subs = subs }

-- What it does to an SDATA once these entries are in its chronicle, and how it stands then.
abbrev pub hears_in : ServeConfig → Chronicle → List Waiting → List ℕ → List ℕ × Stand
hears_in c chronicle subs octets = given (at_places chronicle) (length chronicle.entries) (serve (react c) note (holding subs) (heard true 4294967295 (turns_of octets)).0) []

abbrev pub hears : List Waiting → List ℕ → List ℕ × Stand
hears subs octets = hears_in serving no_software subs octets

-- The subscription that the request established, and that of another ID.
abbrev pub of_id : ℕ → Waiting
of_id id = new_waiting (record subscribed { id = id })

-- How it stands after it refused a request.
abbrev pub after_refusing : List Waiting → Stand
after_refusing subs = record {
  machine = record { role = role.Client; state = state.ServerWorking };
  subs = subs;
  numbered = 1;
  notes = nothing_noted;
  over = None;
}

-- How it stands after it took the request, and answered it with an inventory without records.
abbrev pub after_taking : Stand
after_taking = record {
  machine = record { role = role.Client; state = state.ServerWorking };
  subs = record { request = subscribed; place = Some (at 0) } ∷ [];
  numbered = 1;
  notes = record { points = at 0 ∷ []; errors = []; reports = 1 };
  over = None;
}

-- One is taken.
abbrev pub SubscriptionIsTaken : Type 0
SubscriptionIsTaken = served no_software serving (turns_of subscription) [] ≡ (empty_cdata ++ no_records, after_taking)

-- After 16 others it is denied.
abbrev pub sixteen : List Waiting
sixteen = map of_id (101 ∷ 102 ∷ 103 ∷ 104 ∷ 105 ∷ 106 ∷ 107 ∷ 108 ∷ 109 ∷ 110 ∷ 111 ∷ 112 ∷ 113 ∷ 114 ∷ 115 ∷ 116 ∷ [])

abbrev pub SubscriptionIsDenied : Type 0
SubscriptionIsDenied = hears sixteen subscription ≡ (denied, after_refusing sixteen)

-- Where its ID is held it is refused as a reuse of the ID.
abbrev pub reused : List ℕ
reused = changed ((59, 8) ∷ []) denied

abbrev pub SubscriptionIsReused : Type 0
SubscriptionIsReused = hears (of_id 1 ∷ []) subscription ≡ (reused, after_refusing (of_id 1 ∷ []))

-- The same request with the flag Clear Subscriptions is taken, in either case.
abbrev pub clearing : List ℕ
clearing = changed ((52, 0xe0) ∷ []) subscription

abbrev pub after_clearing : Stand
after_clearing = record after_taking { subs = record { request = record subscribed { clear = true }; place = Some (at 0) } ∷ [] }

pub record ClearingIsTaken : Type 0 where
  pub full : hears sixteen clearing ≡ (no_records, after_clearing)
  pub same : hears (of_id 1 ∷ []) clearing ≡ (no_records, after_clearing)
  pub none : hears [] clearing ≡ (no_records, after_clearing)

-- ---- what is said of those that are held (section 3.8.4)

-- The answer is an Error where the requests of 16 have more octets than there is room.
abbrev pub small : ServeConfig
small = record serving { max = 64 }

pub record SubscriptionsAreListed : Type 0 where
  pub listed : hears (of_id 1 ∷ []) status_request ≡ (one_subscription, after_refusing (of_id 1 ∷ []))
  pub large : hears_in small no_software sixteen status_request
      ≡ (error_with 6 (0x00 ∷ 0x00 ∷ 0x00 ∷ 0x00 ∷ 0x00 ∷ 0x00 ∷ 0x00 ∷ 0x40 ∷ []), after_refusing sixteen)

-- ---- reports that are too large (section 3.8.5)

-- The collector, once a record was created whose identifier has 7 octets. The report of that has
-- 65.
abbrev pub long_record : Record
long_record = record record_one { content = record record_one.content { ident = 0x61 ∷ 0x61 ∷ 0x61 ∷ 0x61 ∷ 0x61 ∷ 0x61 ∷ 0x61 ∷ [] } }

abbrev pub long_software : Chronicle
long_software = record no_software { entries = entry.Event (record created_one { subject = long_record }) ∷ [] }

-- The subscription that was fulfilled before.
abbrev pub fulfilled : List Waiting
fulfilled = record { request = subscribed; place = Some (at 0) } ∷ []

-- Beside an inventory, which takes 37 octets of the room, the report waits for the next batch. With
-- all room of a batch it is still too large, and the subscription is ended.
abbrev pub after_waiting : Stand
after_waiting = record after_taking { notes = record { points = at 1 ∷ []; errors = []; reports = 1 } }

pub record SubscriptionWaits : Type 0 where
  pub beside : hears_in small long_software fulfilled second_request ≡ (one_record, after_waiting)
  pub alone : hears_in small long_software fulfilled empty_sdata
      ≡ (error_with 6 (0x00 ∷ 0x00 ∷ 0x00 ∷ 0x01 ∷ 0x00 ∷ 0x00 ∷ 0x00 ∷ 0x40 ∷ []), after_refusing [])
  pub full : (c : ServeConfig) (d : Draft) → BATCH_MESSAGES ≤ length d.messages → renews c d ≡ Done d
