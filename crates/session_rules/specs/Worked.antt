-- Worked sessions: what an end writes and how it stands then, for octets that were written by hand.
use Rattle.std.specs.Prelude.{◌≡◌, ℕ, List, [], ◌∷◌, ◌++◌, Some, None, true, false, drop}
use Rattle.wire_base.specs.Turns.{Idle, Ended, turns_of}
use Rattle.swima_model.specs.declared.event.Action.TheVariants.{Creation}
use Rattle.swima_model.specs.declared.event.Event.{Event}
use Rattle.swima_model.specs.declared.record.Record.{Record}
use Rattle.swima_model.specs.declared.report.Kind.TheVariants.{Ids}
use Rattle.swima_model.specs.declared.report.Point.{Point}
use Rattle.swima_model.specs.declared.report.Report.TheVariants.{Inventory, Events}
use Rattle.pb_machine.specs.declared.machine.Role.TheVariants as role
use Rattle.pb_machine.specs.declared.machine.State.TheVariants as state
use Rattle.swima_request.specs.declared.request.Request.{Request}
use Rattle.collector_core.specs.declared.chronicle.Entry.TheVariants as entry
use Rattle.collector_core.specs.Chronicle.{Chronicle}
use Rattle.validator_core.specs.declared.mirror.Taken.TheVariants as taken
use Rattle.validator_core.specs.Held.{empty_mirror}
use Rattle.session_rules.specs.declared.config.FollowConfig.{FollowConfig}
use Rattle.session_rules.specs.declared.config.ServeConfig.{ServeConfig}
use Rattle.session_rules.specs.declared.end.SessionEnd.TheVariants as end
use Rattle.session_rules.specs.Serving.{Stand, begin}
use Rattle.session_rules.specs.Following.{TakenReport, Stand as FollowStand, begin as begin_following}
use Rattle.session_rules.specs.Transcripts.{served, followed}
use Rattle.session_rules.specs.Vectors.{empty_cdata, first_request, second_request, third_request, no_records, result, close, record_twice, other_version, version_refused, torn_header, subscription, empty_sdata, empty_cretry, one_event}

-- A collector without software, in epoch 7.
abbrev pub no_software : Chronicle
no_software = record { start = record { epoch = 7; cap = 4; contents = [] }; entries = [] }

abbrev pub serving : ServeConfig
serving = record { max = 16000000; reports = None; idle = 4294967295; octets = 4294967295 }

-- A validator that follows for one round, and one that follows for as many as there may be.
abbrev pub one_round : FollowConfig
one_round = record { subscribe = false; rounds = 1; idle = 4294967295; octets = 4294967295 }

abbrev pub many_rounds : FollowConfig
many_rounds = record { subscribe = false; rounds = 4294967295; idle = 4294967295; octets = 4294967295 }

-- The point of epoch 7 at an event identifier.
abbrev pub at : ℕ → Point
at eid = record { epoch = 7; eid = eid }

-- ---- an inventory is asked for and answered

-- The collector writes it, and ends as the server closes.
abbrev pub after_inventory : Stand
after_inventory = record {
  machine = record { role = role.Client; state = state.End };
  subs = [];
  numbered = 1;
  notes = record { points = at 0 ∷ []; errors = []; reports = 1 };
  over = Some end.PeerClosed;
}

abbrev pub InventoryIsServed : Type 0
InventoryIsServed = served no_software serving (turns_of (first_request ++ (result ++ close))) [] ≡ (empty_cdata ++ no_records, after_inventory)

-- The validator adopts it, decides and closes.
abbrev pub after_adopting : FollowStand
after_adopting = record {
  machine = record { role = role.Server; state = state.End };
  numbered = 1;
  asked = 1;
  tries = None;
  retried = false;
  rounds = 1;
  notes = record {
    taken_reports = record { point = at 0; count = 0; answer = taken.Adopted } ∷ [];
    errors = [];
    reports = 1;
    mirror = record { kind = Ids; point = Some (at 0); records = []; off = false };
    last = Some (Inventory Ids false 1 (at 0) []);
  };
  over = Some end.Closed;
}

abbrev pub InventoryIsAdopted : Type 0
InventoryIsAdopted = followed (empty_mirror Ids) one_round (turns_of (empty_cdata ++ no_records)) ≡ (first_request ++ (result ++ close), after_adopting)

-- ---- faults

-- A batch of another version is answered by the CLOSE that reports it.
abbrev pub OtherVersionIsRefused : Type 0
OtherVersionIsRefused = followed (empty_mirror Ids) one_round (turns_of other_version)
    ≡ (version_refused, record (begin_following (empty_mirror Ids)) { machine = record { role = role.Server; state = state.End }; over = Some (end.Refused 4 0) })

-- The link ends within the header of a batch.
abbrev pub HeaderIsTorn : Type 0
HeaderIsTorn = served no_software serving (turns_of torn_header ++ Ended ∷ []) [] ≡ (empty_cdata, record begin { over = Some (end.Torn 5) })

-- ---- a collector whose answers cannot be

-- The inventory in which record 1 occurs twice.
abbrev pub record_one : Record
record_one = record { id = 1; content = record { model = record { pen = 0; kind = 2 }; source = 0; ident = 0x61 ∷ []; locator = []; body = [] } }

abbrev pub doubled_one : TakenReport
doubled_one = record { point = at 3; count = 2; answer = taken.Doubled 1 }

-- After the third request in vain the validator decides, and its mirror has no point.
abbrev pub after_doubled : FollowStand
after_doubled = record {
  machine = record { role = role.Server; state = state.End };
  numbered = 3;
  asked = 3;
  tries = None;
  retried = false;
  rounds = 1;
  notes = record {
    taken_reports = doubled_one ∷ doubled_one ∷ doubled_one ∷ [];
    errors = [];
    reports = 3;
    mirror = record { kind = Ids; point = None; records = []; off = true };
    last = Some (Inventory Ids false 1 (at 3) (record_one ∷ record_one ∷ []));
  };
  over = Some end.Closed;
}

abbrev pub DoubledIsAskedThrice : Type 0
DoubledIsAskedThrice = followed (empty_mirror Ids) one_round (turns_of (empty_cdata ++ (record_twice ++ (record_twice ++ record_twice))))
    ≡ (first_request ++ (second_request ++ (third_request ++ (result ++ close))), after_doubled)

-- ---- what waits while two ends take turns

-- The octets that an end has written, after it heard these.
abbrev pub collector_after : List ℕ → List ℕ
collector_after octets = (served no_software serving (turns_of octets) []).0

abbrev pub validator_after : List ℕ → List ℕ
validator_after octets = (followed (empty_mirror Ids) many_rounds (turns_of octets)).0

-- What waits at each end, less what was carried: before anything was, after the 8 octets of the
-- collector, and after the 64 octets of the validator.
pub record TurnsAreTaken : Type 0 where
  pub begun_up : collector_after [] ≡ empty_cdata
  pub begun_down : validator_after [] ≡ []
  pub asked_up : drop 8 (collector_after []) ≡ []
  pub asked_down : validator_after empty_cdata ≡ first_request
  pub answered_up : drop 8 (collector_after first_request) ≡ no_records
  pub answered_down : drop 64 (validator_after empty_cdata) ≡ []

-- ---- a subscription

-- The creation of record 1, a second after the start of 1970.
abbrev pub created_one : Event
created_one = record {
  eid = 1;
  stamp = 0x31 ∷ 0x39 ∷ 0x37 ∷ 0x30 ∷ 0x2d ∷ 0x30 ∷ 0x31 ∷ 0x2d ∷ 0x30 ∷ 0x31 ∷ 0x54 ∷ 0x30 ∷ 0x30 ∷ 0x3a ∷ 0x30 ∷ 0x30 ∷ 0x3a ∷ 0x30 ∷ 0x31 ∷ 0x5a ∷ [];
  action = Creation;
  subject = record_one;
}

-- The collector, once that was entered.
abbrev pub one_software : Chronicle
one_software = record no_software { entries = entry.Event created_one ∷ [] }

-- A validator that subscribes.
abbrev pub subscribing : FollowConfig
subscribing = record many_rounds { subscribe = true }

abbrev pub subscribed : Request
subscribed = record { clear = false; subscribe = true; kind = Ids; id = 1; earliest = 0; targets = [] }

-- A collector that took it before the creation, once the validator has decided.
abbrev pub before_creation : Stand
before_creation = record {
  machine = record { role = role.Client; state = state.Decided };
  subs = record { request = subscribed; place = Some (at 0) } ∷ [];
  numbered = 1;
  notes = record { points = at 0 ∷ []; errors = []; reports = 1 };
  over = None;
}

-- The session of a collector that takes the request before the creation, and has an idle turn after
-- it. At that it writes a CRETRY, and then the event, which fulfils the subscription.
abbrev pub after_fulfilling : Stand
after_fulfilling = record {
  machine = record { role = role.Client; state = state.Decided };
  subs = record { request = subscribed; place = Some (at 1) } ∷ [];
  numbered = 2;
  notes = record { points = at 0 ∷ at 1 ∷ []; errors = []; reports = 2 };
  over = None;
}

abbrev pub SubscriptionIsFulfilled : Type 0
SubscriptionIsFulfilled = served one_software serving (turns_of (subscription ++ result) ++ Idle ∷ turns_of (empty_sdata ++ result)) (0 ∷ [])
    ≡ (empty_cdata ++ (no_records ++ (empty_cretry ++ one_event)), after_fulfilling)

-- The validator adopts the first report and follows the second, and does not ask again.
abbrev pub after_following : FollowStand
after_following = record {
  machine = record { role = role.Server; state = state.Decided };
  numbered = 1;
  asked = 1;
  tries = None;
  retried = false;
  rounds = 2;
  notes = record {
    taken_reports = record { point = at 0; count = 0; answer = taken.Adopted } ∷ record { point = at 1; count = 1; answer = taken.Advanced 0 1 } ∷ [];
    errors = [];
    reports = 2;
    mirror = record { kind = Ids; point = Some (at 1); records = record_one ∷ []; off = false };
    last = Some (Events Ids true 1 (at 1) 1 (created_one ∷ []));
  };
  over = None;
}

abbrev pub SubscriptionIsFollowed : Type 0
SubscriptionIsFollowed = followed (empty_mirror Ids) subscribing (turns_of (empty_cdata ++ (no_records ++ (empty_cretry ++ one_event))))
    ≡ (subscription ++ (result ++ (empty_sdata ++ result)), after_following)
