-- How sessions end and go on, where the exchanges of the other worked sessions do not reach. Each
-- row has turns of octets that were written by hand, what an end writes for them, and how it ended,
-- if it has.
use Rattle.std.specs.Prelude.{◌≡◌, ℕ, true, List, [], ◌∷◌, ◌++◌, Option, Some, None, drop, map, take}
use Rattle.wire_base.specs.Turns.{Turn, Idle, Ended, turns_of}
use Rattle.swima_model.specs.declared.report.Kind.TheVariants.{Ids}
use Rattle.validator_core.specs.Held.{empty_mirror}
use Rattle.collector_core.specs.Chronicle.{Chronicle}
use Rattle.session_talk.specs.Given.{given}
use Rattle.session_hear.specs.Hearing.{heard}
use Rattle.session_hear.specs.Serving.{serve}
use Rattle.session_rules.specs.declared.config.FollowConfig.{FollowConfig}
use Rattle.session_rules.specs.declared.config.ServeConfig.{ServeConfig}
use Rattle.session_rules.specs.declared.end.SessionEnd.{SessionEnd}
use Rattle.session_rules.specs.declared.end.SessionEnd.TheVariants as end
use Rattle.session_rules.specs.Questions.{at_places}
use Rattle.session_rules.specs.ServeRules.{react, note}
use Rattle.session_rules.specs.Transcripts.{served, followed}
use Rattle.session_rules.specs.Vectors.{client_close, close, empty_cdata, empty_cretry, empty_sdata, error_heard, first_request, no_records, one_event, peer_error, result, second_request, third_request}
use Rattle.session_rules.specs.Worked.{after_fulfilling, before_creation, many_rounds, no_software, one_round, one_software, record_one, serving}
use Rattle.session_rules.specs.WorkedFaults.{changed, error_with}

-- ---- a collector

-- How it is configured, what it hears, what it writes, and how it ended, if it has.
abbrev pub Served : Type 0
Served = List (ServeConfig × List Turn × List ℕ × Option SessionEnd)

abbrev pub serves : Served → List (List ℕ × Option SessionEnd)
serves cases = map (λ (x : ServeConfig × List Turn × List ℕ × Option SessionEnd). ((served no_software x.0 x.1 []).0, (served no_software x.0 x.1 []).1.over)) cases

abbrev pub should_serve : Served → List (List ℕ × Option SessionEnd)
should_serve cases = map (λ (x : ServeConfig × List Turn × List ℕ × Option SessionEnd). (x.2, x.3)) cases

abbrev pub IsServed : Served → Type 0
IsServed cases = serves cases ≡ should_serve cases

-- A PB-Error ends the session where it is fatal or stands in a CLOSE (RFC 5793, section 4.9), and a
-- CLOSE ends it.
abbrev pub PeerEnds : Type 0
PeerEnds = IsServed (
    (serving, turns_of peer_error, empty_cdata, Some (end.PeerError 0 2))
    ∷ (serving, turns_of (changed ((20, 0) ∷ []) peer_error), empty_cdata ++ empty_cdata, None)
    ∷ (serving, turns_of (changed ((3, 6) ∷ (20, 0) ∷ []) peer_error), empty_cdata, Some (end.PeerError 0 2))
    ∷ (serving, turns_of close, empty_cdata, Some end.PeerClosed)
    ∷ (serving, turns_of (close ++ first_request), empty_cdata, Some end.PeerClosed)
    ∷ [])

-- Idle turns end it at the last that is allowed. An octet begins their count anew.
abbrev pub twice_idle : ServeConfig
twice_idle = record serving { idle = 2 }

abbrev pub IdleTurnsEnd : Type 0
IdleTurnsEnd = IsServed (
    (twice_idle, Idle ∷ [], empty_cdata, None)
    ∷ (twice_idle, Idle ∷ Idle ∷ [], empty_cdata, Some (end.IdleOut 2))
    ∷ (twice_idle, Idle ∷ turns_of (0x02 ∷ []) ++ Idle ∷ [], empty_cdata, None)
    ∷ (twice_idle, Idle ∷ turns_of (0x02 ∷ []) ++ Idle ∷ Idle ∷ [], empty_cdata, Some (end.IdleOut 2))
    ∷ [])

-- The last octet that is allowed ends it, once a batch is answered that it makes whole.
abbrev pub LastOctetsEnd : Type 0
LastOctetsEnd = IsServed (
    (record serving { octets = 65 }, turns_of first_request, empty_cdata ++ no_records, None)
    ∷ (record serving { octets = 64 }, turns_of first_request, empty_cdata ++ no_records, Some end.Enough)
    ∷ (record serving { octets = 63 }, turns_of first_request, empty_cdata, Some end.Enough)
    ∷ [])

-- After as many reports as are wanted a RESULT is answered by CLOSE.
abbrev pub WantedReportsEnd : Type 0
WantedReportsEnd = IsServed (
    (record serving { reports = Some 1 }, turns_of (first_request ++ result), (empty_cdata ++ no_records) ++ client_close, Some end.Closed)
    ∷ (record serving { reports = Some 2 }, turns_of (first_request ++ result), empty_cdata ++ no_records, None)
    ∷ [])

-- A retry of the server is passed over while its batch is awaited, and answered once it has decided
-- (RFC 5793, section 3.2).
abbrev pub RetriesAreHeard : Type 0
RetriesAreHeard = IsServed (
    (serving, turns_of (changed ((3, 5) ∷ []) second_request), empty_cdata, None)
    ∷ (serving, turns_of (changed ((3, 5) ∷ []) second_request ++ first_request), empty_cdata ++ no_records, None)
    ∷ (serving, turns_of (first_request ++ (result ++ changed ((3, 5) ∷ []) second_request)), (empty_cdata ++ no_records) ++ changed ((39, 2) ∷ (59, 2) ∷ []) no_records, None)
    ∷ [])

-- The answers to the requests of one message stand in one message. A request that clears the
-- subscriptions is answered as any other (RFC 8412, section 3.8).
abbrev pub two_requests : List ℕ
two_requests = changed ((7, 0x58) ∷ (19, 0x50) ∷ []) first_request ++ drop 40 second_request

abbrev pub two_answers : List ℕ
two_answers = changed ((7, 0x60) ∷ (19, 0x58) ∷ []) no_records ++ drop 40 (changed ((59, 2) ∷ []) no_records)

abbrev pub RequestsAreAnswered : Type 0
RequestsAreAnswered = IsServed (
    (serving, turns_of two_requests, empty_cdata ++ two_answers, None)
    ∷ (serving, turns_of (changed ((52, 0xa0) ∷ []) first_request), empty_cdata ++ no_records, None)
    ∷ [])

-- An inventory that has more octets than a batch may have is answered by an Error with the most
-- that it may have (RFC 8412, section 5.15).
abbrev pub four_software : Chronicle
four_software = record { start = record { epoch = 7; cap = 4; contents = record_one.content ∷ record_one.content ∷ record_one.content ∷ record_one.content ∷ [] }; entries = [] }

abbrev pub TooLargeIsAnswered : Type 0
TooLargeIsAnswered = (served four_software (record serving { max = 64 }) (turns_of first_request) []).0
    ≡ empty_cdata ++ error_with 6 (0x00 ∷ 0x00 ∷ 0x00 ∷ 0x01 ∷ 0x00 ∷ 0x00 ∷ 0x00 ∷ 0x40 ∷ [])

-- Two retries cross: after its own CRETRY the collector passes over the SRETRY, and answers the
-- SDATA that follows.
abbrev pub RetriesCross : Type 0
RetriesCross = given (at_places one_software) 1 (serve (react serving) note before_creation (heard true 4294967295 (Idle ∷ turns_of (changed ((3, 5) ∷ []) second_request ++ (empty_sdata ++ result)))).0) []
    ≡ (empty_cretry ++ one_event, after_fulfilling)

-- ---- a validator

abbrev pub Followed : Type 0
Followed = List (FollowConfig × List Turn × List ℕ × Option SessionEnd)

abbrev pub follows : Followed → List (List ℕ × Option SessionEnd)
follows cases = map (λ (x : FollowConfig × List Turn × List ℕ × Option SessionEnd). ((followed (empty_mirror Ids) x.0 x.1).0, (followed (empty_mirror Ids) x.0 x.1).1.over)) cases

abbrev pub should_follow : Followed → List (List ℕ × Option SessionEnd)
should_follow cases = map (λ (x : FollowConfig × List Turn × List ℕ × Option SessionEnd). (x.2, x.3)) cases

abbrev pub IsFollowed : Followed → Type 0
IsFollowed cases = follows cases ≡ should_follow cases

-- How sessions of a validator end: by the collector, by its link, by idle turns and by octets.
abbrev pub ValidatorEnds : Type 0
ValidatorEnds = IsFollowed (
    (one_round, turns_of client_close, [], Some end.PeerClosed)
    ∷ (one_round, turns_of (changed ((1, 0) ∷ (3, 1) ∷ []) peer_error), [], Some (end.PeerError 0 2))
    ∷ (one_round, turns_of empty_cdata ++ Ended ∷ [], first_request, Some end.Ended)
    ∷ (one_round, turns_of (empty_cdata ++ take 9 no_records) ++ Ended ∷ [], first_request, Some (end.Torn 9))
    ∷ (record one_round { idle = 2 }, Idle ∷ Idle ∷ [], [], Some (end.IdleOut 2))
    ∷ (record one_round { octets = 8 }, turns_of empty_cdata, first_request, Some end.Enough)
    ∷ [])

-- At an idle turn after RESULT a validator asks again by an SRETRY, for the events after those that
-- it has followed. A CRETRY that crosses it is answered by an SDATA with the request again.
abbrev pub ValidatorRetries : Type 0
ValidatorRetries = IsFollowed (
    (many_rounds, turns_of (empty_cdata ++ no_records) ++ Idle ∷ turns_of empty_cretry, first_request ++ (result ++ (changed ((3, 5) ∷ (63, 1) ∷ []) second_request ++ changed ((63, 1) ∷ []) third_request)), None)
    ∷ [])

-- A message that is refused is answered with the RESULT, after the assessment, and an Error is
-- answered by none.
abbrev pub result_with_error : List ℕ
result_with_error = changed ((7, 0x58) ∷ []) result ++ drop 8 (changed ((39, 2) ∷ []) (error_with 2 (0x02 ∷ 0x00 ∷ 0x00 ∷ 0x00 ∷ 0x00 ∷ 0x00 ∷ 0x00 ∷ 0x01 ∷ 0x01 ∷ 0x01 ∷ 0x00 ∷ 0x00 ∷ [])))

abbrev pub client_error : List ℕ
client_error = changed ((1, 0) ∷ (3, 1) ∷ []) error_heard

abbrev pub ValidatorAnswers : Type 0
ValidatorAnswers = IsFollowed (
    (one_round, turns_of (empty_cdata ++ changed ((32, 2) ∷ []) no_records), first_request ++ (result_with_error ++ close), Some end.Closed)
    ∷ (one_round, turns_of (empty_cdata ++ client_error), first_request ++ (result ++ close), Some end.Closed)
    ∷ [])

-- The Error is noted.
abbrev pub ValidatorHearsErrors : Type 0
ValidatorHearsErrors = (followed (empty_mirror Ids) one_round (turns_of (empty_cdata ++ client_error))).1.notes.errors ≡ 1 ∷ []
