-- Faults in the first batch that an end hears: octets of a batch that was written by hand with some
-- of them changed, what is written in answer, and how the session stands then.
use Rattle.std.specs.Prelude.{◌≡◌, ◌+◌, ℕ, zero, suc, List, [], ◌∷◌, ◌++◌, Option, Some, None, length, map, take, slice_set}
use Rattle.wire_base.specs.Turns.{Ended, turns_of}
use Rattle.swima_model.specs.declared.report.Kind.TheVariants.{Ids}
use Rattle.validator_core.specs.Held.{empty_mirror}
use Rattle.session_rules.specs.declared.end.SessionEnd.{SessionEnd}
use Rattle.session_rules.specs.declared.end.SessionEnd.TheVariants as end
use Rattle.session_rules.specs.Serving.{Stand}
use Rattle.session_rules.specs.Following.{Stand as FollowStand}
use Rattle.session_rules.specs.Transcripts.{served, followed}
use Rattle.session_rules.specs.Vectors.{empty_cdata, first_request, no_records, error_heard, fault_after_error}
use Rattle.session_rules.specs.Worked.{no_software, serving, one_round}

-- Octets with others at some places.
abbrev pub changed : List (ℕ × ℕ) → List ℕ → List ℕ
changed [] octets = octets
changed (change ∷ changes) octets = changed changes (slice_set octets change.0 change.1)

-- Octets that many times, one after another.
abbrev pub times : ℕ → List ℕ → List ℕ
times zero octets = []
times (suc count) octets = octets ++ times count octets

-- The session of a collector without software that hears these octets, and that of a validator.
abbrev pub collector : List ℕ → List ℕ × Stand
collector octets = served no_software serving (turns_of octets) []

abbrev pub validator : List ℕ → List ℕ × FollowStand
validator octets = followed (empty_mirror Ids) one_round (turns_of octets)

-- ---- faults of the batch (RFC 5793, section 4)

-- What reports a fault: the code, the place, and what the error says of it.
abbrev pub Report : Type 0
Report = ℕ × ℕ × List ℕ

-- An invalid parameter, a message of an unknown type, another version, and a batch that may not
-- come in the state.
abbrev pub invalid : ℕ → Report
invalid place = (1, place, 0 ∷ 0 ∷ 0 ∷ place ∷ [])

abbrev pub unsupported : ℕ → Report
unsupported place = (3, place, 0 ∷ 0 ∷ 0 ∷ place ∷ [])

abbrev pub not_spoken : ℕ → Report
not_spoken version = (4, 0, version ∷ 2 ∷ 2 ∷ 0 ∷ [])

abbrev pub unexpected : Report
unexpected = (0, 0, [])

-- A CLOSE with a fatal PB-Error (section 4.9), of the server where the direction is 80.
abbrev pub close_with : ℕ → Report → List ℕ
close_with direction report =
    0x02 ∷ direction ∷ 0x00 ∷ 0x06 ∷ 0x00 ∷ 0x00 ∷ 0x00 ∷ (28 + length report.2)  -- version, direction, type and length of the batch
    ∷ 0x80 ∷ 0x00 ∷ 0x00 ∷ 0x00 ∷ 0x00 ∷ 0x00 ∷ 0x00 ∷ 0x05 ∷ 0x00 ∷ 0x00 ∷ 0x00 ∷ (20 + length report.2)  -- a PB-Error, and its length
    ∷ 0x80 ∷ 0x00 ∷ 0x00 ∷ 0x00 ∷ 0x00 ∷ report.0 ∷ 0x00 ∷ 0x00  -- fatal, vendor and code
    ∷ report.2

-- A fault: the octets that have it, and what reports it.
abbrev pub Faults : Type 0
Faults = List (List ℕ × Report)

abbrev pub server_faults : Faults
server_faults =
    (changed ((0, 3) ∷ []) first_request, not_spoken 3)  -- another version
    ∷ (changed ((1, 0) ∷ []) first_request, invalid 1)  -- a batch of the client
    ∷ (changed ((3, 7) ∷ []) first_request, invalid 3)  -- no type of a batch
    ∷ (changed ((3, 1) ∷ []) first_request, unexpected)  -- a CDATA
    ∷ (changed ((3, 4) ∷ []) first_request, unexpected)  -- a CRETRY
    ∷ (changed ((7, 7) ∷ []) first_request, invalid 4)  -- 7 octets
    ∷ (changed ((4, 1) ∷ (7, 1) ∷ []) first_request, invalid 4)  -- 16777217 octets
    ∷ (changed ((7, 0x13) ∷ []) first_request, invalid 8)  -- 11 octets after the header
    ∷ (changed ((15, 0x63) ∷ []) first_request, unsupported 8)  -- a message of an unknown type
    ∷ (changed ((9, 0xff) ∷ (10, 0xff) ∷ (11, 0xff) ∷ []) first_request, unsupported 8)  -- a message of no vendor
    ∷ (changed ((8, 0) ∷ (9, 0xff) ∷ (10, 0xff) ∷ (11, 0xff) ∷ []) first_request, invalid 9)  -- the same without NOSKIP
    ∷ (changed ((8, 0) ∷ (12, 0xff) ∷ (13, 0xff) ∷ (14, 0xff) ∷ (15, 0xff) ∷ []) first_request, invalid 12)  -- a message of no type
    ∷ (changed ((19, 0x0b) ∷ []) first_request, invalid 16)  -- a message of 11 octets
    ∷ (changed ((19, 0x39) ∷ []) first_request, invalid 16)  -- a message past the end of the batch
    ∷ (changed ((19, 0x17) ∷ []) first_request, invalid 16)  -- a PB-PA message of 23 octets
    ∷ (changed ((15, 2) ∷ []) first_request, invalid 16)  -- an Assessment-Result of 56 octets
    ∷ (changed ((15, 3) ∷ []) first_request, invalid 16)  -- an Access-Recommendation of 56 octets
    ∷ (changed ((15, 5) ∷ (19, 0x13) ∷ []) first_request, invalid 16)  -- a PB-Error of 19 octets
    ∷ (changed ((15, 2) ∷ (19, 0x10) ∷ (23, 5) ∷ []) first_request, invalid 20)  -- the assessment 5
    ∷ (changed ((15, 3) ∷ (19, 0x10) ∷ []) first_request, invalid 22)  -- the recommendation 0
    ∷ (changed ((15, 3) ∷ (19, 0x10) ∷ (23, 4) ∷ []) first_request, invalid 22)  -- and 4
    ∷ (changed ((21, 0xff) ∷ (22, 0xff) ∷ (23, 0xff) ∷ []) first_request, invalid 21)  -- a PA-TNC message of no vendor
    ∷ (changed ((24, 0xff) ∷ (25, 0xff) ∷ (26, 0xff) ∷ (27, 0xff) ∷ []) first_request, invalid 24)  -- and of no subtype
    ∷ []

-- Each is answered by the CLOSE that reports it, and ends the session of a collector.
abbrev pub collector_refuses : Faults → List (List ℕ × Option SessionEnd)
collector_refuses faults = map (λ (x : List ℕ × Report). ((collector x.0).0, (collector x.0).1.over)) faults

abbrev pub collector_should : Faults → List (List ℕ × Option SessionEnd)
collector_should faults = map (λ (x : List ℕ × Report). (empty_cdata ++ close_with 0x00 x.1, Some (end.Refused x.1.0 x.1.1))) faults

abbrev pub FaultsAreRefused : Type 0
FaultsAreRefused = collector_refuses server_faults ≡ collector_should server_faults

-- So at a validator.
abbrev pub client_faults : Faults
client_faults =
    (changed ((0, 3) ∷ []) no_records, not_spoken 3)  -- another version
    ∷ (changed ((1, 0x80) ∷ []) no_records, invalid 1)  -- a batch of the server
    ∷ (changed ((3, 7) ∷ []) no_records, invalid 3)  -- no type of a batch
    ∷ (changed ((3, 2) ∷ []) no_records, unexpected)  -- an SDATA
    ∷ (changed ((3, 4) ∷ []) no_records, unexpected)  -- a CRETRY
    ∷ (changed ((7, 7) ∷ []) no_records, invalid 4)  -- 7 octets
    ∷ (changed ((15, 0x63) ∷ []) no_records, unsupported 8)  -- a message of an unknown type
    ∷ (changed ((8, 0) ∷ (12, 0xff) ∷ (13, 0xff) ∷ (14, 0xff) ∷ (15, 0xff) ∷ []) no_records, invalid 12)  -- a message of no type
    ∷ (changed ((19, 0x0b) ∷ []) no_records, invalid 16)  -- a message of 11 octets
    ∷ (changed ((19, 0x3d) ∷ []) no_records, invalid 16)  -- a message past the end of the batch
    ∷ (changed ((24, 0xff) ∷ (25, 0xff) ∷ (26, 0xff) ∷ (27, 0xff) ∷ []) no_records, invalid 24)  -- a PA-TNC message of no subtype
    ∷ []

abbrev pub validator_refuses : Faults → List (List ℕ × Option SessionEnd)
validator_refuses faults = map (λ (x : List ℕ × Report). ((validator x.0).0, (validator x.0).1.over)) faults

abbrev pub validator_should : Faults → List (List ℕ × Option SessionEnd)
validator_should faults = map (λ (x : List ℕ × Report). (close_with 0x80 x.1, Some (end.Refused x.1.0 x.1.1))) faults

abbrev pub FaultsAreRefusedByValidator : Type 0
FaultsAreRefusedByValidator = validator_refuses client_faults ≡ validator_should client_faults

-- A batch of 65 messages, each of 12 octets and of vendor 1: the last is one too many.
abbrev pub many_messages : List ℕ
many_messages =
    0x02 ∷ 0x80 ∷ 0x00 ∷ 0x02 ∷ 0x00 ∷ 0x00 ∷ 0x03 ∷ 0x14 ∷ times 65 (0x00 ∷ 0x00 ∷ 0x00 ∷ 0x01 ∷ 0x00 ∷ 0x00 ∷ 0x00 ∷ 0x01 ∷ 0x00 ∷ 0x00 ∷ 0x00 ∷ 0x0c ∷ [])

abbrev pub LastMessageIsRefused : Type 0
LastMessageIsRefused = collector_refuses ((many_messages, (1, 776, 0x00 ∷ 0x00 ∷ 0x03 ∷ 0x08 ∷ [])) ∷ []) ≡ collector_should ((many_messages, (1, 776, 0x00 ∷ 0x00 ∷ 0x03 ∷ 0x08 ∷ [])) ∷ [])

-- ---- faults of the message (RFC 5792, section 4.2.8)

-- A CDATA with a PA-TNC Error of a code, and what the Error reports.
abbrev pub error_with : ℕ → List ℕ → List ℕ
error_with code info =
    0x02 ∷ 0x00 ∷ 0x00 ∷ 0x01 ∷ 0x00 ∷ 0x00 ∷ 0x00 ∷ (60 + length info)  -- version, direction, type and length of the batch
    ∷ 0x80 ∷ 0x00 ∷ 0x00 ∷ 0x00 ∷ 0x00 ∷ 0x00 ∷ 0x00 ∷ 0x01 ∷ 0x00 ∷ 0x00 ∷ 0x00 ∷ (52 + length info)  -- a PB-PA message, and its length
    ∷ 0x00 ∷ 0x00 ∷ 0x00 ∷ 0x00 ∷ 0x00 ∷ 0x00 ∷ 0x00 ∷ 0x09 ∷ 0x00 ∷ 0x01 ∷ 0x00 ∷ 0x01  -- vendor and subtype, collector and validator
    ∷ 0x01 ∷ 0x00 ∷ 0x00 ∷ 0x00 ∷ 0x00 ∷ 0x00 ∷ 0x00 ∷ 0x01  -- a PA-TNC message, and its number
    ∷ 0x00 ∷ 0x00 ∷ 0x00 ∷ 0x00 ∷ 0x00 ∷ 0x00 ∷ 0x00 ∷ 0x08 ∷ 0x00 ∷ 0x00 ∷ 0x00 ∷ (20 + length info)  -- an attribute: vendor, type and length
    ∷ 0x00 ∷ 0x00 ∷ 0x00 ∷ 0x00 ∷ 0x00 ∷ 0x00 ∷ 0x00 ∷ code  -- the vendor of the code, and the code
    ∷ info

-- The header of the message of the request.
abbrev pub header : List ℕ
header = 0x01 ∷ 0x00 ∷ 0x00 ∷ 0x00 ∷ 0x00 ∷ 0x00 ∷ 0x00 ∷ 0x01 ∷ []

-- An invalid parameter at a place of the message.
abbrev pub invalid_at : ℕ → List ℕ
invalid_at place = error_with 1 (header ++ 0x00 ∷ 0x00 ∷ 0x00 ∷ place ∷ [])

-- Some octets, the batch that answers, and the codes of the Errors that were heard.
abbrev pub Replies : Type 0
Replies = List (List ℕ × List ℕ × List ℕ)

abbrev pub answers : Replies
answers =
    (changed ((8, 0) ∷ (15, 0x63) ∷ []) first_request, empty_cdata, [])  -- a message of an unknown type that may be passed over
    ∷ (take 32 (changed ((7, 0x20) ∷ (19, 0x18) ∷ []) first_request), error_with 1 (0 ∷ 0 ∷ 0 ∷ 0 ∷ 0 ∷ 0 ∷ 0 ∷ 0 ∷ 0 ∷ 0 ∷ 0 ∷ 0 ∷ []), [])  -- an empty message
    ∷ (take 39 (changed ((7, 0x27) ∷ (19, 0x1f) ∷ []) first_request), error_with 1 (1 ∷ 0 ∷ 0 ∷ 0 ∷ 0 ∷ 0 ∷ 0 ∷ 0 ∷ 0 ∷ 0 ∷ 0 ∷ 0 ∷ []), [])  -- a message of 7 octets
    ∷ (changed ((32, 2) ∷ []) first_request, error_with 2 (0x02 ∷ 0x00 ∷ 0x00 ∷ 0x00 ∷ 0x00 ∷ 0x00 ∷ 0x00 ∷ 0x01 ∷ 0x01 ∷ 0x01 ∷ 0x00 ∷ 0x00 ∷ []), [])  -- another version
    ∷ (changed ((41, 0xff) ∷ (42, 0xff) ∷ (43, 0xff) ∷ []) first_request, invalid_at 9, [])  -- an attribute of no vendor
    ∷ (changed ((44, 0xff) ∷ (45, 0xff) ∷ (46, 0xff) ∷ (47, 0xff) ∷ []) first_request, invalid_at 12, [])  -- and of no type
    ∷ (changed ((47, 0x14) ∷ []) first_request, empty_cdata, [])  -- an attribute of type 20
    ∷ (changed ((40, 0x80) ∷ (47, 0x14) ∷ []) first_request, error_with 3 (header ++ 0x80 ∷ 0x00 ∷ 0x00 ∷ 0x00 ∷ 0x00 ∷ 0x00 ∷ 0x00 ∷ 0x14 ∷ []), [])  -- the same with NOSKIP
    ∷ (changed ((51, 0x0b) ∷ []) first_request, invalid_at 16, [])  -- an attribute of 11 octets
    ∷ (changed ((51, 0x17) ∷ []) first_request, invalid_at 31, [])  -- an attribute of 23 octets
    ∷ (changed ((55, 1) ∷ []) first_request, invalid_at 32, [])  -- a request with one target
    ∷ (error_heard, empty_cdata, 1 ∷ [])  -- an Error
    ∷ (fault_after_error, empty_cdata, [])  -- an Error, and after it an attribute of 11 octets
    ∷ []

-- What is written then, that no report was, which Errors were heard, and that the session goes on.
abbrev pub written_answers : Replies → List (List ℕ × ℕ × List ℕ × Option SessionEnd)
written_answers cases = map (λ (x : List ℕ × List ℕ × List ℕ). ((collector x.0).0, (collector x.0).1.notes.reports, (collector x.0).1.notes.errors, (collector x.0).1.over)) cases

abbrev pub wanted_answers : Replies → List (List ℕ × ℕ × List ℕ × Option SessionEnd)
wanted_answers cases = map (λ (x : List ℕ × List ℕ × List ℕ). (empty_cdata ++ x.1, 0, x.2, None)) cases

abbrev pub FaultsAreAnswered : Type 0
FaultsAreAnswered = written_answers answers ≡ wanted_answers answers

-- A message of 65 attributes, each of 12 octets and of vendor 1: the last is one too many.
abbrev pub many_attributes : List ℕ
many_attributes =
    0x02 ∷ 0x80 ∷ 0x00 ∷ 0x02 ∷ 0x00 ∷ 0x00 ∷ 0x03 ∷ 0x34 ∷ 0x80 ∷ 0x00 ∷ 0x00 ∷ 0x00 ∷ 0x00 ∷ 0x00 ∷ 0x00 ∷ 0x01 ∷ 0x00 ∷ 0x00 ∷ 0x03 ∷ 0x2c
    ∷ 0x00 ∷ 0x00 ∷ 0x00 ∷ 0x00 ∷ 0x00 ∷ 0x00 ∷ 0x00 ∷ 0x09 ∷ 0x00 ∷ 0x01 ∷ 0x00 ∷ 0x01 ∷ header ++ times 65 (0x00 ∷ 0x00 ∷ 0x00 ∷ 0x01 ∷ 0x00 ∷ 0x00 ∷ 0x00 ∷ 0x01 ∷ 0x00 ∷ 0x00 ∷ 0x00 ∷ 0x0c ∷ [])

abbrev pub LastAttributeIsAnswered : Type 0
LastAttributeIsAnswered = (collector many_attributes).0 ≡ empty_cdata ++ error_with 1 (header ++ 0x00 ∷ 0x00 ∷ 0x03 ∷ 0x08 ∷ [])

-- ---- a link that ends within the batch

-- How the session ends after that many octets of the batch.
abbrev pub cut_at : ℕ → Option SessionEnd
cut_at count = (served no_software serving (turns_of (take count first_request) ++ Ended ∷ []) []).1.over

-- Each number below one.
abbrev pub below : ℕ → List ℕ
below zero = []
below (suc count) = count ∷ below count

abbrev pub torn_at : ℕ → Option SessionEnd
torn_at zero = Some end.Ended
torn_at (suc count) = Some (end.Torn (suc count))

abbrev pub CutsAreTorn : Type 0
CutsAreTorn = map cut_at (below 64) ≡ map torn_at (below 64)
