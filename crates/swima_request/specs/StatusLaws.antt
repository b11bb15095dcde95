-- What the definitions of subscriptions mean.
use Rattle.std.specs.Prelude.{◌≡◌, ◌<◌, ◌≤◌, ◌^◌, ℕ, List, Ok, length}
use Rattle.std.specs.List.{AllByRecursion}
use Rattle.wire_base.specs.FirstFault.{FormOrFault, NoneIsAFront, ReadsFault, ReadsForm}
use Rattle.wire_base.specs.Reading.{whole}
use Rattle.swima_request.specs.declared.request.Request.{Request}
use Rattle.swima_request.specs.Laws.{HasRoom}
use Rattle.swima_request.specs.StatusForm.{StatusFault, StatusForm, read_status, status_octets, written_status}

-- ---- reading

-- Subscriptions are read of octets exactly where they have their form.
abbrev pub ReadingIsForm : Type 0
ReadingIsForm = ReadsForm read_status StatusForm

-- A fault is read of octets exactly where it is their first.
abbrev pub FaultIsFirst : Type 0
FaultIsFirst = ReadsFault read_status StatusFault

-- Octets are the form of subscriptions or have a first fault: exactly one of the two, and one list
-- of subscriptions or one fault alone.
abbrev pub AreOneOfTwo : Type 0
AreOneOfTwo = FormOrFault StatusForm StatusFault

-- No form of subscriptions is a prefix of another one.
abbrev pub NoFormIsAFront : Type 0
NoFormIsAFront = NoneIsAFront StatusForm

-- A form of subscriptions has as many octets as are counted, whatever the flags without a name are.
abbrev pub FormIsCounted : Type 0
FormIsCounted = (requests : List Request) (octets : List ℕ) → StatusForm requests octets → length octets ≡ status_octets requests

-- ---- writing

-- Each request has room in its fields, and their count in its own.
pub record HasRoomForAll (requests : List Request) : Type 0 where
  pub count : length requests < 2 ^ 24
  pub each : AllByRecursion HasRoom requests

-- What is written of subscriptions is read back.
abbrev pub WrittenIsRead : Type 0
WrittenIsRead = (base : ℕ) (requests : List Request) → HasRoomForAll requests → whole read_status base (written_status requests) ≡ Ok requests

-- It has as many octets as are counted.
abbrev pub WrittenIsCounted : Type 0
WrittenIsCounted = (requests : List Request) → length (written_status requests) ≡ status_octets requests

-- Subscriptions of at most 16,777,000 octets have counts that fit their fields: fewer than 2^24
-- subscriptions, and of each fewer than 2^24 targets.
abbrev pub CountsFit : Type 0
CountsFit = (requests : List Request) → status_octets requests ≤ 16777000
    → (length requests < 2 ^ 24) × AllByRecursion (λ (request : Request). length request.targets < 2 ^ 24) requests
