-- What the definitions mean.
use Rattle.std.specs.Prelude.{◌≡◌, ◌<◌, ◌^◌, ℕ, List, Ok, length}
use Rattle.std.specs.List.{AllByRecursion}
use Rattle.wire_base.specs.FirstFault.{FormOrFault, NoneIsAFront, ReadsFault, ReadsForm}
use Rattle.wire_base.specs.Reading.{whole}
use Rattle.swima_request.specs.declared.request.Request.{Request}
use Rattle.swima_request.specs.RequestForm.{RequestFault, RequestForm, read_request, request_octets, written_request}

-- ---- reading

-- A request is read of octets exactly where they have its form.
abbrev pub ReadingIsForm : Type 0
ReadingIsForm = ReadsForm read_request RequestForm

-- A fault is read of octets exactly where it is their first.
abbrev pub FaultIsFirst : Type 0
FaultIsFirst = ReadsFault read_request RequestFault

-- Octets are the form of a request or have a first fault: exactly one of the two, and one request
-- or fault alone.
abbrev pub AreOneOfTwo : Type 0
AreOneOfTwo = FormOrFault RequestForm RequestFault

-- No form of a request is a prefix of another one.
abbrev pub NoFormIsAFront : Type 0
NoFormIsAFront = NoneIsAFront RequestForm

-- A form of a request has as many octets as are counted, whatever the flags without a name are.
abbrev pub FormIsCounted : Type 0
FormIsCounted = (request : Request) (octets : List ℕ) → RequestForm request octets → length octets ≡ request_octets request

-- ---- writing

-- The numbers of a request, and the lengths and the count of its targets, have room in their
-- fields.
pub record HasRoom (request : Request) : Type 0 where
  pub count : length request.targets < 2 ^ 24
  pub id : request.id < 2 ^ 32
  pub earliest : request.earliest < 2 ^ 32
  pub targets : AllByRecursion (λ (target : List ℕ). length target < 2 ^ 16) request.targets

-- What is written of a request is read back.
abbrev pub WrittenIsRead : Type 0
WrittenIsRead = (base : ℕ) (request : Request) → HasRoom request → whole read_request base (written_request request) ≡ Ok request

-- It has as many octets as are counted.
abbrev pub WrittenIsCounted : Type 0
WrittenIsCounted = (request : Request) → length (written_request request) ≡ request_octets request
