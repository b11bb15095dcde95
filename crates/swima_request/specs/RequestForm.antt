-- The value of a SWIMA Request attribute (RFC 8412, section 5.6).
use Rattle.std.specs.Prelude.{◌+◌, ℕ, Bool, true, false, List, [], ◌∷◌, length, sum_by, if◌then◌else◌}
use Rattle.std.specs.List.{flat_map}
use Rattle.wire_base.specs.FirstFault.{FirstFault}
use Rattle.wire_base.specs.Layout.{Field, Number, Flags, Counted, Form, is_set}
use Rattle.wire_base.specs.Reading.{Reader, ◌>>=◌, done, number, counted, several, at_end}
use Rattle.wire_base.specs.Written.{written}
use Rattle.swima_model.specs.declared.report.Kind.{Kind}
use Rattle.swima_model.specs.declared.report.Kind.TheVariants as kind
use Rattle.swima_request.specs.declared.request.Request.{Request}

-- ---- the layout

-- The flags Clear Subscriptions, Subscribe and Result Type, from the highest bit on.
abbrev pub CLEAR : ℕ
CLEAR = 128

abbrev pub SUBSCRIBE : ℕ
SUBSCRIBE = 64

abbrev pub IDENTIFIERS_ONLY : ℕ
IDENTIFIERS_ONLY = 32

-- The reports that are asked for have no bodies.
abbrev pub is_ids : Kind → Bool
is_ids kind.Ids = true
is_ids kind.Full = false

-- The software identifier of a target.
abbrev pub target_fields : List ℕ → List Field
target_fields target = Counted 2 target ∷ []  -- Software Identifier Length, Software Identifier

-- A request.
abbrev pub request_fields : Request → List Field
request_fields request =
    Flags ((CLEAR, request.clear) ∷ (SUBSCRIBE, request.subscribe) ∷ (IDENTIFIERS_ONLY, is_ids request.kind) ∷ [])  -- Flags
    ∷ Number 3 (length request.targets)  -- Software Identifier Count
    ∷ Number 4 request.id  -- Request ID
    ∷ Number 4 request.earliest  -- Earliest EID
    ∷ flat_map target_fields request.targets

-- The octets are the request.
abbrev pub RequestForm : Request → List ℕ → Type 0
RequestForm request octets = Form (request_fields request) octets

-- The first fault of the octets, of which the first stands at `base`, is at the place. Those before
-- it are the first fields of some request, and after them they go on as no request does.
abbrev pub RequestFault : ℕ → List ℕ → ℕ → Type 0
RequestFault base octets place = FirstFault request_fields (λ request. Unit {0}) base octets place

-- What is written of a request.
abbrev pub written_request : Request → List ℕ
written_request request = written (request_fields request)

-- How many octets it has: 12 before the targets, and of each target its length and its octets.
abbrev pub request_octets : Request → ℕ
request_octets request = 12 + sum_by (λ (target : List ℕ). 2 + length target) request.targets

-- ---- reading

-- The kind of the reports, by the flag.
abbrev pub kind_of : Bool → Kind
kind_of ids_only = if ids_only then kind.Ids else kind.Full

-- The same layout read field by field: the request, or the place of the first fault. Of a software
-- identifier that does not fit that is its length.
unfoldable pub read_fields : Reader Request
read_fields = do
  flags ← number 1
  count ← number 3
  id ← number 4
  earliest ← number 4
  targets ← several count (counted 2)
  done (record { clear = is_set flags CLEAR; subscribe = is_set flags SUBSCRIBE; kind = kind_of (is_set flags IDENTIFIERS_ONLY); id = id; earliest = earliest; targets = targets })

-- A request, after which nothing is left.
unfoldable pub read_request : Reader Request
read_request = do
  request ← read_fields
  at_end request
