-- The value of a Subscription Status Response attribute (RFC 8412, section 5.12).
use Rattle.std.specs.Prelude.{◌+◌, ℕ, List, [], ◌∷◌, length, sum_by}
use Rattle.std.specs.List.{flat_map}
use Rattle.wire_base.specs.FirstFault.{FirstFault}
use Rattle.wire_base.specs.Layout.{Field, Number, Flags, Form}
use Rattle.wire_base.specs.Reading.{Reader, ◌>>=◌, number, several, at_end}
use Rattle.wire_base.specs.Written.{written}
use Rattle.swima_request.specs.declared.request.Request.{Request}
use Rattle.swima_request.specs.RequestForm.{read_fields, request_fields, request_octets}

-- ---- the layout

-- The subscriptions, each as the fields of the request that established it. No status flag has a
-- name.
abbrev pub status_fields : List Request → List Field
status_fields requests =
    Flags []  -- Status Flags
    ∷ Number 3 (length requests)  -- Subscription Record Count
    ∷ flat_map request_fields requests

-- The octets are the subscriptions.
abbrev pub StatusForm : List Request → List ℕ → Type 0
StatusForm requests octets = Form (status_fields requests) octets

-- The first fault of the octets, of which the first stands at `base`, is at the place. Those before
-- it are the first fields of some subscriptions, and after them they go on as none do.
abbrev pub StatusFault : ℕ → List ℕ → ℕ → Type 0
StatusFault base octets place = FirstFault status_fields (λ requests. Unit {0}) base octets place

-- What is written of subscriptions.
abbrev pub written_status : List Request → List ℕ
written_status requests = written (status_fields requests)

-- How many octets it has: 4 before the subscriptions, and those of each.
abbrev pub status_octets : List Request → ℕ
status_octets requests = 4 + sum_by request_octets requests

-- ---- reading

-- The same layout read field by field: the subscriptions, or the place of the first fault.
unfoldable pub read_status : Reader (List Request)
read_status = do
  flags ← number 1
  count ← number 3
  requests ← several count read_fields
  at_end requests
