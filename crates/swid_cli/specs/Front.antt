-- What stands first in what is left of the input: an attribute (RFC 5792, section 4.1), or nothing
-- whole.
use Rattle.std.specs.Prelude.{◌==◌, ◌+◌, ℕ, Bool, false, List, [], ◌∷◌, length, take, drop, nat_lt, if◌then◌else◌}
use Rattle.pa_attrs.specs.Numbers.{HEADER, UNSUPPORTED_ATTRIBUTE}
use Rattle.pa_attrs.specs.Header.{header_of}
use Rattle.pa_attrs.specs.Faults.{fault, is_refused, is_supported}
use Rattle.pa_attrs.specs.Stream.{Front as Begun, More, Bad, Whole, front_of}
use Rattle.swima_reports.specs.ReportType.{SOFTWARE_IDENTIFIER_INVENTORY, SOFTWARE_IDENTIFIER_EVENTS, SOFTWARE_INVENTORY, SOFTWARE_EVENTS}
use Rattle.swid_cli.specs.declared.mirror.first_attribute.Front.{Front}
use Rattle.swid_cli.specs.declared.mirror.first_attribute.Front.TheVariants as front

-- The types of vendor 0, the IETF, that are supported: those of attributes that carry reports
-- (RFC 8412, section 5.2).
abbrev pub REPORT_TYPES : List ℕ
REPORT_TYPES = SOFTWARE_IDENTIFIER_INVENTORY ∷ SOFTWARE_IDENTIFIER_EVENTS ∷ SOFTWARE_INVENTORY ∷ SOFTWARE_EVENTS ∷ []

-- An attribute of this vendor and type carries a report.
abbrev pub carries_report : ℕ → ℕ → Bool
carries_report vendor kind = is_supported REPORT_TYPES vendor kind

-- A header is there, and it is that of an attribute that carries no report and may not be passed
-- over.
abbrev pub shows_refused : List ℕ → Bool
shows_refused octets = if nat_lt (length octets) HEADER then false else is_refused REPORT_TYPES (header_of octets)

-- No whole attribute stands first, where `count` octets are left and `room` of them may be looked
-- at. Either the input has more than may be looked at, or nothing is left, or it ends inside an
-- attribute.
abbrev pub cut : ℕ → ℕ → Front
cut room count = if nat_lt room count then front.Limit else (if count == 0 then front.End else front.Torn count)

-- What stands first where the octets that may be looked at begin so, by the rules of any stream of
-- attributes.
abbrev pub begins : ℕ → ℕ → Begun → Front
begins room count More = cut room count
begins room count (Bad fault) = front.Faulty fault
begins room count (Whole attr len) = front.Whole attr len

-- What stands first in octets of which `room` may be looked at. That an attribute is refused goes
-- before all else.
unfoldable pub first_of : ℕ → List ℕ → Front
first_of room octets =
    if shows_refused (take room octets) then front.Faulty (fault UNSUPPORTED_ATTRIBUTE 0)
    else begins room (length octets) (front_of (take room octets))

-- What is left of the octets after what stands first: no octet is read but those that have to be
-- looked at. That there are more than may be looked at shows by one octet more.
abbrev pub left_behind : ℕ → List ℕ → Front → List ℕ
left_behind room octets front.End = []
left_behind room octets (front.Torn have) = []
left_behind room octets front.Limit = drop (room + 1) octets
left_behind room octets (front.Faulty fault) = drop HEADER octets
left_behind room octets (front.Whole attr len) = drop len octets
