-- What is wrong with an attribute (RFC 5792, section 4.1), as a table, with the codes of
-- section 4.2.8. The limits on lengths and on the number of attributes are our own, and so is the
-- order. Of the rows that show, the one with the lowest place counts, and of two at one place the
-- earlier; the rows stand in this order, so it is the first that shows.
use Rattle.std.specs.Prelude.{◌==◌, ◌&&◌, ◌||◌, ℕ, Bool, not, List, [], ◌∷◌, Result, length, nat_lt}
use Rattle.std.specs.List.{list_any}
use Rattle.wire_base.specs.FaultTable.{Row as RowOf}
pub use Rattle.wire_base.specs.FaultTable.{first_shown, unless}
use Rattle.pa_attrs.specs.declared.fault.AttrFault.{AttrFault}
use Rattle.pa_attrs.specs.declared.header.Header.{Header}
use Rattle.pa_attrs.specs.Numbers.{HEADER, IETF, NO_VENDOR, NO_TYPE, INVALID_PARAMETER, UNSUPPORTED_ATTRIBUTE, MOST_OCTETS}
use Rattle.pa_attrs.specs.Header.{header_of}

-- A fault: its code, and its place from the attribute's first octet.
abbrev pub fault : ℕ → ℕ → AttrFault
fault code at = record { code = code; at = at }

-- A row of the table.
abbrev pub Row : Type 0
Row = RowOf AttrFault

abbrev pub row : Bool → ℕ → ℕ → Row
row shows code at = record { shows = shows; fault = fault code at }

-- The rows on a header, where there are that many octets for the attribute.
abbrev pub header_rows : ℕ → Header → List Row
header_rows most h =
    row (h.vendor == NO_VENDOR) INVALID_PARAMETER 1
    ∷ row (h.kind == NO_TYPE) INVALID_PARAMETER 4
    ∷ row (nat_lt h.length HEADER || nat_lt most h.length) INVALID_PARAMETER 8
    ∷ []

-- Attributes of the type are supported, by a list of types of vendor 0.
abbrev pub is_supported : List ℕ → ℕ → ℕ → Bool
is_supported supported vendor kind = (vendor == IETF) && list_any (λ known. known == kind) supported

-- The attribute may not be passed over, and is not supported.
abbrev pub is_refused : List ℕ → Header → Bool
is_refused supported h = h.noskip && not (is_supported supported h.vendor h.kind)

-- The rows on an attribute that begins with these octets, all that are left of a message, where
-- that many attributes more have room in it.
abbrev pub message_rows : List ℕ → ℕ → List ℕ → Header → List Row
message_rows supported room octets h =
    row (room == 0) INVALID_PARAMETER 0
    ∷ row (nat_lt (length octets) HEADER) INVALID_PARAMETER 0
    ∷ row (is_refused supported h) UNSUPPORTED_ATTRIBUTE 0
    ∷ header_rows (length octets) h

-- The header of an attribute of a message, or its first fault.
unfoldable pub message_header : List ℕ → ℕ → List ℕ → Result Header AttrFault
message_header supported room octets = unless (first_shown (message_rows supported room octets (header_of octets))) (header_of octets)

-- The header of an attribute of a stream that begins with these octets, or its first fault. It
-- shows once 12 octets are there.
unfoldable pub stream_header : List ℕ → Result Header AttrFault
stream_header octets = unless (first_shown (header_rows MOST_OCTETS (header_of octets))) (header_of octets)
