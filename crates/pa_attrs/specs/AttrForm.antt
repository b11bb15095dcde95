-- A PA-TNC attribute (RFC 5792, section 4.1): a header, and the value.
use Rattle.std.specs.Prelude.{◌<◌, ◌≤◌, ◌+◌, ℕ, List, [], ◌∷◌, ◌++◌, length}
use Rattle.wire_base.specs.Layout.{Field, Number, Flags, Fixed, Form}
use Rattle.pa_attrs.specs.declared.attr.Attr.{Attr}
use Rattle.pa_attrs.specs.declared.header.Header.{Header}
use Rattle.pa_attrs.specs.Numbers.{NOSKIP, HEADER, NO_VENDOR, NO_TYPE, MOST_OCTETS}

-- The header. Flags other than NOSKIP may be any.
abbrev pub header_fields : Header → List Field
header_fields h =
    Flags ((NOSKIP, h.noskip) ∷ [])  -- Flags
    ∷ Number 3 h.vendor  -- PA-TNC Attribute Vendor ID
    ∷ Number 4 h.kind  -- PA-TNC Attribute Type
    ∷ Number 4 h.length  -- PA-TNC Attribute Length
    ∷ []

-- The header of an attribute: the length counts the octets of the header too.
abbrev pub header_for : Attr → Header
header_for attr = record { noskip = attr.noskip; vendor = attr.vendor; kind = attr.kind; length = HEADER + length attr.value }

-- An attribute.
abbrev pub attr_fields : Attr → List Field
attr_fields attr = header_fields (header_for attr) ++ Fixed (length attr.value) attr.value ∷ []

-- Its vendor and its type are none of those that are kept free.
pub record IsNamed (attr : Attr) : Type 0 where
  pub vendor : attr.vendor < NO_VENDOR
  pub kind : attr.kind < NO_TYPE

-- The octets are an attribute of a stream.
pub record AttrForm (attr : Attr) (octets : List ℕ) : Type 0 where
  pub form : Form (attr_fields attr) octets
  pub named : IsNamed attr
  pub within : length octets ≤ MOST_OCTETS
