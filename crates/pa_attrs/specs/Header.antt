-- The header of an attribute (RFC 5792, section 4.1) in the octets that it begins: flags (1),
-- vendor (3), type (4), and the length of the whole attribute (4). Fewer than 12 octets have no
-- header, and it is nothing that is said of them.
use Rattle.std.specs.Prelude.{◌-◌, ℕ, List, take, drop, slice_index, slice_range}
use Rattle.wire_base.specs.Numbers.{number_of}
use Rattle.wire_base.specs.Layout.{is_set}
use Rattle.wire_base.specs.Reading.{Reader, ◌>>=◌, done, octets, number, placed}
use Rattle.pa_attrs.specs.declared.attr.Attr.{Attr}
use Rattle.pa_attrs.specs.declared.header.Header.{Header}
use Rattle.pa_attrs.specs.declared.header.HeaderFields.{HeaderFields}
use Rattle.pa_attrs.specs.Numbers.{NOSKIP, HEADER}

-- The header.
abbrev pub header_of : List ℕ → Header
header_of octets = record {
  noskip = is_set (slice_index octets 0) NOSKIP;
  vendor = number_of (slice_range octets 1 4);
  kind = number_of (slice_range octets 4 8);
  length = number_of (slice_range octets 8 12);
}

-- The attribute with the header that stands first in the octets.
abbrev pub attr_of : Header → List ℕ → Attr
attr_of h octets = record { noskip = h.noskip; vendor = h.vendor; kind = h.kind; value = take (h.length - HEADER) (drop HEADER octets) }

-- ---- fields as they are read

-- The version of a message and its identifier (section 3.6).
unfoldable pub read_start : Reader (ℕ × ℕ)
read_start = do
  version ← number 1
  reserved ← octets 3
  id ← number 4
  done (version, id)

-- The fields of the header of an attribute, each with its place.
unfoldable pub read_header_fields : Reader HeaderFields
read_header_fields = do
  flags ← number 1
  vendor ← placed (number 3)
  kind ← placed (number 4)
  count ← placed (number 4)
  done (record { noskip = is_set flags NOSKIP; vendor = vendor; kind = kind; length = count })

-- What they say.
abbrev pub header_said : HeaderFields → Header
header_said fields = record { noskip = fields.noskip; vendor = fields.vendor.value; kind = fields.kind.value; length = fields.length.value }

-- The fields that say a header.
abbrev pub placed_header : Header → HeaderFields
placed_header h = record {
  noskip = h.noskip;
  vendor = record { at = 1; value = h.vendor };
  kind = record { at = 4; value = h.kind };
  length = record { at = 8; value = h.length };
}
