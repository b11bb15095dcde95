-- What is written of a layout: of the octets that have its form those in which all that may be any
-- is 0.
use Rattle.std.specs.Prelude.{◌≡◌, ◌+◌, ◌<◌, ◌^◌, ℕ, Bool, List, [], ◌∷◌, ◌++◌, length, replicate, if◌then◌else◌}
use Rattle.std.specs.List.{flat_map}
use Rattle.wire_base.specs.Numbers.{octets_of}
use Rattle.wire_base.specs.Layout.{Field, Number, Reserved, Flags, Fixed, Counted, AreFlags}

-- The octet of flags in which these bits are set and no others.
abbrev pub flags_octet : List (ℕ × Bool) → ℕ
flags_octet [] = 0
flags_octet (flag ∷ flags) = (if flag.1 then flag.0 else 0) + flags_octet flags

-- What is written of a field.
abbrev pub written_field : Field → List ℕ
written_field (Number size value) = octets_of size value
written_field (Reserved size) = replicate size 0
written_field (Flags flags) = flags_octet flags ∷ []
written_field (Fixed size fixed) = fixed
written_field (Counted size counted) = octets_of size (length counted) ++ counted

-- What is written of fields one after another.
unfoldable pub written : List Field → List ℕ
written fields = flat_map written_field fields

-- What the field says has room in it.
abbrev pub FieldFits : Field → Type 0
FieldFits (Number size value) = value < 256 ^ size
FieldFits (Reserved size) = Unit {0}
FieldFits (Flags flags) = AreFlags (flags_octet flags) flags
FieldFits (Fixed size fixed) = length fixed ≡ size
FieldFits (Counted size counted) = length counted < 256 ^ size

-- So it is of each of the fields.
abbrev pub Fit : List Field → Type 0
Fit [] = Unit {0}
Fit (field ∷ fields) = FieldFits field × Fit fields
