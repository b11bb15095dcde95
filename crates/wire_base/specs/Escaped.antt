-- Octets as printable text.
use Rattle.std.specs.Prelude.{◌+◌, ◌/◌, ◌%◌, ◌==◌, ◌&&◌, ℕ, Bool, not, List, [], ◌∷◌, codes, nat_lt, nat_le, if◌then◌else◌}
use Rattle.std.specs.List.{flat_map}

-- A digit of a number to the base 16.
abbrev pub hex_digit : ℕ → ℕ
hex_digit number = if nat_lt number 10 then 48 + number else 87 + number

-- The octet is printed as itself: from 21 to 7e, but the backslash.
abbrev pub is_plain : ℕ → Bool
is_plain octet = nat_le 33 octet && nat_le octet 126 && not (octet == 92)

-- A backslash, an `x` and the octet as two hexadecimal digits.
abbrev pub hex_octet : ℕ → List ℕ
hex_octet octet = 92 ∷ 120 ∷ hex_digit (octet / 16) ∷ hex_digit (octet % 16) ∷ []

-- An octet of an octet text: itself, or its hexadecimal digits.
abbrev pub escaped_octet : ℕ → List ℕ
escaped_octet octet = if is_plain octet then octet ∷ [] else hex_octet octet

-- An octet text. No octets are a backslash and an `e`.
abbrev pub escaped : List ℕ → List ℕ
escaped [] = codes "\\e"
escaped (octet ∷ octets) = flat_map escaped_octet (octet ∷ octets)
