-- How the readers of texts go on, one character after another, as their private functions do it.
-- What the readers give is said in Texts alone.
use Rattle.std.specs.Prelude.{◌≡◌, ◌+◌, ◌-◌, ◌*◌, ◌^◌, ◌<◌, ◌==◌, ◌&&◌, ℕ, Bool, not, true, false, List, [], ◌∷◌, ◌++◌, codes, length, Option, Some, None, nat_lt, nat_le, if◌then◌else◌}
use Rattle.wire_base.specs.Escaped.{hex_digit, is_plain}
use Rattle.wire_base.specs.declared.values.unescape.Next.{Next}
use Rattle.wire_base.specs.declared.values.unescape.Next.TheVariants as next
use Rattle.wire_base.specs.declared.values.unescape.Part.{Part}
use Rattle.wire_base.specs.declared.values.unescape.Part.TheVariants as part

-- ---- decimal numbers

-- The value of a decimal digit.
abbrev pub digit_value : ℕ → Option ℕ
digit_value character = if nat_le 48 character && nat_le character 57 then Some (character - 48) else None

-- The number that a digit of this value spells after others: of these it is known that they spell a
-- number. No digit follows a leading zero, and no number has more than 32 bits.
abbrev pub after_digits : Option ℕ → ℕ → Option ℕ
after_digits None digit = Some digit
after_digits (Some number) digit = if number == 0 then None else (if nat_lt (10 * number + digit) (2 ^ 32) then Some (10 * number + digit) else None)

-- The same, where the character is such a digit.
abbrev pub with_value : Option ℕ → Option ℕ → Option ℕ
with_value number None = None
with_value number (Some digit) = after_digits number digit

-- The number that one more character spells after others.
abbrev pub with_digit : Option ℕ → ℕ → Option ℕ
with_digit number character = with_value number (digit_value character)

-- ---- octets

-- The value of a lower-case hexadecimal digit.
abbrev pub hex_value : ℕ → Option ℕ
hex_value character = if nat_le 48 character && nat_le character 57 then Some (character - 48) else (if nat_le 97 character && nat_le character 102 then Some (character - 87) else None)

-- Some octet whose first hexadecimal digit is this one is not printed as itself.
abbrev pub has_escapes : ℕ → Bool
has_escapes high = not (high == 3) && not (high == 4) && not (high == 6)

-- The characters of a part.
abbrev pub part_text : Part → List ℕ
part_text part.Nothing = []
part_text part.Backslash = codes "\\"
part_text part.Hexadecimal = codes "\\x"
part_text (part.Digit high) = 92 ∷ 120 ∷ hex_digit high ∷ []
part_text part.NoOctets = codes "\\e"

-- The digit of a part is one.
abbrev pub HasDigit : Part → Type 0
HasDigit (part.Digit high) = high < 16
HasDigit other = Unit {0}

-- An escape that begins with this digit.
abbrev pub after_high : Option ℕ → Next
after_high None = next.Fault
after_high (Some high) = if has_escapes high then next.Part (part.Digit high) else next.Fault

-- An escape with these two digits.
abbrev pub after_low : ℕ → Option ℕ → Next
after_low high None = next.Fault
after_low high (Some low) = if is_plain (16 * high + low) then next.Fault else next.Octet (16 * high + low)

-- What a part and one more character are, where no octet is before them, or some are.
abbrev pub part_after : Part → Bool → ℕ → Next
part_after part.Nothing first character = if is_plain character then next.Octet character else (if character == 92 then next.Part part.Backslash else next.Fault)
part_after part.Backslash first character = if character == 120 then next.Part part.Hexadecimal else (if character == 101 && first then next.Part part.NoOctets else next.Fault)
part_after part.Hexadecimal first character = after_high (hex_value character)
part_after (part.Digit high) first character = after_low high (hex_value character)
part_after part.NoOctets first character = next.Fault

-- A text may end after the part, where no octet is before it, or some are.
abbrev pub is_end : Part → Bool → Bool
is_end part.Nothing first = not first
is_end part.NoOctets first = true
is_end other first = false

-- The octets and the part that there are then.
abbrev pub octets_after : List ℕ → Next → Option (List ℕ × Part)
octets_after octets (next.Part longer) = Some (octets, longer)
octets_after octets (next.Octet octet) = Some (octets ++ octet ∷ [], part.Nothing)
octets_after octets next.Fault = None

-- The octets and the part after one more character.
abbrev pub character_after : List ℕ × Part → ℕ → Option (List ℕ × Part)
character_after before character = octets_after before.0 (part_after before.1 (length before.0 == 0) character)

-- These are the octets and the part after one more character, or there are none.
abbrev pub Goes : List ℕ → Part → ℕ → List ℕ → Option Part → Type 0
Goes octets part character longer (Some follows) = character_after (octets, part) character ≡ Some (longer, follows)
Goes octets part character longer None = character_after (octets, part) character ≡ None
