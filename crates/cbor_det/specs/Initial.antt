-- What an initial byte says: RFC 8949, section 3, and appendix B.
use Rattle.std.specs.Prelude.{ℕ, ◌/◌, ◌%◌, ◌==◌, ◌&&◌, false, true, nat_lt, nat_le, if◌then◌else◌}
use Rattle.cbor_det.specs.declared.string_kind.StringKind.TheVariants.{ByteString, TextString}
use Rattle.cbor_det.specs.declared.initial.Major.{Major}
use Rattle.cbor_det.specs.declared.initial.Major.TheVariants.{Unsigned, Negative, String, Array, Map, Tag}
use Rattle.cbor_det.specs.declared.initial.Beginning.{Beginning}
use Rattle.cbor_det.specs.declared.initial.Beginning.TheVariants.{Argued, Argument, Chunks, Elements, Members, Bool}
use Rattle.cbor_det.specs.declared.initial.Initial.{Initial}
use Rattle.cbor_det.specs.declared.initial.Initial.TheVariants.{Item, Break, Float, Simple, Malformed}
use Rattle.cbor_det.specs.Spelling.{major_of}

abbrev pub number_of_major : Major → ℕ
number_of_major Unsigned = 0
number_of_major Negative = 1
number_of_major (String kind) = major_of kind
number_of_major Array = 4
number_of_major Map = 5
number_of_major Tag = 6

-- the head of a type, from its additional information
abbrev pub head_of : Major → ℕ → Initial
head_of major information =
    if nat_lt information 24 then Item (Argued major information)
    else if information == 24 then Item (Argument major 1)
    else if information == 25 then Item (Argument major 2)
    else if information == 26 then Item (Argument major 4)
    else if information == 27 then Item (Argument major 8)
    else Malformed

-- the head of a type that may have an indefinite length
abbrev pub head_or_indefinite : Major → ℕ → Beginning → Initial
head_or_indefinite major information indefinite = if information == 31 then Item indefinite else head_of major information

-- major type 7
abbrev pub simple_or_float : ℕ → Initial
simple_or_float information =
    if information == 20 then Item (Bool false)
    else if information == 21 then Item (Bool true)
    else if nat_le 25 information && nat_le information 27 then Float
    else if nat_le 28 information && nat_le information 30 then Malformed
    else if information == 31 then Break
    else Simple

abbrev pub of_type : ℕ → ℕ → Initial
of_type type information =
    if type == 0 then head_of Unsigned information
    else if type == 1 then head_of Negative information
    else if type == 2 then head_or_indefinite (String ByteString) information (Chunks ByteString)
    else if type == 3 then head_or_indefinite (String TextString) information (Chunks TextString)
    else if type == 4 then head_or_indefinite Array information Elements
    else if type == 5 then head_or_indefinite Map information Members
    else if type == 6 then head_of Tag information
    else if type == 7 then simple_or_float information
    else Malformed

unfoldable pub initial_of : ℕ → Initial
initial_of byte = of_type (byte / 32) (byte % 32)
