-- A PA-TNC Error (RFC 5792, section 4.2.8), the value of an attribute of vendor 0 and type 8: a
-- code by the numbers of a vendor, and information by that code.
use Rattle.std.specs.Prelude.{◌==◌, ℕ, List, [], ◌∷◌, Option, Some, None, length, if◌then◌else◌}
use Rattle.wire_base.specs.Layout.{Field, Number, Reserved, Fixed, Form}
use Rattle.wire_base.specs.Written.{written}
use Rattle.wire_base.specs.Reading.{Reader, ◌>>=◌, octets, number, at_end, remaining}
use Rattle.pa_attrs.specs.declared.error.PaError.{PaError}
use Rattle.pa_attrs.specs.declared.fault.PaFault.{PaFault}
use Rattle.pa_attrs.specs.Numbers.{IETF, VERSION, INVALID_PARAMETER, VERSION_NOT_SUPPORTED, UNSUPPORTED_ATTRIBUTE}

-- ---- the value

-- An Error.
abbrev pub error_fields : PaError → List Field
error_fields error =
    Reserved 1  -- Reserved
    ∷ Number 3 error.vendor  -- PA-TNC Error Code Vendor ID
    ∷ Number 4 error.code  -- PA-TNC Error Code
    ∷ Fixed (length error.info) error.info  -- Error Information
    ∷ []

-- The octets are the Error.
abbrev pub ErrorForm : PaError → List ℕ → Type 0
ErrorForm error octets = Form (error_fields error) octets

-- What is written of an Error.
abbrev pub written_error : PaError → List ℕ
written_error error = written (error_fields error)

-- The same layout read field by field: the Error, or the place of the first field that does not
-- fit.
unfoldable pub read_error : Reader PaError
read_error = do
  reserved ← octets 1
  vendor ← number 3
  code ← number 4
  info ← remaining
  at_end (record { vendor = vendor; code = code; info = info })

-- ---- the information

-- Of an invalid parameter (section 4.2.8.1): the header of the message, and the place of the
-- invalid value in it.
abbrev pub invalid_fields : List ℕ → ℕ → List Field
invalid_fields header offset = Fixed 8 header ∷ Number 4 offset ∷ []

-- Of a version that is not supported (section 4.2.8.2): the header of the message, and the versions
-- that are.
abbrev pub version_fields : List ℕ → List Field
version_fields header =
    Fixed 8 header
    ∷ Number 1 VERSION  -- Max Version
    ∷ Number 1 VERSION  -- Min Version
    ∷ Reserved 2  -- Reserved
    ∷ []

-- Of an attribute that is not supported (section 4.2.8.3): the header of the message, and the first
-- 8 octets of the attribute.
abbrev pub unsupported_fields : List ℕ → List ℕ → List Field
unsupported_fields header first = Fixed 8 header ∷ Fixed 8 first ∷ []

-- Of an error about a request (RFC 8412, section 5.15): its ID, and the most octets of an answer
-- where the code has them. The description after these is empty.
abbrev pub most_fields : Option ℕ → List Field
most_fields None = []
most_fields (Some most) = Number 4 most ∷ []

abbrev pub request_fields : ℕ → Option ℕ → List Field
request_fields id most = Number 4 id ∷ most_fields most

-- ---- the Errors that are made

-- An Error of the IETF's numbers.
abbrev pub ietf_error : ℕ → List Field → PaError
ietf_error code fields = record { vendor = IETF; code = code; info = written fields }

abbrev pub invalid_error : List ℕ → ℕ → PaError
invalid_error header offset = ietf_error INVALID_PARAMETER (invalid_fields header offset)

abbrev pub version_error : List ℕ → PaError
version_error header = ietf_error VERSION_NOT_SUPPORTED (version_fields header)

abbrev pub unsupported_error : List ℕ → List ℕ → PaError
unsupported_error header first = ietf_error UNSUPPORTED_ATTRIBUTE (unsupported_fields header first)

abbrev pub swima_error : ℕ → ℕ → Option ℕ → PaError
swima_error code id most = ietf_error code (request_fields id most)

-- The Error that reports a fault of a message or of a value, by the code of the fault. Every code
-- except these two is reported as an invalid parameter.
abbrev pub error_of : PaFault → PaError
error_of fault =
    if fault.code == VERSION_NOT_SUPPORTED then version_error fault.header
    else (if fault.code == UNSUPPORTED_ATTRIBUTE then unsupported_error fault.header fault.first else invalid_error fault.header fault.offset)
