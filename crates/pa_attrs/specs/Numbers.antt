-- The numbers of RFC 5792, and the limits that this project sets.
use Rattle.std.specs.Prelude.{ℕ}
use Rattle.pa_attrs.specs.declared.error_code.PaErrorCode.{PaErrorCode}
use Rattle.pa_attrs.specs.declared.error_code.PaErrorCode.TheVariants as code

-- The version of PA-TNC messages (section 3.6).
abbrev pub VERSION : ℕ
VERSION = 1

-- How many octets the header of a message has (section 3.6).
abbrev pub MESSAGE_HEADER : ℕ
MESSAGE_HEADER = 8

-- How many octets the header of an attribute has (section 4.1).
abbrev pub HEADER : ℕ
HEADER = 12

-- The flag of an attribute that may not be passed over (section 4.1).
abbrev pub NOSKIP : ℕ
NOSKIP = 128

-- The vendor number of the IETF (section 4.1).
abbrev pub IETF : ℕ
IETF = 0

-- The vendor that none has, and the type that no attribute has (section 4.1).
abbrev pub NO_VENDOR : ℕ
NO_VENDOR = 16777215

abbrev pub NO_TYPE : ℕ
NO_TYPE = 4294967295

-- The type of a PA-TNC Error, an attribute of vendor 0 (section 4.2.8).
abbrev pub ERROR : ℕ
ERROR = 8

-- The error codes Invalid Parameter, Version Not Supported and Attribute Type Not Supported
-- (section 4.2.8).
abbrev pub INVALID_PARAMETER : ℕ
INVALID_PARAMETER = 1

abbrev pub VERSION_NOT_SUPPORTED : ℕ
VERSION_NOT_SUPPORTED = 2

abbrev pub UNSUPPORTED_ATTRIBUTE : ℕ
UNSUPPORTED_ATTRIBUTE = 3

-- The number of an error code (section 4.2.8, and RFC 8412, section 5.15).
abbrev pub number_of_code : PaErrorCode → ℕ
number_of_code code.InvalidParameter = 1
number_of_code code.VersionNotSupported = 2
number_of_code code.AttributeTypeNotSupported = 3
number_of_code code.SwimaError = 4
number_of_code code.SwimaSubscriptionDeniedError = 5
number_of_code code.SwimaResponseTooLargeError = 6
number_of_code code.SwimaSubscriptionFulfillmentError = 7
number_of_code code.SwimaSubscriptionIdReuseError = 8

-- The most octets of an attribute of a stream, and of a message.
abbrev pub MOST_OCTETS : ℕ
MOST_OCTETS = 16777216

-- The most attributes of a message.
abbrev pub MOST_ATTRIBUTES : ℕ
MOST_ATTRIBUTES = 64
