-- The numbers of the messages and attributes that carry requests and statuses (RFC 8412).
use Rattle.std.specs.Prelude.{ℕ}

-- The subtype of PA-TNC messages: SWIMA Attributes (section 5.1).
abbrev pub SWIMA_ATTRIBUTES : ℕ
SWIMA_ATTRIBUTES = 9

-- The attribute types SWIMA Request, Subscription Status Request and Subscription Status Response
-- (section 5.2).
abbrev pub SWIMA_REQUEST : ℕ
SWIMA_REQUEST = 13

abbrev pub SUBSCRIPTION_STATUS_REQUEST : ℕ
SUBSCRIPTION_STATUS_REQUEST = 18

abbrev pub SUBSCRIPTION_STATUS_RESPONSE : ℕ
SUBSCRIPTION_STATUS_RESPONSE = 19
