-- What the joined octets of a stream of attributes (RFC 5792, section 4.1) begin with, and what a
-- feed of them answers. The RFC has messages alone; a stream is our own.
use Rattle.std.specs.Prelude.{ℕ, List, Option, Some, None, Result, Ok, length, take, nat_lt, if◌then◌else◌}
use Rattle.wire_base.specs.Feeding.{Fed, Waits, Gives, Stops, Headed, after_header, front, Front as FrontOf, Feeding as FeedingOf, FeedsBy, Feeds as FeedsAny, TakesPiece as TakesAny}
use Rattle.wire_base.specs.declared.layout.field_refused.Refused.{Refused}
use Rattle.wire_base.specs.declared.layout.field_refused.Refused.TheVariants as refused
use Rattle.pa_attrs.specs.declared.attr.Attr.{Attr}
use Rattle.pa_attrs.specs.declared.fault.AttrFault.{AttrFault}
use Rattle.pa_attrs.specs.declared.feed.AttrFed.{AttrFed}
use Rattle.pa_attrs.specs.declared.feed.AttrFed.TheVariants as fed
use Rattle.pa_attrs.specs.declared.header.Header.{Header}
use Rattle.pa_attrs.specs.Numbers.{HEADER}
use Rattle.pa_attrs.specs.Header.{attr_of}
use Rattle.pa_attrs.specs.Faults.{stream_header}
pub use Rattle.wire_base.specs.Feeding.{More, Bad, Whole, fresh}

-- ---- what octets begin with

-- Attributes of a stream. A fault shows in the header alone.
abbrev pub stream : Headed Header Attr AttrFault
stream = record { size = HEADER; header = stream_header; len = λ h. h.length; value = λ h octets. Ok (attr_of h octets) }

-- A whole attribute with its octets, a fault, or what may become either.
abbrev pub Front : Type 0
Front = FrontOf Attr AttrFault

-- Octets with this header or this fault.
abbrev pub headed : List ℕ → Result Header AttrFault → Front
headed octets said = after_header stream octets said

-- What the octets begin with. A fault shows once the 12 octets of a header are there, an attribute
-- once it is whole.
unfoldable pub front_of : List ℕ → Front
front_of octets = front stream octets

-- ---- a feed

-- A feed: the octets of the attribute that is not whole yet, or the header of the one whose fault
-- was answered; and what it answers for ever, once it does.
abbrev pub Feeding : Type 0
Feeding = FeedingOf AttrFault

-- What is answered, by its variants.
abbrev pub fed_of : AttrFed → Fed Attr AttrFault
fed_of fed.More = Waits
fed_of (fed.Done attr used) = Gives attr used
fed_of (fed.Fault fault) = Stops (refused.Fault fault)
fed_of fed.Memory = Stops refused.Memory

-- What is answered for ever.
abbrev pub told : Refused AttrFault → AttrFed
told (refused.Fault fault) = fed.Fault fault
told refused.Memory = fed.Memory

-- A feed that holds octets answers a piece after them, by what the octets and the piece joined
-- begin with. After a fault it holds the header, which `header` reports.
abbrev pub TakesPiece : List ℕ → List ℕ → AttrFed → Feeding → Type 0
TakesPiece held piece answer after = TakesAny front_of HEADER held piece (fed_of answer) after

-- It does, or answers what it has answered before and stays as it is.
abbrev pub FeedsIn : Option (Refused AttrFault) → Feeding → List ℕ → AttrFed → Feeding → Type 0
FeedsIn stopped before piece answer after = FeedsBy front_of HEADER stopped before piece (fed_of answer) after

abbrev pub Feeds : Feeding → List ℕ → AttrFed → Feeding → Type 0
Feeds before piece answer after = FeedsAny front_of HEADER before piece (fed_of answer) after

-- The header of the attribute: the first 12 of its octets, where they are in.
abbrev pub header_held : List ℕ → Option (List ℕ)
header_held octets = if nat_lt (length octets) HEADER then None else Some (take HEADER octets)
