-- How large the batch is that a collector is writing.
use Rattle.std.specs.Prelude.{◌≡◌, ◌≤◌, ◌<◌, ◌+◌, ◌*◌, ℕ, List, [], All, length, sum_by}
use Rattle.std.specs.List.{AllByRecursion}
use Rattle.pa_attrs.specs.declared.attr.Attr.{Attr}
use Rattle.pa_attrs.specs.AttrForm.{IsNamed}
use Rattle.pa_attrs.specs.Numbers.{HEADER, MOST_ATTRIBUTES}
use Rattle.pb_batch.specs.declared.batch.Message.{Message}
use Rattle.pb_batch.specs.Form.{BATCH_MESSAGES, IsMessage, message_octets}
use Rattle.collector_session.specs.declared.draft.Draft.{Draft}

-- How many octets messages have, and attributes.
abbrev pub messages_octets : List Message → ℕ
messages_octets messages = sum_by message_octets messages

abbrev pub attrs_octets : List Attr → ℕ
attrs_octets attrs = sum_by (λ (attr : Attr). HEADER + length attr.value) attrs

-- What is written and what further reports may have are within the limit, except 36 octets for each
-- attribute and 2336 for each message. A report takes its octets from the room, every other
-- attribute has at most 36 octets, and a message has 32 and at most 64 attributes.
abbrev pub Size : ℕ → ℕ → List Message → List Attr → Type 0
Size most room messages attrs = messages_octets messages + attrs_octets attrs + room ≤ most + 2336 * length messages + 36 * length attrs

-- A batch of which these are parts can be written.
pub record IsFit (most : ℕ) (d : Draft) : Type 0 where
  pub few : length d.attrs ≤ MOST_ATTRIBUTES
  pub named : AllByRecursion IsNamed d.attrs
  pub count : length d.messages ≤ BATCH_MESSAGES
  pub valid : All IsMessage d.messages
  pub room : d.room ≤ most
  pub size : Size most d.room d.messages d.attrs

-- The most octets that the values of reports in one batch may have.
abbrev pub MOST_ROOM : ℕ
MOST_ROOM = 16000000

-- So for some limit that is allowed.
abbrev pub Fits : Draft → Type 0
Fits d = (most : ℕ) × (most ≤ MOST_ROOM) × IsFit most d

-- At most one attribute was put, and it has room.
pub record Grown (old new : Draft) : Type 0 where
  pub fits : length old.attrs < MOST_ATTRIBUTES → Fits old → Fits new
  pub few : length new.attrs ≤ length old.attrs + 1
  pub messages : new.messages ≡ old.messages
  pub room : new.room ≤ old.room

-- At most one message was put, and no attribute is left beside it.
pub record Closed (old new : Draft) : Type 0 where
  pub fits : Fits new
  pub none : new.attrs ≡ []
  pub count : length new.messages ≤ length old.messages + 1
  pub room : new.room ≤ old.room
