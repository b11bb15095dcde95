-- A batch that a collector is writing stays within what a batch may have.
use Rattle.std.proofs.Common.{All, ◌≡◌, ℕ, ◌+◌, ◌≤◌, ◌<◌, List, [], ◌∷◌, ◌++◌, Option, length, ap, subst, subst₂, sym, arith, length-append}
use Rattle.std.specs.List.{AllByRecursion}
use Rattle.std.proofs.lemmas.List.Sums.{sum_by_push}
use Rattle.std.proofs.lemmas.List.Elements.{All-append, All-cons, All-nil}
use Rattle.swima_subs.specs.declared.waiting.Waiting.{Waiting}
use Rattle.pa_attrs.specs.declared.attr.Attr.{Attr}
use Rattle.pa_attrs.specs.declared.error.PaError.{PaError}
use Rattle.pa_attrs.specs.AttrForm.{IsNamed}
use Rattle.pa_attrs.specs.ErrorForm.{swima_error, written_error}
use Rattle.pa_attrs.specs.MessageForm.{CanBeWritten}
use Rattle.pa_attrs.specs.Numbers.{HEADER}
use Rattle.pa_attrs.proofs.ErrorLengths.{swima_error_is_short}
use Rattle.pa_attrs.proofs.Writing.{written_is_counted}
use Rattle.pb_batch.specs.declared.batch.Message.{Message}
use Rattle.pb_batch.specs.declared.kind.BatchKind.{BatchKind}
use Rattle.pb_batch.specs.Form.{IsMessage, message_octets}
use Rattle.pb_batch.specs.Written.{IsBatch}
use Rattle.session_rules.specs.Messages.{attribute, client_batch, error_attribute, pa_message}
use Rattle.collector_session.specs.declared.draft.Draft.{Draft}
use Rattle.collector_session.specs.Sizes.{Closed, Fits, Grown, IsFit, Size}

-- ---- what is put

-- An attribute was put that takes its octets from the room, except 36.
pub size_put : (most room left : ℕ) (messages : List Message) (attrs : List Attr) (attr : Attr) → HEADER + length attr.value + left ≤ 36 + room
    → Size most room messages attrs → Size most left messages (attrs ++ attr ∷ [])
size_put most room left messages attrs attr short size =
    omega (arith, short, size, sum_by_push (λ (a : Attr). HEADER + length a.value) attrs attr, length-append attrs (attr ∷ []))

-- The attributes were put into a message.
pub size_closed : (most room number : ℕ) (messages : List Message) (attrs : List Attr) → length attrs ≤ 64 → Size most room messages attrs → Size most room (messages ++ pa_message number attrs ∷ []) []
size_closed most room number messages attrs few size =
    omega (arith, few, size, sum_by_push message_octets messages (pa_message number attrs), written_is_counted (record { id = number; attrs = attrs }), length-append messages (pa_message number attrs ∷ []))

-- ---- what is written

-- The attributes can be written as a message.
pub message_fits : (most number : ℕ) (d : Draft) → most ≤ 16000000 → IsFit most d → CanBeWritten (record { id = number; attrs = d.attrs })
message_fits most number d below fit = record { named = fit.named; count = fit.few; within = omega (arith, below, fit.few, fit.count, fit.size) }

-- The messages can be written as a batch.
pub batch_fits : (most : ℕ) (kind : BatchKind) (d : Draft) → most ≤ 16000000 → IsFit most d → IsBatch (client_batch kind d.messages)
batch_fits most kind d below fit = record { valid = fit.valid; few = fit.count; short = omega (arith, below, fit.few, fit.count, fit.size) }

message_valid : (number : ℕ) (attrs : List Attr) → IsMessage (pa_message number attrs)
message_valid number attrs = (omega arith, omega arith, omega arith, omega arith)

-- The draft after its attributes were put into a message.
closed_fits : (most number : ℕ) (d next : Draft) → length d.messages < 64 → IsFit most d → next.attrs ≡ [] → next.messages ≡ d.messages ++ pa_message number d.attrs ∷ [] → next.room ≡ d.room → IsFit most next
closed_fits most number d next less fit attrs messages same = record {
  few = omega (arith, ap (λ (xs : List Attr). length xs) attrs);
  named = subst (λ (xs : List Attr). AllByRecursion IsNamed xs) (sym attrs) tt;
  count = omega (arith, less, ap (λ (ms : List Message). length ms) messages, length-append d.messages (pa_message number d.attrs ∷ []));
  valid =
      subst (λ (ms : List Message). All IsMessage ms) (sym messages)
      (All-append IsMessage d.messages (pa_message number d.attrs ∷ []) fit.valid (All-cons IsMessage (pa_message number d.attrs) [] (message_valid number d.attrs) (All-nil IsMessage)));
  room = omega (arith, same, fit.room);
  size =
      subst (λ (room : ℕ). Size most room next.messages next.attrs) (sym same)
      (subst₂ (λ (ms : List Message) (xs : List Attr). Size most d.room ms xs) (sym messages) (sym attrs) (size_closed most d.room number d.messages d.attrs fit.few fit.size));
}

-- There is no more room than the limit.
pub room_fits : (d : Draft) → Fits d → d.room ≤ 16000000
room_fits d fits = omega (arith, fits.1, fits.2.room)

-- ---- what a draft grows by

all_push : (attrs : List Attr) (attr : Attr) → AllByRecursion IsNamed attrs → IsNamed attr → AllByRecursion IsNamed (attrs ++ attr ∷ [])
all_push [] attr all named = (named, tt)
all_push (first ∷ attrs) attr all named = (all.0, all_push attrs attr all.1 named)

-- An attribute was put that has at most 36 octets beside those that it takes from the room.
put_fits : (most : ℕ) (d next : Draft) (attr : Attr) → IsNamed attr → HEADER + length attr.value + next.room ≤ 36 + d.room → next.room ≤ d.room → next.attrs ≡ d.attrs ++ attr ∷ [] → next.messages ≡ d.messages
    → length d.attrs < 64 → IsFit most d → IsFit most next
put_fits most d next attr named short room attrs messages less fit = record {
  few = omega (arith, less, ap (λ (xs : List Attr). length xs) attrs, length-append d.attrs (attr ∷ []));
  named = subst (λ (xs : List Attr). AllByRecursion IsNamed xs) (sym attrs) (all_push d.attrs attr fit.named named);
  count = subst (λ (ms : List Message). length ms ≤ 64) (sym messages) fit.count;
  valid = subst (λ (ms : List Message). All IsMessage ms) (sym messages) fit.valid;
  room = omega (arith, room, fit.room);
  size = subst₂ (λ (ms : List Message) (xs : List Attr). Size most next.room ms xs) (sym messages) (sym attrs) (size_put most d.room next.room d.messages d.attrs attr short fit.size);
}

grown_put : (d next : Draft) (attr : Attr) → IsNamed attr → HEADER + length attr.value + next.room ≤ 36 + d.room → next.room ≤ d.room → next.attrs ≡ d.attrs ++ attr ∷ [] → next.messages ≡ d.messages → Grown d next
grown_put d next attr named short room attrs messages = record {
  fits = λ less fit. (fit.0, fit.1, put_fits fit.0 d next attr named short room attrs messages less fit.2);
  few = omega (arith, ap (λ (xs : List Attr). length xs) attrs, length-append d.attrs (attr ∷ []));
  messages = messages;
  room = room;
}

-- An Error was put.
pub error_grown : (d next : Draft) (error : PaError) → length (written_error error) ≤ 24 → next.attrs ≡ d.attrs ++ error_attribute error ∷ [] → next.messages ≡ d.messages → next.room ≡ d.room → Grown d next
error_grown d next error short attrs messages room =
    grown_put d next (error_attribute error) (record { vendor = omega arith; kind = omega arith }) (omega (arith, short, room)) (omega (arith, room)) attrs messages

-- So of one about a request.
pub swima_grown : (d next : Draft) (code id : ℕ) (most : Option ℕ) → next.attrs ≡ d.attrs ++ error_attribute (swima_error code id most) ∷ [] → next.messages ≡ d.messages → next.room ≡ d.room → Grown d next
swima_grown d next code id most attrs messages room = error_grown d next (swima_error code id most) (omega (arith, swima_error_is_short code id most)) attrs messages room

-- An attribute was put that takes its octets from the room.
pub sized_grown : (d next : Draft) (kind : ℕ) (value : List ℕ) → kind < 4294967295 → next.attrs ≡ d.attrs ++ attribute kind value ∷ [] → next.messages ≡ d.messages → next.room + length value ≡ d.room → Grown d next
sized_grown d next kind value below attrs messages room =
    grown_put d next (attribute kind value) (record { vendor = omega arith; kind = below }) (omega (arith, room)) (omega (arith, room)) attrs messages

-- None was put.
pub none_grown : (d next : Draft) → next.attrs ≡ d.attrs → next.messages ≡ d.messages → next.room ≡ d.room → Grown d next
none_grown d next attrs messages room = record {
  fits = λ less fit. (
    fit.0,
    fit.1,
    record {
      few = subst (λ (xs : List Attr). length xs ≤ 64) (sym attrs) fit.2.few;
      named = subst (λ (xs : List Attr). AllByRecursion IsNamed xs) (sym attrs) fit.2.named;
      count = subst (λ (ms : List Message). length ms ≤ 64) (sym messages) fit.2.count;
      valid = subst (λ (ms : List Message). All IsMessage ms) (sym messages) fit.2.valid;
      room = omega (arith, room, fit.2.room);
      size = subst₂ (λ (ms : List Message) (xs : List Attr). Size fit.0 next.room ms xs) (sym messages) (sym attrs) (subst (λ (room : ℕ). Size fit.0 room d.messages d.attrs) (sym room) fit.2.size);
    },
  );
  few = omega (arith, ap (λ (xs : List Attr). length xs) attrs);
  messages = messages;
  room = omega (arith, room);
}

-- The subscriptions of a draft do not matter to its size.
fits_still : (d : Draft) (subs : List Waiting) (earlier : ℕ) → Fits d → Fits (record d { subs = subs; earlier = earlier })
fits_still d subs earlier fits = (fits.0, fits.1, record { few = fits.2.few; named = fits.2.named; count = fits.2.count; valid = fits.2.valid; room = fits.2.room; size = fits.2.size })

pub grown_after : (old mid next : Draft) (subs : List Waiting) (earlier : ℕ) → mid ≡ record old { subs = subs; earlier = earlier } → Grown mid next → Grown old next
grown_after old mid next subs earlier is grown =
    let so : Grown (record old { subs = subs; earlier = earlier }) next = subst (λ (m : Draft). Grown m next) is grown in
    record {
      fits = λ less fits. so.fits less (fits_still old subs earlier fits);
      few = so.few;
      messages = so.messages;
      room = so.room;
    }

-- ---- a message that is closed

-- There was nothing to put.
pub none_closed : (d : Draft) → Fits d → d.attrs ≡ [] → Closed d d
none_closed d fits none = record { fits = fits; none = none; count = omega arith; room = omega arith }

-- The attributes were put into a message.
pub some_closed : (number : ℕ) (d next : Draft) → length d.messages < 64 → Fits d → next.attrs ≡ [] → next.messages ≡ d.messages ++ pa_message number d.attrs ∷ [] → next.room ≡ d.room → Closed d next
some_closed number d next less fits attrs messages room = record {
  fits = (fits.0, fits.1, closed_fits fits.0 number d next less fits.2 attrs messages room);
  none = attrs;
  count = omega (arith, ap (λ (ms : List Message). length ms) messages, length-append d.messages (pa_message number d.attrs ∷ []));
  room = omega (arith, room);
}

-- After words that put attributes alone.
pub closed_after : (old mid new : Draft) → mid.messages ≡ old.messages → mid.room ≤ old.room → Closed mid new → Closed old new
closed_after old mid new messages room closed = record {
  fits = closed.fits;
  none = closed.none;
  count = omega (arith, closed.count, ap (λ (ms : List Message). length ms) messages);
  room = omega (arith, closed.room, room);
}

-- A batch before its first message.
pub first_fits : (d : Draft) → d.room ≤ 16000000 → d.attrs ≡ [] → d.messages ≡ [] → Fits d
first_fits d room attrs messages = (
  d.room,
  room,
  record {
    few = omega (arith, ap (λ (xs : List Attr). length xs) attrs);
    named = subst (λ (xs : List Attr). AllByRecursion IsNamed xs) (sym attrs) tt;
    count = omega (arith, ap (λ (ms : List Message). length ms) messages);
    valid = subst (λ (ms : List Message). All IsMessage ms) (sym messages) (All-nil IsMessage);
    room = omega arith;
    size = subst₂ (λ (ms : List Message) (xs : List Attr). Size d.room d.room ms xs) (sym messages) (sym attrs) (omega arith);
  },
)
