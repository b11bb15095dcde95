-- What is written of a batch has its form.
use Rattle.std.proofs.Common.{◌≡◌, ℕ, ◌^◌, ◌≤◌, ◌<◌, ◌%◌, Bool, true, false, List, [], ◌∷◌, refl, arith}
use Rattle.std.specs.Prelude.{All, sum_by}
use Rattle.std.specs.List.{flat_map}
use Rattle.std.proofs.lemmas.List.Elements.{All-head, All-tail}
use Rattle.std.proofs.lemmas.List.Sums.{sum_by-cons}
use Rattle.wire_base.specs.Layout.{Field, Number, AreFlags}
use Rattle.wire_base.specs.Written.{flags_octet, Fit, written as written_fields}
use Rattle.wire_base.proofs.WrittenLaws.{written_form as fields_form}
use Rattle.pb_batch.specs.declared.batch.Batch.{Batch}
use Rattle.pb_batch.specs.declared.batch.Message.{Message}
use Rattle.pb_batch.specs.declared.batch.Message.TheVariants.{Pa, Assessment, Recommendation, Error, Frame}
use Rattle.pb_batch.specs.declared.kind.BatchKind.{BatchKind}
use Rattle.pb_batch.specs.declared.kind.BatchKind.TheVariants.{Cdata, Sdata, Outcome, Cretry, Sretry, Close}
use Rattle.pb_batch.specs.Types.{number_of_kind}
use Rattle.pb_batch.specs.Form.{FLAG, BATCH_OCTETS, IsMessage, MessageForm, MessagesForm, BatchForm, message_fields, value_fields, read_flags, vendor_of, number_of_type, message_octets, header_fields}
use Rattle.pb_batch.specs.Written.{written_noskip, written_message, written_header, written, IsBatch}

-- One flag.
flag_is : (set : Bool) → AreFlags (flags_octet ((FLAG, set) ∷ [])) ((FLAG, set) ∷ [])
flag_is true = (refl, tt)
flag_is false = (refl, tt)

-- ---- messages

-- The value of a message.
value_fits : (m : Message) → IsMessage m → Fit (value_fields m)
value_fits (Pa excl vendor subtype collector validator body) valid =
    (flag_is excl, (omega (arith, valid.0), (omega (arith, valid.1), (omega (arith, valid.2), (omega (arith, valid.3), tt)))))
value_fits (Assessment result) valid = (omega (arith, valid), tt)
value_fits (Recommendation code) valid = (tt, (omega (arith, valid.1), tt))
value_fits (Error fatal vendor code info) valid = (flag_is fatal, (omega (arith, valid.0), (omega (arith, valid.1), (tt, tt))))
value_fits (Frame noskip vendor kind body) valid = tt

-- Its vendor and type.
vendor_fits : (m : Message) → IsMessage m → (vendor_of m < 256 ^ 3) × (number_of_type m < 256 ^ 4)
vendor_fits (Pa excl vendor subtype collector validator body) valid = (omega arith, omega arith)
vendor_fits (Assessment result) valid = (omega arith, omega arith)
vendor_fits (Recommendation code) valid = (omega arith, omega arith)
vendor_fits (Error fatal vendor code info) valid = (omega arith, omega arith)
vendor_fits (Frame noskip vendor kind body) valid = (omega (arith, valid.0), omega (arith, valid.1))

-- Its flags, as they are read.
flags_read : (m : Message) → AreFlags (flags_octet ((FLAG, written_noskip m) ∷ [])) (read_flags m)
flags_read (Pa excl vendor subtype collector validator body) = tt
flags_read (Assessment result) = tt
flags_read (Recommendation code) = tt
flags_read (Error fatal vendor code info) = tt
flags_read (Frame noskip vendor kind body) = flag_is noskip

message_form : (m : Message) → IsMessage m → message_octets m ≤ BATCH_OCTETS → MessageForm m (written_message m)
unfolding written_message written_fields
message_form m valid short =
    let flags : List (ℕ × Bool) = (FLAG, written_noskip m) ∷ [] in
    let fits = vendor_fits m valid in
    let rest : List Field = Number 3 (vendor_of m) ∷ Number 4 (number_of_type m) ∷ Number 4 (message_octets m) ∷ value_fields m in
    let rest_fits : Fit rest = (fits.0, (fits.1, (omega (arith, short), value_fits m valid))) in
    record {
      valid = valid;
      head = written_fields (message_fields flags m);
      joined = refl;
      fields = (flags_octet flags ∷ [], written_fields rest, refl, (flags_octet flags, refl, flags_read m), fields_form rest rest_fits);
    }

messages_form : (ms : List Message) → All IsMessage ms → sum_by message_octets ms ≤ BATCH_OCTETS → MessagesForm ms (flat_map written_message ms)
messages_form [] valid short = refl
messages_form (m ∷ ms) valid short =
    let split = sum_by-cons message_octets m ms in (
      written_message m,
      flat_map written_message ms,
      refl,
      message_form m (All-head IsMessage m ms valid) (omega (arith, short, split)),
      messages_form ms (All-tail IsMessage m ms valid) (omega (arith, short, split)),
    )

-- ---- batches

-- The number of a kind is small.
kind_small : (k : BatchKind) → (number_of_kind k < 256) × (number_of_kind k % 16 ≡ number_of_kind k)
kind_small Cdata = (omega arith, refl)
kind_small Sdata = (omega arith, refl)
kind_small Outcome = (omega arith, refl)
kind_small Cretry = (omega arith, refl)
kind_small Sretry = (omega arith, refl)
kind_small Close = (omega arith, refl)

pub written_form : (b : Batch) → IsBatch b → BatchForm b (written b)
unfolding written written_fields
written_form b is =
    let kind = kind_small b.kind in
    let fits : Fit (header_fields (number_of_kind b.kind) b) =
    (omega arith, (flag_is b.from_server, (tt, (omega (arith, kind.0), (omega (arith, is.short), tt))))) in
    record {
      few = is.few;
      short = is.short;
      type = number_of_kind b.kind;
      kind = kind.1;
      header = written_header b;
      rest = flat_map written_message b.messages;
      joined = refl;
      fields = fields_form (header_fields (number_of_kind b.kind) b) fits;
      messages = messages_form b.messages is.valid (omega (arith, is.short));
    }
