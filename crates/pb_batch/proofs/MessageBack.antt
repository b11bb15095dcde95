-- Octets that have the form of a message are read as that message, whatever follows.
use Rattle.std.proofs.Common.{◌≡◌, ℕ, ◌+◌, ◌≤◌, ◌<◌, Bool, true, false, ◌&&◌, not, ltb, IsTrue, List, [], ◌∷◌, ◌++◌, length, get_or, slice_range, Ok, Option, refl, sym, ap, subst, ◌∙◌, arith, length-append}
use Rattle.std.proofs.lemmas.Bool.{le-ltb, le-leb, eq-eqb, ne_eqb, or_from, and_right, not_from_true}
use Rattle.wire_base.specs.Layout.{Field, Number, Flags, AreFlags, Form, is_set}
use Rattle.wire_base.specs.FaultTable.{unless}
use Rattle.pb_batch.specs.declared.batch.Message.{Message}
use Rattle.pb_batch.specs.declared.batch.Message.TheVariants.{Pa, Assessment, Recommendation, Error, Frame}
use Rattle.pb_batch.specs.declared.kind.MessageType.{MessageType}
use Rattle.pb_batch.specs.declared.kind.MessageType.TheVariants as type
use Rattle.pb_batch.specs.declared.fault.PbFault.{PbFault}
use Rattle.pb_batch.specs.Types.{type_of, is_known}
use Rattle.pb_batch.specs.Form.{NO_VENDOR, NO_TYPE, FLAG, MessageForm, message_fields, read_flags, body_of, message_octets}
use Rattle.pb_batch.specs.Faults.{number, noskip_in, vendor_in, kind_in, length_in, type_in, may_have, value_rows}
use Rattle.pb_batch.specs.Front.{message_of_type, value_of}
use Rattle.wire_base.proofs.FaultTables.{NoneShow, show_none}
use Rattle.pb_batch.proofs.Fields.{Stands, number_back, flags_back, reserved_back, end_back}
use Rattle.pb_batch.proofs.Heads.{HeadIs, placed}

-- What is read where a message stands before octets.
pub record Found (m : Message) (rest : List ℕ) (count : ℕ) : Type 0 where
  pub head : HeadIs rest
  pub len : length_in rest ≡ count
  pub value : (place : ℕ) → value_of place rest (type_in rest) ≡ Ok m

-- The fields of the head, and those after them.
record HeadFields (flags : List (ℕ × Bool)) (vendor kind count : ℕ) (rest : List ℕ) (fields : List Field) (n : ℕ) : Type 0 where
  long : 12 ≤ n
  flagged : AreFlags (get_or rest 0 0) flags
  is_vendor : vendor_in rest ≡ vendor
  is_kind : kind_in rest ≡ kind
  is_count : length_in rest ≡ count
  behind : Stands rest fields 12 n

head_back : {flags : List (ℕ × Bool)} {vendor kind count n : ℕ} {rest : List ℕ} {fields : List Field} → n ≤ length rest → Stands rest (Flags flags ∷ Number 3 vendor ∷ Number 4 kind ∷ Number 4 count ∷ fields) 0 n
    → HeadFields flags vendor kind count rest fields n
head_back there stands =
    let a = flags_back there (omega arith) stands in
    let b = number_back there a.0 a.2 in
    let c = number_back there b.0 b.3 in
    let d = number_back there c.0 c.3 in
    record { long = d.0; flagged = a.1; is_vendor = b.1; is_kind = c.1; is_count = d.1; behind = d.3 }

-- The fields of a message that stands before octets.
fields_there : {m : Message} {front : List ℕ} (more : List ℕ) (form : MessageForm m front) → Stands (front ++ more) (message_fields (read_flags m) m) 0 (length form.head)
fields_there {m = m} {front = front} more form =
    let p = placed front more form.head (body_of m) form.joined in
    record { form = subst (λ (o : List ℕ). Form (message_fields (read_flags m) m) o) (sym p.head_there) form.fields }

-- A head of a type of the IETF that is read.
ietf_head : (rest : List ℕ) (k : ℕ) (t : MessageType) → 12 ≤ length rest → vendor_in rest ≡ 0 → kind_in rest ≡ k → k < 8 → is_known 0 k ≡ true → type_of 0 k ≡ t → length_in rest ≤ length rest → may_have t (length_in rest) ≡ true → HeadIs rest × (type_in rest ≡ t)
ietf_head rest k t long vendor kind small known is within may =
    let known_here : is_known (vendor_in rest) (kind_in rest) ≡ true = ap (λ (v : ℕ). is_known v (kind_in rest)) vendor ∙ ap (λ (x : ℕ). is_known 0 x) kind ∙ known in
    let type_here : type_in rest ≡ t = ap (λ (v : ℕ). type_of v (kind_in rest)) vendor ∙ ap (λ (x : ℕ). type_of 0 x) kind ∙ is in (
      record {
        long = long;
        known = and_right (noskip_in rest) (not (is_known (vendor_in rest) (kind_in rest))) (not_from_true (is_known (vendor_in rest) (kind_in rest)) known_here);
        vendor = ne_eqb (vendor_in rest) NO_VENDOR (λ e. omega (arith, e, vendor));
        kind = ne_eqb (kind_in rest) NO_TYPE (λ e. omega (arith, e, kind, small));
        within = within;
        may = ap (λ (x : MessageType). may_have x (length_in rest)) type_here ∙ may;
      },
      type_here,
    )

-- A value in which no row shows, and which is the message.
value_found : (m : Message) (rest : List ℕ) (t : MessageType) → type_in rest ≡ t → ((place : ℕ) → NoneShow (value_rows t place rest)) → message_of_type t rest ≡ m → (place : ℕ) → value_of place rest (type_in rest) ≡ Ok m
value_found m rest t is none same place =
    ap (λ (x : MessageType). value_of place rest x) is ∙ ap (λ (o : Option PbFault). unless o (message_of_type t rest)) (show_none (value_rows t place rest) (none place)) ∙ ap (λ (x : Message). Ok x) same

pa_back : (excl : Bool) (vendor subtype collector validator : ℕ) (body front more : List ℕ) → MessageForm (Pa excl vendor subtype collector validator body) front
    → Found (Pa excl vendor subtype collector validator body) (front ++ more) (length front)
pa_back excl vendor subtype collector validator body front more form =
    let rest : List ℕ = front ++ more in
    let p = placed front more form.head body form.joined in
    let there : length form.head ≤ length rest = omega (arith, p.within, p.there) in
    let h = head_back there (fields_there more form) in
    let a = flags_back there h.long h.behind in
    let b = number_back there a.0 a.2 in
    let c = number_back there b.0 b.3 in
    let d = number_back there c.0 c.3 in
    let e = number_back there d.0 d.3 in
    let n : length form.head ≡ 24 = end_back there e.0 e.3 in
    let count : length front ≡ 24 + length body = ap (λ (o : List ℕ). length o) form.joined ∙ length-append form.head body ∙ ap (λ (x : ℕ). x + length body) n in
    let len : length_in rest ≡ length front = h.is_count ∙ sym count in
    let heads = ietf_head rest 1 type.Pa (omega (arith, n, there)) h.is_vendor h.is_kind (omega arith) refl refl (omega (arith, len, p.there)) (le-leb 24 (length_in rest) (omega (arith, len, count))) in
    let body_is : slice_range rest 24 (length_in rest) ≡ body = ap (λ (x : ℕ). slice_range rest 24 x) len ∙ ap (λ (x : ℕ). slice_range rest x (length front)) (sym n) ∙ p.body_there in
    let flag : is_set (get_or rest 12 0) FLAG ≡ excl = a.1.0 in
    let same : message_of_type type.Pa rest ≡ Pa excl vendor subtype collector validator body =
    ap (λ (x : Bool). Pa x (number rest 13 3) (number rest 16 4) (number rest 20 2) (number rest 22 2) (slice_range rest 24 (length_in rest))) flag
    ∙ ap (λ (x : ℕ). Pa excl x (number rest 16 4) (number rest 20 2) (number rest 22 2) (slice_range rest 24 (length_in rest))) b.1
    ∙ ap (λ (x : ℕ). Pa excl vendor x (number rest 20 2) (number rest 22 2) (slice_range rest 24 (length_in rest))) c.1
    ∙ ap (λ (x : ℕ). Pa excl vendor subtype x (number rest 22 2) (slice_range rest 24 (length_in rest))) d.1
    ∙ ap (λ (x : ℕ). Pa excl vendor subtype collector x (slice_range rest 24 (length_in rest))) e.1
    ∙ ap (λ (x : List ℕ). Pa excl vendor subtype collector validator x) body_is in
    record {
      head = heads.0;
      len = len;
      value = value_found (Pa excl vendor subtype collector validator body) rest type.Pa heads.1
          (λ place. (ne_eqb (number rest 13 3) NO_VENDOR (λ is. omega (arith, is, b.1, form.valid.0)), (ne_eqb (number rest 16 4) NO_TYPE (λ is. omega (arith, is, c.1, form.valid.1)), tt))) same;
    }

-- The octets of a message without a body are those of its fields.
no_body : {m : Message} {front : List ℕ} (form : MessageForm m front) → body_of m ≡ [] → length front ≡ length form.head
no_body {m = m} form none = ap (λ (o : List ℕ). length o) form.joined ∙ length-append form.head (body_of m) ∙ ap (λ (o : List ℕ). length form.head + length o) none ∙ omega arith

assessment_back : (result : ℕ) (front more : List ℕ) → MessageForm (Assessment result) front → Found (Assessment result) (front ++ more) (length front)
assessment_back result front more form =
    let rest : List ℕ = front ++ more in
    let p = placed front more form.head [] form.joined in
    let there : length form.head ≤ length rest = omega (arith, p.within, p.there) in
    let h = head_back there (fields_there more form) in
    let a = number_back there h.long h.behind in
    let n : length form.head ≡ 16 = end_back there a.0 a.3 in
    let count : length front ≡ 16 = no_body form refl ∙ n in
    let len : length_in rest ≡ length front = omega (arith, h.is_count, count) in
    let heads = ietf_head rest 2 type.Assessment (omega (arith, n, there)) h.is_vendor h.is_kind (omega arith) refl refl (omega (arith, len, p.there)) (eq-eqb (length_in rest) 16 (len ∙ count)) in
    record {
      head = heads.0;
      len = len;
      value = value_found (Assessment result) rest type.Assessment heads.1 (λ place. (le-ltb 4 (number rest 12 4) (omega (arith, a.1, form.valid)), tt)) (ap (λ (x : ℕ). Assessment x) a.1);
    }

recommendation_back : (code : ℕ) (front more : List ℕ) → MessageForm (Recommendation code) front → Found (Recommendation code) (front ++ more) (length front)
recommendation_back code front more form =
    let rest : List ℕ = front ++ more in
    let p = placed front more form.head [] form.joined in
    let there : length form.head ≤ length rest = omega (arith, p.within, p.there) in
    let h = head_back there (fields_there more form) in
    let a = reserved_back there h.long h.behind in
    let b = number_back there a.0 a.1 in
    let n : length form.head ≡ 16 = end_back there b.0 b.3 in
    let count : length front ≡ 16 = no_body form refl ∙ n in
    let len : length_in rest ≡ length front = omega (arith, h.is_count, count) in
    let heads = ietf_head rest 3 type.Recommendation (omega (arith, n, there)) h.is_vendor h.is_kind (omega arith) refl refl (omega (arith, len, p.there)) (eq-eqb (length_in rest) 16 (len ∙ count)) in
    let good = or_from (ltb (number rest 14 2) 1) (ltb 3 (number rest 14 2)) (le-ltb (number rest 14 2) 1 (omega (arith, b.1, form.valid.0))) (le-ltb 3 (number rest 14 2) (omega (arith, b.1, form.valid.1))) in
    record {
      head = heads.0;
      len = len;
      value = value_found (Recommendation code) rest type.Recommendation heads.1 (λ place. (good, tt)) (ap (λ (x : ℕ). Recommendation x) b.1);
    }

error_back : (fatal : Bool) (vendor code : ℕ) (info front more : List ℕ) → MessageForm (Error fatal vendor code info) front → Found (Error fatal vendor code info) (front ++ more) (length front)
error_back fatal vendor code info front more form =
    let rest : List ℕ = front ++ more in
    let p = placed front more form.head info form.joined in
    let there : length form.head ≤ length rest = omega (arith, p.within, p.there) in
    let h = head_back there (fields_there more form) in
    let a = flags_back there h.long h.behind in
    let b = number_back there a.0 a.2 in
    let c = number_back there b.0 b.3 in
    let d = reserved_back there c.0 c.3 in
    let n : length form.head ≡ 20 = end_back there d.0 d.1 in
    let count : length front ≡ 20 + length info = ap (λ (o : List ℕ). length o) form.joined ∙ length-append form.head info ∙ ap (λ (x : ℕ). x + length info) n in
    let len : length_in rest ≡ length front = h.is_count ∙ sym count in
    let heads = ietf_head rest 5 type.Error (omega (arith, n, there)) h.is_vendor h.is_kind (omega arith) refl refl (omega (arith, len, p.there)) (le-leb 20 (length_in rest) (omega (arith, len, count))) in
    let info_is : slice_range rest 20 (length_in rest) ≡ info = ap (λ (x : ℕ). slice_range rest 20 x) len ∙ ap (λ (x : ℕ). slice_range rest x (length front)) (sym n) ∙ p.body_there in
    let flag : is_set (get_or rest 12 0) FLAG ≡ fatal = a.1.0 in
    let same : message_of_type type.Error rest ≡ Error fatal vendor code info =
    ap (λ (x : Bool). Error x (number rest 13 3) (number rest 16 2) (slice_range rest 20 (length_in rest))) flag
    ∙ ap (λ (x : ℕ). Error fatal x (number rest 16 2) (slice_range rest 20 (length_in rest))) b.1
    ∙ ap (λ (x : ℕ). Error fatal vendor x (slice_range rest 20 (length_in rest))) c.1
    ∙ ap (λ (x : List ℕ). Error fatal vendor code x) info_is in
    record { head = heads.0; len = len; value = value_found (Error fatal vendor code info) rest type.Error heads.1 (λ place. tt) same }

-- NOSKIP stands only on a type that has to be known.
none_unknown : (noskip known : Bool) → (noskip ≡ true → IsTrue known) → (noskip && not known) ≡ false
none_unknown true known only = not_from_true known (only refl)
none_unknown false known only = refl

frame_back : (noskip : Bool) (vendor kind : ℕ) (body front more : List ℕ) → MessageForm (Frame noskip vendor kind body) front → Found (Frame noskip vendor kind body) (front ++ more) (length front)
frame_back noskip vendor kind body front more form =
    let rest : List ℕ = front ++ more in
    let p = placed front more form.head body form.joined in
    let there : length form.head ≤ length rest = omega (arith, p.within, p.there) in
    let h = head_back there (fields_there more form) in
    let n : length form.head ≡ 12 = end_back there h.long h.behind in
    let count : length front ≡ 12 + length body = ap (λ (o : List ℕ). length o) form.joined ∙ length-append form.head body ∙ ap (λ (x : ℕ). x + length body) n in
    let len : length_in rest ≡ length front = h.is_count ∙ sym count in
    let flag : noskip_in rest ≡ noskip = h.flagged.0 in
    let type_here : type_in rest ≡ type.Other = ap (λ (v : ℕ). type_of v (kind_in rest)) h.is_vendor ∙ ap (λ (x : ℕ). type_of vendor x) h.is_kind ∙ form.valid.2 in
    let known_here : is_known (vendor_in rest) (kind_in rest) ≡ is_known vendor kind = ap (λ (v : ℕ). is_known v (kind_in rest)) h.is_vendor ∙ ap (λ (x : ℕ). is_known vendor x) h.is_kind in
    let known : (noskip_in rest && not (is_known (vendor_in rest) (kind_in rest))) ≡ false =
    ap (λ (x : Bool). x && not (is_known (vendor_in rest) (kind_in rest))) flag ∙ ap (λ (x : Bool). noskip && not x) known_here ∙ none_unknown noskip (is_known vendor kind) form.valid.3 in
    let body_is : slice_range rest 12 (length_in rest) ≡ body = ap (λ (x : ℕ). slice_range rest 12 x) len ∙ ap (λ (x : ℕ). slice_range rest x (length front)) (sym n) ∙ p.body_there in
    let same : message_of_type type.Other rest ≡ Frame noskip vendor kind body =
    ap (λ (x : Bool). Frame x (vendor_in rest) (kind_in rest) (slice_range rest 12 (length_in rest))) flag
    ∙ ap (λ (x : ℕ). Frame noskip x (kind_in rest) (slice_range rest 12 (length_in rest))) h.is_vendor
    ∙ ap (λ (x : ℕ). Frame noskip vendor x (slice_range rest 12 (length_in rest))) h.is_kind
    ∙ ap (λ (x : List ℕ). Frame noskip vendor kind x) body_is in
    record {
      head = record {
        long = omega (arith, n, there);
        known = known;
        vendor = ne_eqb (vendor_in rest) NO_VENDOR (λ e. omega (arith, e, h.is_vendor, form.valid.0));
        kind = ne_eqb (kind_in rest) NO_TYPE (λ e. omega (arith, e, h.is_kind, form.valid.1));
        within = omega (arith, len, p.there);
        may = ap (λ (x : MessageType). may_have x (length_in rest)) type_here ∙ le-leb 12 (length_in rest) (omega (arith, len, count));
      };
      len = len;
      value = value_found (Frame noskip vendor kind body) rest type.Other type_here (λ place. tt) same;
    }

pub message_back : (m : Message) (front more : List ℕ) → MessageForm m front → Found m (front ++ more) (length front)
message_back (Pa excl vendor subtype collector validator body) front more form = pa_back excl vendor subtype collector validator body front more form
message_back (Assessment result) front more form = assessment_back result front more form
message_back (Recommendation code) front more form = recommendation_back code front more form
message_back (Error fatal vendor code info) front more form = error_back fatal vendor code info front more form
message_back (Frame noskip vendor kind body) front more form = frame_back noskip vendor kind body front more form

-- A message has as many octets as it counts.
pub form_length : (m : Message) (front : List ℕ) → MessageForm m front → length front ≡ message_octets m
form_length m front form =
    let p = placed front [] form.head (body_of m) form.joined in
    let there : length form.head ≤ length (front ++ []) = omega (arith, p.within, p.there) in
    sym (message_back m front [] form).len ∙ (head_back there (fields_there [] form)).is_count
