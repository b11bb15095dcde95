-- Octets that are found to begin with a batch have its form before, and octets in its form are
-- found to begin with it.
use Rattle.std.proofs.Common.{◌≡◌, ℕ, ◌-◌, ◌+◌, ◌%◌, ◌≤◌, ◌<◌, Bool, true, false, cond, eqb, ltb, is_none, List, [], ◌∷◌, ◌++◌, length, take, drop, get_or, slice_range, unwrap_or, Result, Ok, Option, Some, None, refl, sym, ap, subst, ◌∙◌, arith, length-append}
use Rattle.std.proofs.lemmas.Bool.{eqb-true, ltb-false, le-ltb, eq-eqb, or_parts, or_from, not-false, not_from_true}
use Rattle.std.proofs.lemmas.List.{take-append-drop, length-take-le, drop_more}
use Rattle.wire_base.specs.Numbers.{number_of}
use Rattle.wire_base.specs.Layout.{AreOctets, Form, is_set}
use Rattle.wire_base.specs.FaultTable.{first_shown, unless}
use Rattle.wire_base.specs.Feeding.{Whole}
use Rattle.pb_batch.specs.declared.batch.Batch.{Batch}
use Rattle.pb_batch.specs.declared.batch.Message.{Message}
use Rattle.pb_batch.specs.declared.kind.BatchKind.{BatchKind}
use Rattle.pb_batch.specs.declared.kind.BatchKind.TheVariants.{Cdata, Sdata, Outcome, Cretry, Sretry, Close}
use Rattle.pb_batch.specs.declared.fault.PbFault.{PbFault}
use Rattle.pb_batch.specs.declared.batch_header.Header.{Header}
use Rattle.pb_batch.specs.Types.{kind_of, number_of_kind}
use Rattle.pb_batch.specs.Form.{FLAG, BatchForm, batch_octets, header_fields}
use Rattle.pb_batch.specs.Faults.{number, header_rows, batch_length, differ}
use Rattle.pb_batch.specs.Front.{batches, front_of, header_in, header_of, messages_of}
use Rattle.pb_batch.specs.Shown.{Begins}
use Rattle.wire_base.proofs.FaultTables.{unless_ok, none_show, show_none}
use Rattle.wire_base.proofs.Fronts.{Seen, Short, Torn, Waits, Full}
use Rattle.pb_batch.proofs.Fronts.{whole_front, seen, WholeOf, whole_of, front_full}
use Rattle.pb_batch.proofs.Fields.{Stands, length-between, between_split, AreOctets-between, number_forth, flags_forth, reserved_forth, end_forth, number_back, flags_back, reserved_back, end_back}
use Rattle.pb_batch.proofs.Heads.{placed}
use Rattle.pb_batch.proofs.MessageLists.{forms_length, messages_forth, messages_back}

-- ---- the fields of a header

-- A number of one octet is that octet.
number_one : (octets : List ℕ) (k : ℕ) → k < length octets → number octets k 1 ≡ get_or octets k 0
number_one octets k there =
    let one : k + 1 - k ≡ 1 = omega arith in
    ap (λ (c : ℕ). number_of (take c (drop k octets))) one ∙ ap (λ (o : List ℕ). number_of (take 1 o)) (drop_more octets k 0 there) ∙ omega arith

-- Two truth values that do not differ.
same_flags : (a b : Bool) → differ a b ≡ false → a ≡ b
same_flags true true e = refl
same_flags true false e = absurd cc
same_flags false true e = absurd cc
same_flags false false e = refl

no_difference : (a b : Bool) → a ≡ b → differ a b ≡ false
no_difference true true e = refl
no_difference true false e = absurd cc
no_difference false true e = absurd cc
no_difference false false e = refl

-- The kind of a number, by what the tests of the number gave.
abbrev kind_by : Bool → Bool → Bool → Bool → Bool → Bool → Option BatchKind
kind_by a b c d e f = cond a (Some Cdata) (cond b (Some Sdata) (cond c (Some Outcome) (cond d (Some Cretry) (cond e (Some Sretry) (cond f (Some Close) None)))))

kind_tested : (n : ℕ) (a b c d e f : Bool) → (a ≡ true → n ≡ 1) → (b ≡ true → n ≡ 2) → (c ≡ true → n ≡ 3) → (d ≡ true → n ≡ 4) → (e ≡ true → n ≡ 5) → (f ≡ true → n ≡ 6)
    → is_none (kind_by a b c d e f) ≡ false → n ≡ number_of_kind (unwrap_or (kind_by a b c d e f) Close)
kind_tested n true b c d e f one two three four five six some = one refl
kind_tested n false true c d e f one two three four five six some = two refl
kind_tested n false false true d e f one two three four five six some = three refl
kind_tested n false false false true e f one two three four five six some = four refl
kind_tested n false false false false true f one two three four five six some = five refl
kind_tested n false false false false false true one two three four five six some = six refl
kind_tested n false false false false false false one two three four five six some = absurd cc

kind_number : (n : ℕ) → is_none (kind_of n) ≡ false → n ≡ number_of_kind (unwrap_or (kind_of n) Close)
kind_number n some =
    kind_tested n (eqb n 1) (eqb n 2) (eqb n 3) (eqb n 4) (eqb n 5) (eqb n 6) (eqb-true n 1) (eqb-true n 2) (eqb-true n 3) (eqb-true n 4) (eqb-true n 5) (eqb-true n 6) some

number_kind : (k : BatchKind) → kind_of (number_of_kind k) ≡ Some k
number_kind Cdata = refl
number_kind Sdata = refl
number_kind Outcome = refl
number_kind Cretry = refl
number_kind Sretry = refl
number_kind Close = refl

-- ---- a batch that is found has its form

-- The octets up to a place are those before.
from_start : (octets : List ℕ) (n : ℕ) → slice_range octets 0 n ≡ take n octets
from_start octets n = let all : n - 0 ≡ n = omega arith in ap (λ (k : ℕ). take k octets) all

form_of : (s : Bool) (octets : List ℕ) (b : Batch) (n : ℕ) (h : Header) → AreOctets octets → 8 ≤ length octets → header_of s octets ≡ Ok h → h.length ≤ length octets
    → WholeOf s h (messages_of 64 8 (slice_range octets 8 h.length)) b n → Begins s octets b n
form_of s octets b n h are long ok all w =
    let o = unless_ok (first_shown (header_rows s octets)) (header_in octets) h ok in
    let none = none_show (header_rows s octets) o.0 in
    let lengths = or_parts (ltb (batch_length octets) 8) (ltb 16777216 (batch_length octets)) none.1.1.1.0 in
    let count : batch_length octets ≡ n = ap (λ (x : Header). x.length) o.1 ∙ w.octets in
    let least : 8 ≤ n = omega (arith, ltb-false (batch_length octets) 8 lengths.0, count) in
    let most : n ≤ 16777216 = omega (arith, ltb-false 16777216 (batch_length octets) lengths.1, count) in
    let within : n ≤ length octets = omega (arith, all, w.octets) in
    let rest : List ℕ = slice_range octets 8 n in
    let read : messages_of 64 8 rest ≡ Ok b.messages = ap (λ (k : ℕ). messages_of 64 8 (slice_range octets 8 k)) (sym w.octets) ∙ w.messages in
    let messages = messages_forth 64 8 rest b.messages (AreOctets-between octets 8 n are) read in
    let size : batch_octets b ≡ n = omega (arith, forms_length b.messages rest messages.0, length-between octets 8 n within, least) in
    let version : number octets 0 1 ≡ 2 = number_one octets 0 (omega (arith, long)) ∙ eqb-true (get_or octets 0 0) 2 (not-false (eqb (get_or octets 0 0) 2) none.0) in
    let direction : is_set (get_or octets 1 0) FLAG ≡ b.from_server = same_flags (is_set (get_or octets 1 0) FLAG) s none.1.0 ∙ w.from_server in
    let kind : number octets 3 1 % 16 ≡ number_of_kind b.kind =
    ap (λ (x : ℕ). x % 16) (number_one octets 3 (omega (arith, long))) ∙ kind_number (get_or octets 3 0 % 16) none.1.1.0
    ∙ ap (λ (k : BatchKind). number_of_kind k) (ap (λ (x : Header). x.kind) o.1 ∙ w.kind) in
    let fields : Stands octets (header_fields (number octets 3 1) b) 0 8 =
    number_forth 1 2 are long (omega arith) version
    (flags_forth ((FLAG, b.from_server) ∷ []) long (omega arith) (direction, tt)
    (reserved_forth 1 long (omega arith)
    (number_forth 1 (number octets 3 1) are long (omega arith) refl
    (number_forth 4 (batch_octets b) are long (omega arith) (count ∙ sym size)
    (end_forth octets 8))))) in
    record {
      within = within;
      direction = sym w.from_server;
      form = record {
        few = messages.1;
        short = omega (arith, size, most);
        type = number octets 3 1;
        kind = kind;
        header = slice_range octets 0 8;
        rest = rest;
        joined = sym (from_start octets n) ∙ between_split octets 0 8 n (omega arith) least;
        fields = fields.form;
        messages = messages.0;
      };
    }

whole_forth_by : (s : Bool) (octets : List ℕ) (b : Batch) (n : ℕ) → AreOctets octets → Seen (batches s) octets (front_of s octets) → front_of s octets ≡ Whole b n → Begins s octets b n
whole_forth_by s octets b n are (Short short is) e = absurd cc
whole_forth_by s octets b n are (Torn f long err is) e = absurd cc
whole_forth_by s octets b n are (Waits h long ok short is) e = absurd cc
whole_forth_by s octets b n are (Full h long ok all is) e = form_of s octets b n h are long ok all (whole_of s h (messages_of 64 8 (slice_range octets 8 h.length)) b n (sym is ∙ e))

pub whole_forth : (s : Bool) (octets : List ℕ) (b : Batch) (n : ℕ) → AreOctets octets → front_of s octets ≡ Whole b n → Begins s octets b n
whole_forth s octets b n are e = whole_forth_by s octets b n are (seen s octets) e

-- ---- octets in the form of a batch are found

-- What the fields of a header say.
record HeaderSays (type : ℕ) (b : Batch) (octets : List ℕ) (n : ℕ) : Type 0 where
  eight : n ≡ 8
  version : get_or octets 0 0 ≡ 2
  direction : is_set (get_or octets 1 0) FLAG ≡ b.from_server
  number_is : get_or octets 3 0 ≡ type
  count : batch_length octets ≡ batch_octets b

header_back : {type : ℕ} {b : Batch} {octets : List ℕ} {n : ℕ} → n ≤ length octets → Stands octets (header_fields type b) 0 n → HeaderSays type b octets n
header_back {octets = octets} there stands =
    let v = number_back there (omega arith) stands in
    let d = flags_back there v.0 v.3 in
    let r = reserved_back there d.0 d.2 in
    let t = number_back there r.0 r.1 in
    let l = number_back there t.0 t.3 in
    record {
      eight = end_back there l.0 l.3;
      version = sym (number_one octets 0 (omega (arith, v.0, there))) ∙ v.1;
      direction = d.1.0;
      number_is = sym (number_one octets 3 (omega (arith, t.0, there))) ∙ t.1;
      count = l.1;
    }

-- The direction of a batch is that of the octets.
pub form_direction : (b : Batch) (octets more : List ℕ) → BatchForm b octets → is_set (get_or (octets ++ more) 1 0) FLAG ≡ b.from_server
form_direction b octets more form =
    let p = placed octets more form.header form.rest form.joined in
    let there : length form.header ≤ length (octets ++ more) = omega (arith, p.within, p.there) in
    (header_back {type = form.type} {b = b} there (record { form = subst (λ (o : List ℕ). Form (header_fields form.type b) o) (sym p.head_there) form.fields })).direction

-- The octets of a batch are as many as it counts.
pub form_octets : (b : Batch) (octets : List ℕ) → BatchForm b octets → length octets ≡ batch_octets b
form_octets b octets form =
    let p = placed octets [] form.header form.rest form.joined in
    let there : length form.header ≤ length (octets ++ []) = omega (arith, p.within, p.there) in
    let says = header_back {type = form.type} {b = b} there (record { form = subst (λ (o : List ℕ). Form (header_fields form.type b) o) (sym p.head_there) form.fields }) in
    omega (arith, ap (λ (o : List ℕ). length o) form.joined, length-append form.header form.rest, says.eight, forms_length b.messages form.rest form.messages)

pub whole_back : (b : Batch) (octets more : List ℕ) → BatchForm b octets → front_of b.from_server (octets ++ more) ≡ Whole b (length octets)
whole_back b octets more form =
    let all : List ℕ = octets ++ more in
    let p = placed octets more form.header form.rest form.joined in
    let there : length form.header ≤ length all = omega (arith, p.within, p.there) in
    let says = header_back {type = form.type} {b = b} there (record { form = subst (λ (o : List ℕ). Form (header_fields form.type b) o) (sym p.head_there) form.fields }) in
    let size = form_octets b octets form in
    let number_here : get_or all 3 0 % 16 ≡ number_of_kind b.kind = ap (λ (x : ℕ). x % 16) says.number_is ∙ form.kind in
    let kind_here : kind_of (get_or all 3 0 % 16) ≡ Some b.kind = ap (λ (x : ℕ). kind_of x) number_here ∙ number_kind b.kind in
    let lengths = or_from (ltb (batch_length all) 8) (ltb 16777216 (batch_length all)) (le-ltb (batch_length all) 8 (omega (arith, says.count))) (le-ltb 16777216 (batch_length all) (omega (arith, says.count, form.short))) in
    let none = show_none (header_rows b.from_server all) (
      not_from_true (eqb (get_or all 0 0) 2) (eq-eqb (get_or all 0 0) 2 says.version),
      (
        no_difference (is_set (get_or all 1 0) FLAG) b.from_server says.direction,
        (ap (λ (o : Option BatchKind). is_none o) kind_here, (lengths, tt)),
      ),
    ) in
    let h : Header = header_in all in
    let ok : header_of b.from_server all ≡ Ok h = ap (λ (o : Option PbFault). unless o h) none in
    let count : h.length ≡ length octets = says.count ∙ sym size in
    let rest : slice_range all 8 h.length ≡ form.rest = ap (λ (k : ℕ). slice_range all 8 k) count ∙ ap (λ (k : ℕ). slice_range all k (length octets)) (sym says.eight) ∙ p.body_there in
    let read : messages_of 64 8 (slice_range all 8 h.length) ≡ Ok b.messages = ap (λ (o : List ℕ). messages_of 64 8 o) rest ∙ messages_back b.messages 64 8 form.rest form.messages form.few in
    let kind : h.kind ≡ b.kind = ap (λ (o : Option BatchKind). unwrap_or o Close) kind_here in
    front_full b.from_server all h (omega (arith, says.eight, there)) ok (omega (arith, count, p.there))
    ∙ ap (λ (r : Result (List Message) PbFault). whole_front b.from_server h r) read
    ∙ ap (λ (k : BatchKind). Whole (record { from_server = b.from_server; kind = k; messages = b.messages }) h.length) kind
    ∙ ap (λ (n : ℕ). Whole b n) count

pub begins_back : (s : Bool) (octets : List ℕ) (b : Batch) (n : ℕ) → Begins s octets b n → front_of s octets ≡ Whole b n
begins_back s octets b n begins =
    let len : length (take n octets) ≡ n = length-take-le n octets begins.within in
    let found : front_of b.from_server octets ≡ Whole b n =
    ap (λ (o : List ℕ). front_of b.from_server o) (sym (take-append-drop n octets)) ∙ whole_back b (take n octets) (drop n octets) begins.form ∙ ap (λ (k : ℕ). Whole b k) len in
    ap (λ (d : Bool). front_of d octets) (sym begins.direction) ∙ found
