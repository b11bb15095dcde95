-- A message's layout, and what its octets are read as, say the same.
use Rattle.std.proofs.Common.{◌≡◌, ℕ, zero, suc, ◌+◌, ◌-◌, ◌<◌, ◌≤◌, ◌^◌, Bool, true, false, cond, not, List, [], ◌∷◌, ◌++◌, length, take, drop, eqb, Option, Some, None, Result, Ok, Err, refl, sym, ap, subst, ◌∙◌, arith, length-append}
use Rattle.std.specs.Prelude.{nat_lt, ◌==◌, ◌&&◌, filter, slice_index, slice_range}
use Rattle.std.specs.List.{flat_map, AllByRecursion}
use Rattle.std.proofs.lemmas.Bool.{le-ltb, ltb-false, eqb-true}
use Rattle.std.proofs.lemmas.List.{nil_from_length, take-append-drop, drop_at}
use Rattle.wire_base.specs.Numbers.{number_of}
use Rattle.wire_base.specs.Layout.{AreOctets, Form}
use Rattle.wire_base.specs.Written.{Fit}
use Rattle.wire_base.proofs.Exact.{Form-append, Form-split}
use Rattle.wire_base.proofs.Spelled.{AreOctets-rest}
use Rattle.wire_base.proofs.WrittenLaws.{written_form, Fit-append}
use Rattle.pa_attrs.specs.declared.attr.Attr.{Attr}
use Rattle.pa_attrs.specs.declared.attr.PaMessage.{PaMessage}
use Rattle.pa_attrs.specs.declared.attr.PlacedAttr.{PlacedAttr}
use Rattle.pa_attrs.specs.declared.fault.AttrFault.{AttrFault}
use Rattle.pa_attrs.specs.declared.fault.PaFault.{PaFault}
use Rattle.pa_attrs.specs.declared.header.Header.{Header}
use Rattle.pa_attrs.specs.Numbers.{HEADER, MOST_OCTETS}
use Rattle.pa_attrs.specs.AttrForm.{IsNamed, attr_fields, header_for}
use Rattle.pa_attrs.specs.Header.{attr_of, header_of}
use Rattle.pa_attrs.specs.Faults.{Row, row, first_shown, header_rows, is_refused, message_header, unless}
use Rattle.pa_attrs.specs.Laws.{IsPassed, IsRead, IsSupported, ReadingIsForm, WrittenIsRead, places}
use Rattle.pa_attrs.specs.MessageForm.{IsMessage, MessageForm, message_fields, written_message}
use Rattle.pa_attrs.specs.MessageReading.{Broken, Walked, attributes, attrs_of, in_front, kept, message_of, placed, supports, unless_start, with_id}
use Rattle.pa_attrs.proofs.AttrLaws.{IsAttr, attr_fit, attr_joined, attr_length, attr_parts, attr_says, attr_there, differ, good_makes, no_fault}
use Rattle.pa_attrs.proofs.HeaderForm.{start_fields, start_form, start_length, start_says}
use Rattle.pa_attrs.proofs.Walking.{message_good, walk_more, walk_none, walk_stops}
use Rattle.pa_attrs.proofs.Writing.{head, length-written_attr, message_written, written_attr, written_may_be}

-- ---- one attribute

-- Rows that do not show are passed over.
skipped : (a b c : Bool) (rows : List Row) (h said : Header) → a ≡ false → b ≡ false → c ≡ false → unless (first_shown rows) h ≡ Ok said
    → unless (first_shown (row a 1 0 ∷ row b 1 0 ∷ row c 3 0 ∷ rows)) h ≡ Ok said
skipped false false false rows h said p q r e = e
skipped true b c rows h said p q r e = absurd cc
skipped false true c rows h said p q r e = absurd cc
skipped false false true rows h said p q r e = absurd cc

-- An attribute that stands first has a header without a fault.
header_passes : (supported : List ℕ) (room : ℕ) (attr : Attr) (octets rest : List ℕ) → 0 < room → IsAttr attr octets → IsNamed attr → IsPassed supported attr
    → message_header supported room (octets ++ rest) ≡ Ok (header_for attr)
unfolding message_header
header_passes supported room attr octets rest some is named passed =
    let all : List ℕ = octets ++ rest in
    let len = attr_length attr octets is in
    let long : HEADER + length attr.value ≤ length all = omega (arith, len, length-append octets rest) in
    passes (header_of all) (attr_says attr octets rest is) (differ room 0 (λ none. omega arith)) (le-ltb (length all) 12 (omega arith)) (no_fault (length all) attr named long)
  where
    passes : (h : Header) → h ≡ header_for attr → (room == 0) ≡ false → nat_lt (length (octets ++ rest)) 12 ≡ false
        → unless (first_shown (header_rows (length (octets ++ rest)) (header_for attr))) (header_for attr) ≡ Ok (header_for attr)
        → unless (first_shown (row (room == 0) 1 0 ∷ row (nat_lt (length (octets ++ rest)) 12) 1 0 ∷ row (is_refused supported h) 3 0 ∷ header_rows (length (octets ++ rest)) h)) h ≡ Ok (header_for attr)
    passes h is-for has-room enough good =
        let P : Header → Type 0 = λ x. unless (first_shown (row (room == 0) 1 0 ∷ row (nat_lt (length (octets ++ rest)) 12) 1 0 ∷ row (is_refused supported x) 3 0 ∷ header_rows (length (octets ++ rest)) x)) x ≡ Ok (header_for attr) in
        subst P (sym is-for) (skipped (room == 0) (nat_lt (length (octets ++ rest)) 12) (is_refused supported (header_for attr)) (header_rows (length (octets ++ rest)) (header_for attr)) (header_for attr) (header_for attr) has-room enough passed good)

-- ---- attributes one after another

-- Attributes in their layout are read.
walk_back : (supported : List ℕ) (attrs : List Attr) (room at : ℕ) (octets : List ℕ) → Form (flat_map attr_fields attrs) octets → AllByRecursion IsNamed attrs → AllByRecursion (IsPassed supported) attrs
    → length attrs ≤ room → attributes supported room at octets ≡ (places at attrs, None)
walk_back supported [] room at octets form named passed count = ap (λ (o : List ℕ). attributes supported room at o) form ∙ walk_none supported room at
walk_back supported (attr ∷ attrs) room at octets form named passed count =
    let s = Form-split (attr_fields attr) (flat_map attr_fields attrs) octets form in
    let is = attr_parts attr s.0 s.3 in
    let len = attr_length attr s.0 is in
    let h : Header = header_for attr in
    let passes = header_passes supported room attr s.0 s.1 (omega arith) is named.0 passed.0 in
    let behind : drop h.length (s.0 ++ s.1) ≡ s.1 = drop_at s.0 s.1 h.length len in
    let others = walk_back supported attrs (room - 1) (at + h.length) s.1 s.4 named.1 passed.1 (omega arith) in
    ap (λ (o : List ℕ). attributes supported room at o) s.2 ∙ walk_more supported room at (s.0 ++ s.1) h passes
    ∙ ap (λ (o : List ℕ). in_front (placed at h (s.0 ++ s.1)) (attributes supported (room - 1) (at + h.length) o)) behind
    ∙ ap (λ (w : Walked). in_front (placed at h (s.0 ++ s.1)) w) others
    ∙ ap (λ (a : Attr). (record { at = at + 12; attr = a } ∷ places (at + h.length) attrs, None)) (attr_there attr s.0 s.1 is)

-- Attributes that are read are in their layout.
record IsWalk (supported : List ℕ) (room at : ℕ) (octets : List ℕ) (all : List PlacedAttr) : Type 0 where
  attrs : List Attr
  form : Form (flat_map attr_fields attrs) octets
  named : AllByRecursion IsNamed attrs
  passed : AllByRecursion (IsPassed supported) attrs
  count : length attrs ≤ room
  are : all ≡ places at attrs

-- What one attribute more adds.
walk_one : (supported : List ℕ) (room at : ℕ) (octets : List ℕ) (h : Header) (others : List PlacedAttr) → AreOctets octets → message_header supported room octets ≡ Ok h
    → IsWalk supported (room - 1) (at + h.length) (drop h.length octets) others → IsWalk supported room at octets (placed at h octets ∷ others)
walk_one supported room at octets h others are is w =
    let m = message_good supported room octets h is in
    let k = good_makes (length octets) octets h are m.good.within m.good in
    let attr : Attr = attr_of h octets in
    let len : HEADER + length attr.value ≡ h.length = ap (λ (x : Header). x.length) k.is-for in
    let joined = Form-append (attr_fields attr) (flat_map attr_fields w.attrs) (take h.length octets) (drop h.length octets) (attr_joined attr (take h.length octets) k.form) w.form in
    record {
      attrs = attr ∷ w.attrs;
      form = subst (λ (o : List ℕ). Form (flat_map attr_fields (attr ∷ w.attrs)) o) (take-append-drop h.length octets) joined;
      named = (k.named, w.named);
      passed = (subst (λ (x : Header). is_refused supported x ≡ false) (sym k.is-for) m.not-refused, w.passed);
      count = omega (arith, w.count, m.room-left);
      are = ap (λ (l : List PlacedAttr). placed at h octets ∷ l) (w.are ∙ ap (λ (n : ℕ). places (at + n) w.attrs) (sym len));
    }

-- What comes after an attribute is in its layout.
abbrev Behind : List ℕ → ℕ → Type 0
Behind supported room = (at : ℕ) (octets : List ℕ) (all : List PlacedAttr) → AreOctets octets → attributes supported room at octets ≡ (all, None) → IsWalk supported room at octets all

-- Attributes and no fault, by what the header of the first of them says.
walk_by : (supported : List ℕ) (room at : ℕ) (octets : List ℕ) (all : List PlacedAttr) (said : Result Header AttrFault) → (0 < room → Behind supported (room - 1)) → AreOctets octets → eqb (length octets) 0 ≡ false
    → message_header supported room octets ≡ said → attributes supported room at octets ≡ (all, None) → IsWalk supported room at octets all
walk_by supported room at octets all (Err fault) behind are some is e =
    absurd (never (record { at = at; octets = octets; fault = fault }) (ap (λ (w : Walked). w.1) (sym (walk_stops supported room at octets fault some is) ∙ e)))
  where
    never : (broken : Broken) → Some broken ≡ None → ⊥
    never broken e = cc
walk_by supported room at octets all (Ok h) behind are some is e =
    let m = message_good supported room octets h is in
    let others : Walked = attributes supported (room - 1) (at + h.length) (drop h.length octets) in
    let joined : in_front (placed at h octets) others ≡ (all, None) = sym (walk_more supported room at octets h is) ∙ e in
    let none : others.1 ≡ None = ap (λ (w : Walked). w.1) joined in
    let all-are : placed at h octets ∷ others.0 ≡ all = ap (λ (w : Walked). w.0) joined in
    let are-behind = AreOctets-rest octets (take h.length octets) (drop h.length octets) (sym (take-append-drop h.length octets)) are in
    let w = behind m.room-left (at + h.length) (drop h.length octets) others.0 are-behind (ap (λ (b : Option Broken). (others.0, b)) none) in
    subst (λ (l : List PlacedAttr). IsWalk supported room at octets l) all-are (walk_one supported room at octets h others.0 are is w)

-- The same of no octets, and of others.
walk_from : (supported : List ℕ) (room at : ℕ) (octets : List ℕ) (all : List PlacedAttr) (none : Bool) → (0 < room → Behind supported (room - 1)) → AreOctets octets → eqb (length octets) 0 ≡ none
    → attributes supported room at octets ≡ (all, None) → IsWalk supported room at octets all
walk_from supported room at octets all false behind are is e = walk_by supported room at octets all (message_header supported room octets) behind are is refl e
walk_from supported room at octets all true behind are is e =
    let nothing : octets ≡ [] = nil_from_length octets (eqb-true (length octets) 0 is) in
    let none : [] ≡ all = ap (λ (w : Walked). w.0) (sym (walk_none supported room at) ∙ sym (ap (λ (o : List ℕ). attributes supported room at o) nothing) ∙ e) in
    record { attrs = []; form = nothing; named = tt; passed = tt; count = omega arith; are = sym none }

-- Attributes that are read without a fault are in their layout.
walk_forth : (supported : List ℕ) (room at : ℕ) (octets : List ℕ) (all : List PlacedAttr) → AreOctets octets → attributes supported room at octets ≡ (all, None) → IsWalk supported room at octets all
walk_forth supported zero at octets all are e = walk_from supported zero at octets all (eqb (length octets) 0) (λ some. absurd (omega (arith, some))) are refl e
walk_forth supported (suc room) at octets all are e =
    let less : room ≡ suc room - 1 = omega arith in
    walk_from supported (suc room) at octets all (eqb (length octets) 0) (λ some. subst (λ (n : ℕ). Behind supported n) less (walk_forth supported room)) are refl e

-- ---- a message

-- A header without a fault, and what comes after it.
pub start_passes : (short good : Bool) (supported octets : List ℕ) (id : ℕ) (attrs : List PlacedAttr) → unless_start (first_shown (row short 1 0 ∷ row (not good) 2 0 ∷ [])) supported octets ≡ Ok (id, attrs)
    → (short ≡ false) × (good ≡ true) × (with_id octets (attrs_of supported octets) ≡ Ok (id, attrs))
start_passes false true supported octets id attrs e = (refl, refl, e)
start_passes true good supported octets id attrs e = absurd cc
start_passes false false supported octets id attrs e = absurd cc

-- The identifier and the attributes.
pub id_is : (octets : List ℕ) (id : ℕ) (attrs : List PlacedAttr) (read : Result (List PlacedAttr) PaFault) → with_id octets read ≡ Ok (id, attrs) → (read ≡ Ok attrs) × (number_of (slice_range octets 4 8) ≡ id)
id_is octets id attrs (Ok others) e = let both : (number_of (slice_range octets 4 8), others) ≡ (id, attrs) = cc in (ap (λ (p : ℕ × List PlacedAttr). Ok p.1) both, ap (λ (p : ℕ × List PlacedAttr). p.0) both)
id_is octets id attrs (Err fault) e = absurd cc

-- Attributes without a fault, and those of them that are supported.
pub none_broken : (supported octets : List ℕ) (all attrs : List PlacedAttr) (broken : Option Broken) → kept supported octets all broken ≡ Ok attrs → (broken ≡ None) × (filter (supports supported) all ≡ attrs)
none_broken supported octets all attrs None e = (refl, cc)
none_broken supported octets all attrs (Some broken) e = absurd cc

-- What is read is a message.
read_is_form : (supported octets : List ℕ) (id : ℕ) (attrs : List PlacedAttr) → AreOctets octets → length octets ≤ MOST_OCTETS → message_of supported octets ≡ Ok (id, attrs) → IsRead supported octets id attrs
unfolding message_of
read_is_form supported octets id attrs are within e =
    let s = start_passes (nat_lt (length octets) 8) (slice_index octets 0 == 1) supported octets id attrs e in
    let long : 8 ≤ length octets = ltb-false (length octets) 8 s.0 in
    let i = id_is octets id attrs (attrs_of supported octets) s.2 in
    let walked : Walked = attributes supported 64 8 (drop 8 octets) in
    let n = none_broken supported octets walked.0 attrs walked.1 i.0 in
    let are-behind = AreOctets-rest octets (take 8 octets) (drop 8 octets) (sym (take-append-drop 8 octets)) are in
    let w = walk_forth supported 64 8 (drop 8 octets) walked.0 are-behind (ap (λ (b : Option Broken). (walked.0, b)) n.0) in
    let f = start_form octets are long in
    let version : slice_index octets 0 ≡ 1 = eqb-true (slice_index octets 0) 1 s.1 in
    let start : Form (start_fields (1, id)) f.0 = subst (λ (p : ℕ × ℕ). Form (start_fields p) f.0) (ap (λ (v : ℕ). (v, number_of (slice_range octets 4 8))) version ∙ ap (λ (n : ℕ). (1, n)) i.1) f.3 in
    let joined = Form-append (start_fields (1, id)) (flat_map attr_fields w.attrs) f.0 (drop 8 octets) start w.form in
    record {
      message = record { id = id; attrs = w.attrs };
      form = record {
        form = subst (λ (o : List ℕ). Form (message_fields (record { id = id; attrs = w.attrs })) o) (sym f.1) joined;
        may_be = record { named = w.named; count = w.count; within = within };
      };
      passed = w.passed;
      id-is = refl;
      attrs-are = sym n.1 ∙ ap (λ (l : List PlacedAttr). filter (supports supported) l) w.are;
    }

-- A message is read.
start_reads : (short good : Bool) (supported octets : List ℕ) → short ≡ false → good ≡ true → unless_start (first_shown (row short 1 0 ∷ row (not good) 2 0 ∷ [])) supported octets ≡ with_id octets (attrs_of supported octets)
start_reads false true supported octets p q = refl
start_reads true good supported octets p q = absurd cc
start_reads false false supported octets p q = absurd cc

form_is_read : (supported octets : List ℕ) (id : ℕ) (attrs : List PlacedAttr) → IsRead supported octets id attrs → message_of supported octets ≡ Ok (id, attrs)
unfolding message_of
form_is_read supported octets id attrs is =
    let m : PaMessage = is.message in
    let s = Form-split (start_fields (1, m.id)) (flat_map attr_fields m.attrs) octets is.form.form in
    let len = start_length 1 m.id s.0 s.3 in
    let says = start_says 1 m.id s.0 s.1 s.3 in
    let long : nat_lt (length octets) 8 ≡ false = le-ltb (length octets) 8 (omega (arith, len, ap (λ (o : List ℕ). length o) s.2, length-append s.0 s.1)) in
    let first : slice_index octets 0 ≡ 1 = ap (λ (o : List ℕ). slice_index o 0) s.2 ∙ says.0 in
    let version : (slice_index octets 0 == 1) ≡ true = ap (λ (n : ℕ). n == 1) first in
    let number : number_of (slice_range octets 4 8) ≡ id = ap (λ (o : List ℕ). number_of (slice_range o 4 8)) s.2 ∙ says.1 ∙ sym is.id-is in
    let behind : drop 8 octets ≡ s.1 = ap (λ (o : List ℕ). drop 8 o) s.2 ∙ drop_at s.0 s.1 8 len in
    let walked : attributes supported 64 8 (drop 8 octets) ≡ (places 8 m.attrs, None) =
    ap (λ (o : List ℕ). attributes supported 64 8 o) behind ∙ walk_back supported m.attrs 64 8 s.1 s.4 is.form.may_be.named is.passed is.form.may_be.count in
    start_reads (nat_lt (length octets) 8) (slice_index octets 0 == 1) supported octets long version
    ∙ ap (λ (w : Walked). with_id octets (kept supported octets w.0 w.1)) walked
    ∙ ap (λ (n : ℕ). Ok (n, filter (supports supported) (places 8 m.attrs))) number
    ∙ ap (λ (l : List PlacedAttr). Ok (id, l)) (sym is.attrs-are)

pub reading_is_form : ReadingIsForm
reading_is_form supported octets id attrs are within = (read_is_form supported octets id attrs are within, form_is_read supported octets id attrs)

-- ---- what is written

-- A type that is supported is not refused.
supported_passes : (supported : List ℕ) (attr : Attr) → IsSupported supported attr → IsPassed supported attr
supported_passes supported attr is = ap (λ (b : Bool). attr.noskip && not b) is ∙ never attr.noskip
  where
    never : (b : Bool) → (b && false) ≡ false
    never true = refl
    never false = refl

all_pass : (supported : List ℕ) (attrs : List Attr) → AllByRecursion (IsSupported supported) attrs → AllByRecursion (IsPassed supported) attrs
all_pass supported [] all = tt
all_pass supported (attr ∷ attrs) all = (supported_passes supported attr all.0, all_pass supported attrs all.1)

-- All attributes of a supported type are kept.
all_kept : (supported : List ℕ) (at : ℕ) (attrs : List Attr) → AllByRecursion (IsSupported supported) attrs → filter (supports supported) (places at attrs) ≡ places at attrs
all_kept supported at [] all = refl
all_kept supported at (attr ∷ attrs) all =
    let others : List PlacedAttr = places (at + (HEADER + length attr.value)) attrs in
    ap (λ (b : Bool). cond b (record { at = at + 12; attr = attr } ∷ filter (supports supported) others) (filter (supports supported) others)) all.0
    ∙ ap (λ (l : List PlacedAttr). record { at = at + 12; attr = attr } ∷ l) (all_kept supported (at + (HEADER + length attr.value)) attrs all.1)

-- Attributes of a message have room in their fields.
attrs_fit : (attrs : List Attr) → AllByRecursion IsNamed attrs → length (flat_map written_attr attrs) ≤ MOST_OCTETS → Fit (flat_map attr_fields attrs)
attrs_fit [] named within = tt
attrs_fit (attr ∷ attrs) named within =
    let sum = length-append (written_attr attr) (flat_map written_attr attrs) in
    let len = length-written_attr attr in
    Fit-append (attr_fields attr) (flat_map attr_fields attrs) (attr_fit attr named.0 (omega arith)) (attrs_fit attrs named.1 (omega arith))

-- What is written of a message is in its layout.
pub written_is_message : (message : PaMessage) → message.id < 2 ^ 32 → IsMessage message (length (written_message message)) → MessageForm message (written_message message)
written_is_message message fits is =
    let all = ap (λ (o : List ℕ). length o) (message_written message) ∙ length-append (head message.id) (flat_map written_attr message.attrs) in
    let attrs : length (flat_map written_attr message.attrs) ≤ MOST_OCTETS = omega (arith, is.within, all) in
    record { form = written_form (message_fields message) (omega arith, (tt, (fits, attrs_fit message.attrs is.named attrs))); may_be = is }

pub written_is_read : WrittenIsRead
written_is_read supported message fits can all =
    form_is_read supported (written_message message) message.id (places 8 message.attrs) (record {
      message = message;
      form = written_is_message message fits (written_may_be message can);
      passed = all_pass supported message.attrs all;
      id-is = refl;
      attrs-are = sym (all_kept supported 8 message.attrs all);
    })
