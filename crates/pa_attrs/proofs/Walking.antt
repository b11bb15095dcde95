-- The attributes of a message, one after another.
use Rattle.std.proofs.Common.{◌≡◌, ℕ, zero, suc, ◌+◌, ◌-◌, ◌<◌, ◌≤◌, Bool, true, false, cond, not, List, [], ◌∷◌, ◌++◌, length, drop, eqb, Some, None, Result, Ok, Err, refl, sym, ap, subst, ◌∙◌, append_assoc, arith}
use Rattle.std.specs.Prelude.{nat_lt, ◌==◌, ◌&&◌, ◌||◌, filter}
use Rattle.std.specs.List.{list_any}
use Rattle.std.proofs.lemmas.Bool.{ltb-false, eqb-true, eqb-false}
use Rattle.std.proofs.lemmas.List.{append-nil, nil_from_length}
use Rattle.std.proofs.lemmas.List.Elements.{filter-append}
use Rattle.std.proofs.lemmas.List.Folds.{list_any-append}
use Rattle.pa_attrs.specs.declared.attr.PlacedAttr.{PlacedAttr}
use Rattle.pa_attrs.specs.declared.fault.AttrFault.{AttrFault}
use Rattle.pa_attrs.specs.declared.header.Header.{Header}
use Rattle.pa_attrs.specs.Numbers.{HEADER, NO_VENDOR, NO_TYPE}
use Rattle.pa_attrs.specs.Header.{header_of}
use Rattle.pa_attrs.specs.Faults.{Row, row, first_shown, header_rows, is_refused, unless, message_header}
use Rattle.pa_attrs.specs.MessageReading.{Walked, in_front, placed, and_others, attributes, is_error, is_answered, fault_of, supports, kept}
use Rattle.pa_attrs.proofs.Headers.{IsGood, unless_good}

-- ---- the header of an attribute of a message

-- Where the first rows do not show, the others count.
skips : (a b c : Bool) (rows : List Row) (h said : Header) → unless (first_shown (row a 1 0 ∷ row b 1 0 ∷ row c 3 0 ∷ rows)) h ≡ Ok said
    → (a ≡ false) × (b ≡ false) × (c ≡ false) × (unless (first_shown rows) h ≡ Ok said)
skips false false false rows h said e = (refl, refl, refl, e)
skips true b c rows h said e = absurd cc
skips false true c rows h said e = absurd cc
skips false false true rows h said e = absurd cc

-- A header without a fault, where that many attributes more have room.
pub record MayStand (supported : List ℕ) (room : ℕ) (octets : List ℕ) (h : Header) : Type 0 where
  pub room-left : 0 < room
  pub long : HEADER ≤ length octets
  pub not-refused : is_refused supported h ≡ false
  pub good : IsGood (length octets) octets h

pub message_good : (supported : List ℕ) (room : ℕ) (octets : List ℕ) (h : Header) → message_header supported room octets ≡ Ok h → MayStand supported room octets h
unfolding message_header
message_good supported room octets h e =
    let s = skips (room == 0) (nat_lt (length octets) HEADER) (is_refused supported (header_of octets)) (header_rows (length octets) (header_of octets)) (header_of octets) h e in
    let good = unless_good (length octets) octets h s.3 in
    let some : room ≡ 0 → ⊥ = eqb-false room 0 s.0 in
    let room-left : 0 < room = omega (arith, some) in
    record { room-left = room-left; long = ltb-false (length octets) HEADER s.1; not-refused = subst (λ (x : Header). is_refused supported x ≡ false) good.is s.2; good = good }

-- A fault stands in the header.
place_by : (a b c d e f : Bool) (h : Header) (shown : AttrFault) → unless (first_shown (row a 1 0 ∷ row b 1 0 ∷ row c 3 0 ∷ row d 1 1 ∷ row e 1 4 ∷ row f 1 8 ∷ [])) h ≡ Err shown → shown.at ≤ 8
place_by true b c d e f h shown is = let at : 0 ≡ shown.at = cc in omega (arith, at)
place_by false true c d e f h shown is = let at : 0 ≡ shown.at = cc in omega (arith, at)
place_by false false true d e f h shown is = let at : 0 ≡ shown.at = cc in omega (arith, at)
place_by false false false true e f h shown is = let at : 1 ≡ shown.at = cc in omega (arith, at)
place_by false false false false true f h shown is = let at : 4 ≡ shown.at = cc in omega (arith, at)
place_by false false false false false true h shown is = let at : 8 ≡ shown.at = cc in omega (arith, at)
place_by false false false false false false h shown is = absurd cc

pub fault_place : (supported : List ℕ) (room : ℕ) (octets : List ℕ) (shown : AttrFault) → message_header supported room octets ≡ Err shown → shown.at ≤ 8
unfolding message_header
fault_place supported room octets shown is =
    let h : Header = header_of octets in
    place_by (room == 0) (nat_lt (length octets) HEADER) (is_refused supported h) (h.vendor == NO_VENDOR) (h.kind == NO_TYPE) (nat_lt h.length HEADER || nat_lt (length octets) h.length) h shown is

-- ---- one attribute, and those after it

-- There are none in no octets.
pub walk_none : (supported : List ℕ) (room at : ℕ) → attributes supported room at [] ≡ ([], None)
unfolding attributes
walk_none supported zero at = refl
walk_none supported (suc room) at = refl

-- Where there are octets, they are not none.
pub some_octets : (octets : List ℕ) → 0 < length octets → eqb (length octets) 0 ≡ false
some_octets octets some = not_none (eqb (length octets) 0) refl
  where
    not_none : (b : Bool) → eqb (length octets) 0 ≡ b → b ≡ false
    not_none false e = refl
    not_none true e = let none = eqb-true (length octets) 0 e in absurd (omega arith)

-- A fault.
pub walk_stops : (supported : List ℕ) (room at : ℕ) (octets : List ℕ) (shown : AttrFault) → eqb (length octets) 0 ≡ false → message_header supported room octets ≡ Err shown
    → attributes supported room at octets ≡ ([], Some (record { at = at; octets = octets; fault = shown }))
unfolding attributes
walk_stops supported zero at octets shown some is =
    let others : ℕ → List ℕ → Walked = λ at rest. ([], None) in
    ap (λ (b : Bool). cond b ([], None) (and_others others at octets (message_header supported 0 octets))) some ∙ ap (λ (r : Result Header AttrFault). and_others others at octets r) is
walk_stops supported (suc room) at octets shown some is =
    let others : ℕ → List ℕ → Walked = attributes supported room in
    ap (λ (b : Bool). cond b ([], None) (and_others others at octets (message_header supported (suc room) octets))) some ∙ ap (λ (r : Result Header AttrFault). and_others others at octets r) is

-- An attribute, and those after it.
pub walk_more : (supported : List ℕ) (room at : ℕ) (octets : List ℕ) (h : Header) → message_header supported room octets ≡ Ok h
    → attributes supported room at octets ≡ in_front (placed at h octets) (attributes supported (room - 1) (at + h.length) (drop h.length octets))
unfolding attributes
walk_more supported zero at octets h is = let m = message_good supported 0 octets h is in absurd (omega (arith, m.room-left))
walk_more supported (suc room) at octets h is =
    let m = message_good supported (suc room) octets h is in
    let others : ℕ → List ℕ → Walked = attributes supported room in
    let less : suc room - 1 ≡ room = omega arith in
    ap (λ (b : Bool). cond b ([], None) (and_others others at octets (message_header supported (suc room) octets))) (some_octets octets (omega (arith, m.long)))
    ∙ ap (λ (r : Result Header AttrFault). and_others others at octets r) is
    ∙ ap (λ (n : ℕ). in_front (placed at h octets) (attributes supported n (at + h.length) (drop h.length octets))) (sym less)

-- ---- a loop over them

-- Attributes that were read, and those that are read after them.
abbrev pub behind : List PlacedAttr → Walked → Walked
behind front walked = (front ++ walked.0, walked.1)

-- What a loop over the attributes keeps: those that were read, and those still to be read, are all
-- of them.
pub record Walks (supported : List ℕ) (total : Walked) (room at : ℕ) (rest : List ℕ) (attrs : List PlacedAttr) (answer : Bool) : Type 0 where
  pub seen : List PlacedAttr
  pub kept-so : attrs ≡ filter (supports supported) seen
  pub told-so : answer ≡ is_answered seen
  pub so-far : behind seen (attributes supported room at rest) ≡ total

-- Before the loop none was read.
pub begun : (supported : List ℕ) (room at : ℕ) (rest : List ℕ) → Walks supported (attributes supported room at rest) room at rest [] true
begun supported room at rest = record { seen = []; kept-so = refl; told-so = refl; so-far = refl }

-- One attribute more.
told_more : (seen : List PlacedAttr) (attr : PlacedAttr) → is_answered (seen ++ attr ∷ []) ≡ (is_answered seen && not (is_error attr))
told_more seen attr = ap (λ (b : Bool). not b) (list_any-append is_error seen (attr ∷ [])) ∙ neither (list_any is_error seen) (is_error attr)
  where
    neither : (a b : Bool) → not (a || (b || false)) ≡ (not a && not b)
    neither true b = refl
    neither false true = refl
    neither false false = refl

pub went_on : (supported : List ℕ) (total : Walked) (room at : ℕ) (rest : List ℕ) (attrs after : List PlacedAttr) (answer answer-after : Bool) (h : Header)
    → message_header supported room rest ≡ Ok h → after ≡ attrs ++ filter (supports supported) (placed at h rest ∷ []) → answer-after ≡ (answer && not (is_error (placed at h rest)))
    → Walks supported total room at rest attrs answer → Walks supported total (room - 1) (at + h.length) (drop h.length rest) after answer-after
went_on supported total room at rest attrs after answer answer-after h is keeps tells w =
    let attr : PlacedAttr = placed at h rest in
    let others : Walked = attributes supported (room - 1) (at + h.length) (drop h.length rest) in
    record {
      seen = w.seen ++ attr ∷ [];
      kept-so = keeps ∙ ap (λ (l : List PlacedAttr). l ++ filter (supports supported) (attr ∷ [])) w.kept-so ∙ sym (filter-append (supports supported) w.seen (attr ∷ []));
      told-so = tells ∙ ap (λ (b : Bool). b && not (is_error attr)) w.told-so ∙ sym (told_more w.seen attr);
      so-far = ap (λ (l : List PlacedAttr). (l, others.1)) (append_assoc w.seen (attr ∷ []) others.0) ∙ sym (ap (λ (x : Walked). behind w.seen x) (walk_more supported room at rest h is)) ∙ w.so-far;
    }

-- Nothing is left.
pub ended : (supported bytes : List ℕ) (total : Walked) (room at : ℕ) (rest : List ℕ) (attrs : List PlacedAttr) (answer : Bool) → eqb (length rest) 0 ≡ true
    → Walks supported total room at rest attrs answer → kept supported bytes total.0 total.1 ≡ Ok attrs
ended supported bytes total room at rest attrs answer empty w =
    let none : rest ≡ [] = nil_from_length rest (eqb-true (length rest) 0 empty) in
    let all : (w.seen, None) ≡ total = sym (ap (λ (x : Walked). behind w.seen x) (ap (λ (o : List ℕ). attributes supported room at o) none ∙ walk_none supported room at) ∙ ap (λ (l : List PlacedAttr). (l, None)) (append-nil w.seen)) ∙ w.so-far in
    ap (λ (x : Walked). kept supported bytes x.0 x.1) (sym all) ∙ ap (λ (l : List PlacedAttr). Ok l) (sym w.kept-so)

-- A fault shows.
pub broke : (supported bytes : List ℕ) (total : Walked) (room at : ℕ) (rest : List ℕ) (attrs : List PlacedAttr) (answer : Bool) (shown : AttrFault) → eqb (length rest) 0 ≡ false → message_header supported room rest ≡ Err shown
    → Walks supported total room at rest attrs answer → kept supported bytes total.0 total.1 ≡ Err (fault_of bytes answer (record { at = at; octets = rest; fault = shown }))
broke supported bytes total room at rest attrs answer shown some is w =
    let all : (w.seen, Some (record { at = at; octets = rest; fault = shown })) ≡ total =
    sym (ap (λ (x : Walked). behind w.seen x) (walk_stops supported room at rest shown some is) ∙ ap (λ (l : List PlacedAttr). (l, Some (record { at = at; octets = rest; fault = shown }))) (append-nil w.seen)) ∙ w.so-far in
    ap (λ (x : Walked). kept supported bytes x.0 x.1) (sym all) ∙ ap (λ (b : Bool). Err (fault_of bytes b (record { at = at; octets = rest; fault = shown }))) (sym w.told-so)
