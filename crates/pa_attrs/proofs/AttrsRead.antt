-- What is true of the attributes of a message that was read: how many there are, where their values
-- lie, and which types they have.
use Rattle.std.proofs.Common.{◌≡◌, ℕ, zero, suc, ◌+◌, ◌-◌, ◌<◌, ◌≤◌, Bool, true, false, cond, List, [], ◌∷◌, length, take, drop, eqb, Ok, Err, Result, refl, sym, ap, subst, ◌∙◌, arith, length-drop, length-take}
use Rattle.std.specs.Prelude.{nat_lt, ◌==◌, ◌&&◌, filter, slice_index}
use Rattle.std.specs.List.{Contains, list_any}
use Rattle.std.proofs.lemmas.Bool.{eqb-true, ltb-false}
use Rattle.std.proofs.lemmas.List.{nil_from_length}
use Rattle.std.proofs.lemmas.Map.Views.{Contains-from_any}
use Rattle.pa_attrs.specs.declared.attr.PlacedAttr.{PlacedAttr}
use Rattle.pa_attrs.specs.declared.fault.AttrFault.{AttrFault}
use Rattle.pa_attrs.specs.declared.header.Header.{Header}
use Rattle.pa_attrs.specs.Numbers.{IETF, MOST_ATTRIBUTES}
use Rattle.pa_attrs.specs.Faults.{message_header}
use Rattle.pa_attrs.specs.MessageReading.{AreSupported, LieWithin, Walked, attributes, attrs_of, message_of, placed, supports}
use Rattle.pa_attrs.proofs.MessageLaws.{id_is, none_broken, start_passes}
use Rattle.pa_attrs.proofs.Walking.{message_good, walk_more, walk_none, walk_stops}

-- ---- all attributes

-- At most as many as have room, each with its value before this place.
record AreWithin (room end : ℕ) (attrs : List PlacedAttr) : Type 0 where
  few : length attrs ≤ room
  within : LieWithin end attrs

no_attrs : (room end : ℕ) → AreWithin room end []
no_attrs room end = record { few = omega arith; within = tt }

-- So are those that are read of octets.
abbrev AllWithin : List ℕ → ℕ → Type 0
AllWithin supported room = (at : ℕ) (octets : List ℕ) → AreWithin room (at + length octets) (attributes supported room at octets).0

-- One attribute, and those after it.
one_within : (supported : List ℕ) (room at : ℕ) (octets : List ℕ) (h : Header) → AllWithin supported (room - 1) → message_header supported room octets ≡ Ok h
    → AreWithin room (at + length octets) (attributes supported room at octets).0
one_within supported room at octets h after is =
    let m = message_good supported room octets h is in
    let others : Walked = attributes supported (room - 1) (at + h.length) (drop h.length octets) in
    let w = after (at + h.length) (drop h.length octets) in
    let end : at + h.length + length (drop h.length octets) ≡ at + length octets = omega (arith, length-drop h.length octets, m.good.within) in
    let value : at + 12 + length (take (h.length - 12) (drop 12 octets)) ≤ at + length octets = omega (arith, length-take (h.length - 12) (drop 12 octets), m.good.least, m.good.within) in
    let all : AreWithin room (at + length octets) (placed at h octets ∷ others.0) = record { few = omega (arith, w.few, m.room-left); within = (value, subst (λ (n : ℕ). LieWithin n others.0) end w.within) } in
    subst (λ (x : Walked). AreWithin room (at + length octets) x.0) (sym (walk_more supported room at octets h is)) all

within_by : (supported : List ℕ) (room at : ℕ) (octets : List ℕ) (said : Result Header AttrFault) → (0 < room → AllWithin supported (room - 1)) → eqb (length octets) 0 ≡ false
    → message_header supported room octets ≡ said → AreWithin room (at + length octets) (attributes supported room at octets).0
within_by supported room at octets (Ok h) after some is = let m = message_good supported room octets h is in one_within supported room at octets h (after m.room-left) is
within_by supported room at octets (Err fault) after some is =
    subst (λ (x : Walked). AreWithin room (at + length octets) x.0) (sym (walk_stops supported room at octets fault some is)) (no_attrs room (at + length octets))

within_from : (supported : List ℕ) (room at : ℕ) (octets : List ℕ) (none : Bool) → (0 < room → AllWithin supported (room - 1)) → eqb (length octets) 0 ≡ none
    → AreWithin room (at + length octets) (attributes supported room at octets).0
within_from supported room at octets false after is = within_by supported room at octets (message_header supported room octets) after is refl
within_from supported room at octets true after is =
    let nothing : octets ≡ [] = nil_from_length octets (eqb-true (length octets) 0 is) in
    let read : attributes supported room at octets ≡ ([], _) = ap (λ (o : List ℕ). attributes supported room at o) nothing ∙ walk_none supported room at in
    subst (λ (x : Walked). AreWithin room (at + length octets) x.0) (sym read) (no_attrs room (at + length octets))

all_within : (supported : List ℕ) (room : ℕ) → AllWithin supported room
all_within supported zero at octets = within_from supported zero at octets (eqb (length octets) 0) (λ some. absurd (omega (arith, some))) refl
all_within supported (suc room) at octets =
    let less : room ≡ suc room - 1 = omega arith in
    within_from supported (suc room) at octets (eqb (length octets) 0) (λ some. subst (λ (n : ℕ). AllWithin supported n) less (all_within supported room)) refl

-- ---- those that are supported

-- They are not more, and their values lie where they did.
kept_within : (supported : List ℕ) (room end : ℕ) (attrs : List PlacedAttr) → AreWithin room end attrs → AreWithin room end (filter (supports supported) attrs)
kept_within supported room end [] all = no_attrs room end
kept_within supported room end (attr ∷ attrs) all =
    by_test (kept_within supported (room - 1) end attrs (record { few = omega (arith, all.few); within = all.within.1 })) (supports supported attr)
  where
    by_test : AreWithin (room - 1) end (filter (supports supported) attrs) → (b : Bool)
        → AreWithin room end (cond b (attr ∷ filter (supports supported) attrs) (filter (supports supported) attrs))
    by_test others true = record { few = omega (arith, others.few, all.few); within = (all.within.0, others.within) }
    by_test others false = record { few = omega (arith, others.few); within = others.within }

-- Their vendor is 0, and their type is in the list.
both : (a b : Bool) → (a && b) ≡ true → (a ≡ true) × (b ≡ true)
both true b e = (refl, e)
both false b e = absurd cc

kept_supported : (supported : List ℕ) (attrs : List PlacedAttr) → AreSupported supported (filter (supports supported) attrs)
kept_supported supported [] = tt
kept_supported supported (placed ∷ attrs) = by_test (kept_supported supported attrs) (supports supported placed) refl
  where
    listed : supports supported placed ≡ true → (placed.attr.vendor ≡ IETF) × Contains supported placed.attr.kind
    listed is =
        let s = both (placed.attr.vendor == IETF) (list_any (λ (known : ℕ). known == placed.attr.kind) supported) is in (
          eqb-true placed.attr.vendor IETF s.0,
          Contains-from_any {eq = λ (kind known : ℕ). known == kind} (λ x y e. sym (eqb-true y x e)) placed.attr.kind supported s.1,
        )

    by_test : AreSupported supported (filter (supports supported) attrs) → (b : Bool) → supports supported placed ≡ b
        → AreSupported supported (cond b (placed ∷ filter (supports supported) attrs) (filter (supports supported) attrs))
    by_test others true is = (listed is, others)
    by_test others false is = others

-- ---- a message

pub record AttrsRead (types octets : List ℕ) (attrs : List PlacedAttr) : Type 0 where
  pub few : length attrs ≤ MOST_ATTRIBUTES
  pub within : LieWithin (length octets) attrs
  pub supported : AreSupported types attrs

pub attrs_read : (supported octets : List ℕ) (id : ℕ) (attrs : List PlacedAttr) → message_of supported octets ≡ Ok (id, attrs) → AttrsRead supported octets attrs
unfolding message_of
attrs_read supported octets id attrs e =
    let s = start_passes (nat_lt (length octets) 8) (slice_index octets 0 == 1) supported octets id attrs e in
    let long : 8 ≤ length octets = ltb-false (length octets) 8 s.0 in
    let walked : Walked = attributes supported 64 8 (drop 8 octets) in
    let n = none_broken supported octets walked.0 attrs walked.1 (id_is octets id attrs (attrs_of supported octets) s.2).0 in
    let k = kept_within supported 64 (8 + length (drop 8 octets)) walked.0 (all_within supported 64 8 (drop 8 octets)) in
    let end : 8 + length (drop 8 octets) ≡ length octets = omega (arith, length-drop 8 octets) in
    subst (λ (l : List PlacedAttr). AttrsRead supported octets l) n.1 (record { few = k.few; within = subst (λ (m : ℕ). LieWithin m (filter (supports supported) walked.0)) end k.within; supported = kept_supported supported walked.0 })
