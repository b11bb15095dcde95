-- Octets that are copied from turns in memory, one after another up to the first mark.
use Rattle.std.proofs.Common.{◌≡◌, ℕ, suc, ◌+◌, ◌<◌, ◌≤◌, List, [], ◌∷◌, ◌++◌, length, map, take, drop, slice_set, Option, Some, sym, ap, ap₂, ◌∙◌, arith}
use Rattle.std.specs.Prelude.{slice_get}
use Rattle.std.proofs.Math.ListN.{drop_of_length-le}
use Rattle.std.proofs.Math.Seq.{drop-cons, take-add, take-suc}
use Rattle.std.proofs.lemmas.List.{drop-drop, drop-map, map-append, take-append-drop, take-map, take_more_set}
use Rattle.std.proofs.lemmas.Option.{get_or_from_slice_get, slice_get-map, slice_get_within}
use Rattle.wire_base.specs.InMemory.{octets_ahead, turn_of}
use Rattle.wire_base.specs.Turns.{Turn, Octet, Idle, turns_of}
use Rattle.wire_base.specs.declared.outside.no_fault_link.LinkTurn.{LinkTurn}
use Rattle.wire_base.specs.declared.outside.no_fault_link.LinkTurn.TheVariants as held

-- The turn that is held at a place, as a turn of a link.
pub turn_at : (turns : List LinkTurn) (place : ℕ) (turn : LinkTurn) → slice_get turns place ≡ Some turn → slice_get (map turn_of turns) place ≡ Some (turn_of turn)
turn_at turns place turn at = slice_get-map turn_of turns place ∙ ap (λ (o : Option LinkTurn). Rattle.std.specs.Option.option_map turn_of o) at

-- What is left from a place on begins with the item there.
split_at : {A : Type 0} (items : List A) (place : ℕ) (item : A) → slice_get items place ≡ Some item → drop place items ≡ item ∷ drop (place + 1) items
split_at {A = A} items place item at =
    let next : suc place ≡ place + 1 = omega arith in
    drop-cons items place item (slice_get_within items place item at)
    ∙ ap (λ (first : A). first ∷ drop (suc place) items) (get_or_from_slice_get items place item item at)
    ∙ ap (λ (n : ℕ). item ∷ drop n items) next

-- The items up to and with the one at a place.
one_more : {A : Type 0} (items : List A) (place : ℕ) (item : A) → slice_get items place ≡ Some item → take (place + 1) items ≡ take place items ++ item ∷ []
one_more {A = A} items place item at =
    let next : place + 1 ≡ suc place = omega arith in
    ap (λ (n : ℕ). take n items) next ∙ take-suc items place item (slice_get_within items place item at)
    ∙ ap (λ (last : A). take place items ++ last ∷ []) (get_or_from_slice_get items place item item at)

-- One octet more is copied.
pub copied_more : (buffer : List ℕ) (turns : List LinkTurn) (count octet : ℕ) → count < length buffer → slice_get turns count ≡ Some (held.Octet octet)
    → turns_of (take count buffer) ≡ take count (map turn_of turns) → turns_of (take (count + 1) (slice_set buffer count octet)) ≡ take (count + 1) (map turn_of turns)
copied_more buffer turns count octet room at copied =
    ap turns_of (take_more_set buffer count octet room) ∙ map-append Octet (take count buffer) (octet ∷ [])
    ∙ ap (λ (front : List Turn). front ++ Octet octet ∷ []) copied ∙ sym (one_more (map turn_of turns) count (Octet octet) (turn_at turns count (held.Octet octet) at))

-- The same of how many come before the first mark.
pub ahead_more : (turns : List LinkTurn) (count octet : ℕ) → slice_get turns count ≡ Some (held.Octet octet)
    → octets_ahead (map turn_of turns) ≡ count + octets_ahead (drop count (map turn_of turns)) → octets_ahead (map turn_of turns) ≡ count + 1 + octets_ahead (drop (count + 1) (map turn_of turns))
ahead_more turns count octet at ahead =
    let first : octets_ahead (drop count (map turn_of turns)) ≡ 1 + octets_ahead (drop (count + 1) (map turn_of turns)) =
    ap octets_ahead (split_at (map turn_of turns) count (Octet octet) (turn_at turns count (held.Octet octet) at)) in
    omega (arith, ahead, first)

-- Before a mark none come.
pub ahead_idle : (turns : List LinkTurn) (count : ℕ) → slice_get turns count ≡ Some held.Idle
    → octets_ahead (map turn_of turns) ≡ count + octets_ahead (drop count (map turn_of turns)) → octets_ahead (map turn_of turns) ≡ count
ahead_idle turns count at ahead =
    let none : octets_ahead (drop count (map turn_of turns)) ≡ 0 = ap octets_ahead (split_at (map turn_of turns) count Idle (turn_at turns count held.Idle at)) in
    omega (arith, ahead, none)

-- Nor where nothing is left.
pub ahead_none : (turns : List LinkTurn) (count : ℕ) → length turns ≤ count
    → octets_ahead (map turn_of turns) ≡ count + octets_ahead (drop count (map turn_of turns)) → octets_ahead (map turn_of turns) ≡ count
ahead_none turns count end ahead =
    let none : octets_ahead (drop count (map turn_of turns)) ≡ 0 = ap octets_ahead (drop-map turn_of count turns) ∙ ap (λ (left : List LinkTurn). octets_ahead (map turn_of left)) (drop_of_length-le turns end) in
    omega (arith, ahead, none)

-- The turns that were taken and those that are left, after a call moved some.
pub taken_more : (turns left : List LinkTurn) (place count : ℕ) (copied : List Turn) → left ≡ drop place turns → copied ≡ take count (map turn_of left)
    → map turn_of (take (place + count) turns) ≡ map turn_of (take place turns) ++ copied
taken_more turns left place count copied is all =
    ap (map turn_of) (take-add place count turns) ∙ map-append turn_of (take place turns) (take count (drop place turns))
    ∙ ap (λ (behind : List Turn). map turn_of (take place turns) ++ behind) (sym (take-map turn_of count (drop place turns)) ∙ ap (λ (o : List LinkTurn). take count (map turn_of o)) (sym is) ∙ sym all)

pub left_less : (turns left : List LinkTurn) (place count : ℕ) (copied : List Turn) → left ≡ drop place turns → copied ≡ take count (map turn_of left)
    → map turn_of (drop place turns) ≡ copied ++ map turn_of (drop (place + count) turns)
left_less turns left place count copied is all =
    sym (take-append-drop count (map turn_of (drop place turns)))
    ∙ ap₂ (λ (front behind : List Turn). front ++ behind) (ap (λ (o : List LinkTurn). take count (map turn_of o)) (sym is) ∙ sym all)
    (drop-map turn_of count (drop place turns) ∙ ap (map turn_of) (drop-drop count place turns))

-- Where an octet comes first, some octets come before the first mark.
pub some_ahead : (turns : List LinkTurn) (octet : ℕ) → slice_get turns 0 ≡ Some (held.Octet octet) → 0 < octets_ahead (map turn_of turns)
some_ahead [] octet at = absurd (cc)
some_ahead (held.Octet first ∷ turns) octet at = omega arith
some_ahead (held.Idle ∷ turns) octet at = absurd (cc)
