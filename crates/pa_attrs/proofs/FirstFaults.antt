-- The fault of a message has the lowest place of all rows that show.
use Rattle.std.proofs.Common.{◌≡◌, ℕ, suc, ◌+◌, ◌-◌, ◌<◌, ◌≤◌, Bool, true, false, cond, List, [], ◌∷◌, length, drop, eqb, Option, Some, None, Result, Ok, Err, refl, sym, ap, subst, ◌∙◌, inl, inr, arith}
use Rattle.std.specs.List.{AllByRecursion}
use Rattle.std.proofs.lemmas.Bool.{eqb-true, eqb-false}
use Rattle.std.proofs.lemmas.List.{nil_from_length}
use Rattle.wire_base.proofs.FaultTables.{none_shows-below, unless_err, unless_ok}
use Rattle.pa_attrs.specs.declared.attr.PlacedAttr.{PlacedAttr}
use Rattle.pa_attrs.specs.declared.fault.AttrFault.{AttrFault}
use Rattle.pa_attrs.specs.declared.fault.PaFault.{PaFault}
use Rattle.pa_attrs.specs.declared.header.Header.{Header}
use Rattle.pa_attrs.specs.Numbers.{HEADER, MESSAGE_HEADER, MOST_ATTRIBUTES, MOST_OCTETS}
use Rattle.pa_attrs.specs.Header.{header_of}
use Rattle.pa_attrs.specs.Faults.{Row, first_shown, header_rows, message_header, message_rows, stream_header, unless}
use Rattle.pa_attrs.specs.FirstFault.{StandBefore, rows_behind, AreNotBelow, IsFirstFault, IsFault}
use Rattle.pa_attrs.specs.Laws.{BadIsFault, FaultIsFirst}
use Rattle.pa_attrs.specs.MessageReading.{Broken, Walked, attributes, attrs_of, fault_of, in_front, is_answered, kept, message_of, placed, start_rows, unless_start, with_id}
use Rattle.pa_attrs.proofs.FaultLaws.{fault_is_lowest}
use Rattle.pa_attrs.proofs.Fronts.{bad_is, front_bad}
use Rattle.pa_attrs.proofs.Walking.{fault_place, message_good, some_octets, walk_more, walk_none, walk_stops}

-- ---- rows that show

-- Where no row shows, none is below any limit.
none_shows : (limit place : ℕ) (rows : List Row) → first_shown rows ≡ None → AreNotBelow limit place rows
none_shows limit place rows e = none_shows-below (λ (f : AttrFault). place + f.at) limit rows e

-- At a place that is not below the limit no row is.
far : (limit place : ℕ) (rows : List Row) → limit ≤ place → AreNotBelow limit place rows
far limit place [] behind = tt
far limit place (first ∷ rows) behind = (λ shows. omega (arith, behind), far limit place rows behind)

-- Places from the attribute's first octet, and from that of the message.
moved : (at place : ℕ) (rows : List Row) (low : ℕ) → AllByRecursion (λ (row : Row). row.shows ≡ true → low ≤ row.fault.at) rows → AreNotBelow (at + low) at rows
moved at place [] low all = tt
moved at place (first ∷ rows) low all = (λ shows. omega (arith, all.0 shows), moved at place rows low all.1)

-- Where each row would be below the limit, none shows.
none_below : (limit place : ℕ) (rows : List Row) → place + 8 < limit → AllByRecursion (λ (row : Row). row.fault.at ≤ 8) rows → AreNotBelow limit place rows → first_shown rows ≡ None
none_below limit place [] low small all = refl
none_below limit place (first ∷ rows) low small all = by_test first.shows refl (none_below limit place rows low small.1 all.1)
  where
    by_test : (b : Bool) → first.shows ≡ b → first_shown rows ≡ None → cond b (Some first.fault) (first_shown rows) ≡ None
    by_test true is others = absurd (omega (arith, all.0 is, small.0))
    by_test false is others = others

-- All rows stand within the header.
small : (supported : List ℕ) (room : ℕ) (octets : List ℕ) (h : Header) → AllByRecursion (λ (row : Row). row.fault.at ≤ 8) (message_rows supported room octets h)
small supported room octets h = (omega arith, (omega arith, (omega arith, (omega arith, (omega arith, (omega arith, tt))))))

-- ---- the rows of a message

-- The header of an attribute, by its rows.
pub row_err : (supported : List ℕ) (room : ℕ) (octets : List ℕ) (shown : AttrFault) → message_header supported room octets ≡ Err shown → first_shown (message_rows supported room octets (header_of octets)) ≡ Some shown
unfolding message_header
row_err supported room octets shown e = unless_err (first_shown (message_rows supported room octets (header_of octets))) (header_of octets) shown e

row_ok : (supported : List ℕ) (room : ℕ) (octets : List ℕ) (h : Header) → message_header supported room octets ≡ Ok h → first_shown (message_rows supported room octets (header_of octets)) ≡ None
unfolding message_header
row_ok supported room octets h e = (unless_ok (first_shown (message_rows supported room octets (header_of octets))) (header_of octets) h e).0

err_row : (supported : List ℕ) (room : ℕ) (octets : List ℕ) (shown : AttrFault) → first_shown (message_rows supported room octets (header_of octets)) ≡ Some shown → message_header supported room octets ≡ Err shown
unfolding message_header
err_row supported room octets shown e = ap (λ (row : Option AttrFault). unless row (header_of octets)) e

ok_row : (supported : List ℕ) (room : ℕ) (octets : List ℕ) → first_shown (message_rows supported room octets (header_of octets)) ≡ None → message_header supported room octets ≡ Ok (header_of octets)
unfolding message_header
ok_row supported room octets e = ap (λ (row : Option AttrFault). unless row (header_of octets)) e

-- ---- places

-- What stands after an attribute is after its header.
behind_none : (attrs : List PlacedAttr) (at : ℕ) (octets : List ℕ) (place : ℕ) (left : List ℕ) → StandBefore attrs at octets place left → at ≤ place
behind_none [] at octets place left is = omega (arith, is.0)
behind_none (attr ∷ attrs) at octets place left is =
    let others = behind_none attrs (at + (header_of octets).length) (drop (header_of octets).length octets) place left is.3 in
    omega (arith, others)

behind_one : (attr : PlacedAttr) (attrs : List PlacedAttr) (at : ℕ) (octets : List ℕ) (place : ℕ) (left : List ℕ) → StandBefore (attr ∷ attrs) at octets place left → at + HEADER ≤ place
behind_one attr attrs at octets place left is =
    let others = behind_none attrs (at + (header_of octets).length) (drop (header_of octets).length octets) place left is.3 in
    omega (arith, others, is.0)

-- Room for one attribute less.
room_less : (supported : List ℕ) (room : ℕ) (attr : PlacedAttr) (attrs : List PlacedAttr) (left : List ℕ) → rows_behind supported (room - 1) attrs left ≡ rows_behind supported room (attr ∷ attrs) left
room_less supported room attr attrs left =
    let less : room - 1 - length attrs ≡ room - suc (length attrs) = omega arith in
    ap (λ (n : ℕ). message_rows supported n left (header_of left)) less

room_same : (supported : List ℕ) (room : ℕ) (left : List ℕ) → message_rows supported room left (header_of left) ≡ rows_behind supported room [] left
room_same supported room left =
    let same : room ≡ room - 0 = omega arith in
    ap (λ (n : ℕ). message_rows supported n left (header_of left)) same

-- ---- from the reading to the fault

-- Where there is a fault there are octets.
some_of : (supported : List ℕ) (room at : ℕ) (octets : List ℕ) (before : List PlacedAttr) (broken : Broken) → attributes supported room at octets ≡ (before, Some broken) → eqb (length octets) 0 ≡ false
some_of supported room at octets before broken e = by_test (eqb (length octets) 0) refl
  where
    no_fault : None ≡ Some broken → ⊥
    no_fault e = cc

    by_test : (b : Bool) → eqb (length octets) 0 ≡ b → b ≡ false
    by_test false is = refl
    by_test true is =
        let nothing : octets ≡ [] = nil_from_length octets (eqb-true (length octets) 0 is) in
        let none : ([], None) ≡ (before, Some broken) = sym (walk_none supported room at) ∙ sym (ap (λ (o : List ℕ). attributes supported room at o) nothing) ∙ e in
        absurd (no_fault (ap (λ (w : Walked). w.1) none))

are_some : (octets : List ℕ) → eqb (length octets) 0 ≡ false → 0 < length octets
are_some octets is = let differs = eqb-false (length octets) 0 is in omega (arith, differs)

-- A fault at once: no row is below it, here or after.
lowest_here : (supported : List ℕ) (room at : ℕ) (octets : List ℕ) (shown : AttrFault) → message_header supported room octets ≡ Err shown → (attrs : List PlacedAttr) (place : ℕ) (left : List ℕ) → StandBefore attrs at octets place left
    → AreNotBelow (at + shown.at) place (rows_behind supported room attrs left)
lowest_here supported room at octets shown e [] place left is =
    let low = (fault_is_lowest supported octets room 0 (header_of octets) shown).0 (row_err supported room octets shown e) in
    let here = moved at at (message_rows supported room octets (header_of octets)) shown.at low in
    let same = subst (λ (rows : List Row). AreNotBelow (at + shown.at) at rows) (room_same supported room octets) here in
    let placed-so = subst (λ (n : ℕ). AreNotBelow (at + shown.at) n (rows_behind supported room [] octets)) (sym is.0) same in
    subst (λ (o : List ℕ). AreNotBelow (at + shown.at) place (rows_behind supported room [] o)) (sym is.1) placed-so
lowest_here supported room at octets shown e (attr ∷ attrs) place left is =
    let behind = behind_one attr attrs at octets place left is in
    let within = fault_place supported room octets shown e in
    far (at + shown.at) place (rows_behind supported room (attr ∷ attrs) left) (omega (arith, behind, within))

stops_here : (supported : List ℕ) (room at : ℕ) (octets : List ℕ) (shown : AttrFault) → 0 < length octets → message_header supported room octets ≡ Err shown
    → IsFirstFault supported room at octets [] (record { at = at; octets = octets; fault = shown })
stops_here supported room at octets shown some e = record {
  behind = (refl, refl);
  some = some;
  row = ap first_shown (sym (room_same supported room octets)) ∙ row_err supported room octets shown e;
  lowest = λ attrs place left is left-some. lowest_here supported room at octets shown e attrs place left is;
}

-- An attribute without a fault, and a fault after it.
lowest_behind : (supported : List ℕ) (room at : ℕ) (octets : List ℕ) (h : Header) (others : List PlacedAttr) (broken : Broken) → message_header supported room octets ≡ Ok h → header_of octets ≡ h
    → IsFirstFault supported (room - 1) (at + h.length) (drop h.length octets) others broken → (attrs : List PlacedAttr) (place : ℕ) (left : List ℕ) → StandBefore attrs at octets place left → 0 < length left
    → AreNotBelow (broken.at + broken.fault.at) place (rows_behind supported room attrs left)
lowest_behind supported room at octets h others broken e header-is first [] place left is some =
    let none : first_shown (rows_behind supported room [] octets) ≡ None = ap first_shown (sym (room_same supported room octets)) ∙ row_ok supported room octets h e in
    let here = none_shows (broken.at + broken.fault.at) place (rows_behind supported room [] octets) none in
    subst (λ (o : List ℕ). AreNotBelow (broken.at + broken.fault.at) place (rows_behind supported room [] o)) (sym is.1) here
lowest_behind supported room at octets h others broken e header-is first (attr ∷ attrs) place left is some =
    let behind = subst (λ (x : Header). StandBefore attrs (at + x.length) (drop x.length octets) place left) header-is is.3 in
    subst (λ (rows : List Row). AreNotBelow (broken.at + broken.fault.at) place rows) (room_less supported room attr attrs left) (first.lowest attrs place left behind some)

goes_on : (supported : List ℕ) (room at : ℕ) (octets : List ℕ) (h : Header) (others : List PlacedAttr) (broken : Broken) → message_header supported room octets ≡ Ok h
    → IsFirstFault supported (room - 1) (at + h.length) (drop h.length octets) others broken → IsFirstFault supported room at octets (placed at h octets ∷ others) broken
goes_on supported room at octets h others broken e first =
    let m = message_good supported room octets h e in
    let Stands : Header → Type 0 = λ x. (HEADER ≤ x.length) × (x.length ≤ length octets) × (placed at h octets ≡ placed at x octets) × StandBefore others (at + x.length) (drop x.length octets) broken.at broken.octets in
    record {
      behind = subst Stands (sym m.good.is) (m.good.least, m.good.within, refl, first.behind);
      some = first.some;
      row = ap first_shown (sym (room_less supported room (placed at h octets) others broken.octets)) ∙ first.row;
      lowest = λ attrs place left is some. lowest_behind supported room at octets h others broken e m.good.is first attrs place left is some;
    }

first_by : (supported : List ℕ) (room at : ℕ) (octets : List ℕ) (before : List PlacedAttr) (broken : Broken) (said : Result Header AttrFault)
    → ((others : List PlacedAttr) (attr : PlacedAttr) → before ≡ attr ∷ others → (room at : ℕ) (octets : List ℕ) → attributes supported room at octets ≡ (others, Some broken) → IsFirstFault supported room at octets others broken)
    → message_header supported room octets ≡ said → attributes supported room at octets ≡ (before, Some broken) → IsFirstFault supported room at octets before broken
first_by supported room at octets before broken (Err shown) behind is e =
    let some = some_of supported room at octets before broken e in
    let here : Broken = record { at = at; octets = octets; fault = shown } in
    let joined : ([], Some here) ≡ (before, Some broken) = sym (walk_stops supported room at octets shown some is) ∙ e in
    let none : [] ≡ before = ap (λ (w : Walked). w.0) joined in
    let same : here ≡ broken = same_broken here broken (ap (λ (w : Walked). w.1) joined) in
    subst (λ (b : Broken). IsFirstFault supported room at octets before b) same (subst (λ (l : List PlacedAttr). IsFirstFault supported room at octets l here) none (stops_here supported room at octets shown (are_some octets some) is))
  where
    same_broken : (a b : Broken) → Some a ≡ Some b → a ≡ b
    same_broken a b e = cc
first_by supported room at octets before broken (Ok h) behind is e =
    let others : Walked = attributes supported (room - 1) (at + h.length) (drop h.length octets) in
    let joined : in_front (placed at h octets) others ≡ (before, Some broken) = sym (walk_more supported room at octets h is) ∙ e in
    let all : placed at h octets ∷ others.0 ≡ before = ap (λ (w : Walked). w.0) joined in
    let fault : others.1 ≡ Some broken = ap (λ (w : Walked). w.1) joined in
    let first = behind others.0 (placed at h octets) (sym all) (room - 1) (at + h.length) (drop h.length octets) (ap (λ (b : Option Broken). (others.0, b)) fault) in
    subst (λ (l : List PlacedAttr). IsFirstFault supported room at octets l broken) all (goes_on supported room at octets h others.0 broken is first)

-- A fault that the reading finds is the first.
pub first_forth : (supported : List ℕ) (before : List PlacedAttr) (broken : Broken) (room at : ℕ) (octets : List ℕ) → attributes supported room at octets ≡ (before, Some broken) → IsFirstFault supported room at octets before broken
first_forth supported [] broken room at octets e = first_by supported room at octets [] broken (message_header supported room octets) (λ others attr is. absurd (none_more attr others is)) refl e
  where
    none_more : (attr : PlacedAttr) (others : List PlacedAttr) → [] ≡ attr ∷ others → ⊥
    none_more attr others e = cc
first_forth supported (first ∷ before) broken room at octets e =
    first_by supported room at octets (first ∷ before) broken (message_header supported room octets)
    (λ others attr is room at octets read. subst (λ (l : List PlacedAttr). IsFirstFault supported room at octets l broken) (tails first attr before others is)
    (first_forth supported before broken room at octets (read ∙ ap (λ (l : List PlacedAttr). (l, Some broken)) (sym (tails first attr before others is))))) refl e
  where
    tails : (x y : PlacedAttr) (xs ys : List PlacedAttr) → x ∷ xs ≡ y ∷ ys → xs ≡ ys
    tails x y xs ys e = cc

-- ---- from the fault to the reading

-- The first fault is found.
pub first_back : (supported : List ℕ) (before : List PlacedAttr) (broken : Broken) (room at : ℕ) (octets : List ℕ) → IsFirstFault supported room at octets before broken → attributes supported room at octets ≡ (before, Some broken)
first_back supported [] broken room at octets first =
    let same : broken.octets ≡ octets = first.behind.1 in
    let row : first_shown (rows_behind supported room [] octets) ≡ Some broken.fault = ap (λ (o : List ℕ). first_shown (rows_behind supported room [] o)) (sym same) ∙ first.row in
    let is = err_row supported room octets broken.fault (ap first_shown (room_same supported room octets) ∙ row) in
    let some : 0 < length octets = subst (λ (o : List ℕ). 0 < length o) same first.some in
    walk_stops supported room at octets broken.fault (some_octets octets some) is
    ∙ ap (λ (n : ℕ). ([], Some (record { at = n; octets = octets; fault = broken.fault }))) (sym first.behind.0)
    ∙ ap (λ (o : List ℕ). ([], Some (record { at = broken.at; octets = o; fault = broken.fault }))) (sym same)
first_back supported (attr ∷ before) broken room at octets first =
    let h : Header = header_of octets in
    let least = first.behind.0 in
    let within = first.behind.1 in
    let far-off = behind_one attr before at octets broken.at broken.octets first.behind in
    let low = first.lowest [] at octets (refl, refl) (omega (arith, least, within)) in
    let none = none_below (broken.at + broken.fault.at) at (rows_behind supported room [] octets) (omega (arith, far-off)) (small supported (room - 0) octets h) low in
    let is = ok_row supported room octets (ap first_shown (room_same supported room octets) ∙ none) in
    let others : IsFirstFault supported (room - 1) (at + h.length) (drop h.length octets) before broken = record {
      behind = first.behind.3;
      some = first.some;
      row = ap first_shown (room_less supported room attr before broken.octets) ∙ first.row;
      lowest = λ attrs place left stand some. subst (λ (rows : List Row). AreNotBelow (broken.at + broken.fault.at) place rows) (sym (room_less supported room attr attrs left))
          (first.lowest (placed at h octets ∷ attrs) place left (least, within, refl, stand) some);
    } in
    walk_more supported room at octets h is ∙ ap (λ (w : Walked). in_front (placed at h octets) w) (first_back supported before broken (room - 1) (at + h.length) (drop h.length octets) others)
    ∙ ap (λ (p : PlacedAttr). (p ∷ before, Some broken)) (sym first.behind.2)

-- ---- a message

err_with_id : (octets : List ℕ) (read : Result (List PlacedAttr) PaFault) (fault : PaFault) → with_id octets read ≡ Err fault → read ≡ Err fault
err_with_id octets (Ok attrs) fault e = absurd cc
err_with_id octets (Err other) fault e = cc

-- A fault after attributes, and the attributes before it.
err_kept : (supported octets : List ℕ) (walked : Walked) (broken : Option Broken) (fault : PaFault) → walked.1 ≡ broken → kept supported octets walked.0 broken ≡ Err fault
    → (first : Broken) × (walked ≡ (walked.0, Some first)) × (fault ≡ fault_of octets (is_answered walked.0) first)
err_kept supported octets walked None fault is e = absurd cc
err_kept supported octets walked (Some broken) fault is e = (broken, ap (λ (b : Option Broken). (walked.0, b)) is, cc)

fault_by : (supported octets : List ℕ) (row : Option AttrFault) (fault : PaFault) → first_shown (start_rows octets) ≡ row → unless_start row supported octets ≡ Err fault → IsFault supported octets fault
fault_by supported octets (Some shown) fault is e = inl (record { shown = shown; row = is; is = cc })
fault_by supported octets None fault is e =
    let walked : Walked = attributes supported MOST_ATTRIBUTES MESSAGE_HEADER (drop MESSAGE_HEADER octets) in
    let k = err_kept supported octets walked walked.1 fault refl (err_with_id octets (attrs_of supported octets) fault e) in
    inr (record { good = is; before = walked.0; broken = k.0; first = first_forth supported walked.0 k.0 MOST_ATTRIBUTES MESSAGE_HEADER (drop MESSAGE_HEADER octets) k.1; is = k.2 })

fault_back : (supported octets : List ℕ) (fault : PaFault) → IsFault supported octets fault → message_of supported octets ≡ Err fault
unfolding message_of
fault_back supported octets fault (inl header) = ap (λ (row : Option AttrFault). unless_start row supported octets) header.row ∙ ap (λ (f : PaFault). Err f) (sym header.is)
fault_back supported octets fault (inr attrs) =
    let read = first_back supported attrs.before attrs.broken MOST_ATTRIBUTES MESSAGE_HEADER (drop MESSAGE_HEADER octets) attrs.first in
    ap (λ (row : Option AttrFault). unless_start row supported octets) attrs.good ∙ ap (λ (w : Walked). with_id octets (kept supported octets w.0 w.1)) read ∙ ap (λ (f : PaFault). Err f) (sym attrs.is)

fault_forth : (supported octets : List ℕ) (fault : PaFault) → message_of supported octets ≡ Err fault → IsFault supported octets fault
unfolding message_of
fault_forth supported octets fault e = fault_by supported octets (first_shown (start_rows octets)) fault refl e

pub fault_is_first : FaultIsFirst
fault_is_first supported octets fault = (fault_forth supported octets fault, fault_back supported octets fault)

-- ---- a stream

pub stream_shown : (octets : List ℕ) (fault : AttrFault) → stream_header octets ≡ Err fault → first_shown (header_rows MOST_OCTETS (header_of octets)) ≡ Some fault
unfolding stream_header
stream_shown octets fault e = unless_err (first_shown (header_rows MOST_OCTETS (header_of octets))) (header_of octets) fault e

pub stream_err : (octets : List ℕ) (fault : AttrFault) → first_shown (header_rows MOST_OCTETS (header_of octets)) ≡ Some fault → stream_header octets ≡ Err fault
unfolding stream_header
stream_err octets fault e = ap (λ (row : Option AttrFault). unless row (header_of octets)) e

pub bad_is_fault : BadIsFault
bad_is_fault octets fault = (
  λ e. let b = bad_is octets fault e in (b.0, stream_shown octets fault b.1),
  λ (long, row). front_bad octets fault long (stream_err octets fault row),
)
