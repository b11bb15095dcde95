-- What a book holds after a change of one record.
use Rattle.std.proofs.Common.{◌≡◌, ℕ, ◌+◌, ◌-◌, ◌<◌, ◌≤◌, eqb, leb, ltb, cond, not, Bool, true, false, Option, Some, None, List, [], ◌∷◌, ◌++◌, length, suc, refl, sym, ap, ◌∙◌, subst, arith, length-append, leb-false, ltb-false, eqb-true, ne_eqb}
use Rattle.std.specs.Prelude.{is_some}
use Rattle.std.specs.List.Sorted.{IsStrictlyIncreasing}
use Rattle.std.proofs.lemmas.Bool.{cond-false, le-ltb, or_from, or_parts, eqb-false}
use Rattle.std.proofs.lemmas.List.{map-append}
use Rattle.swima_model.specs.declared.event.Action.TheVariants.{Creation, Deletion, Alteration}
use Rattle.swima_model.specs.declared.record.Content.{Content}
use Rattle.swima_model.specs.declared.record.Record.{Record}
use Rattle.swima_model.specs.InOrder.{ids}
use Rattle.swima_model.specs.Live.{live, record_of}
use Rattle.swima_model.specs.Size.{MOST_RECORDS, MOST_RECORDS_OCTETS, are_large, content_octets, records_octets}
use Rattle.event_log.specs.Log.{Log, pushed}
use Rattle.collector_core.specs.declared.chronicle.Entry.{Entry}
use Rattle.collector_core.specs.declared.chronicle.Entry.TheVariants as entry
use Rattle.collector_core.specs.declared.error.BookError.{BookError}
use Rattle.collector_core.specs.declared.error.BookError.TheVariants as refused
use Rattle.swima_model.specs.Places.{IsPlaceOf}
use Rattle.collector_core.specs.Book.{IsBook, IsExchange}
use Rattle.collector_core.specs.Refusals.{LAST, create_refusal, alter_refusal, delete_refusal, others_than}
use Rattle.collector_core.specs.Places.{Puts, Takes}
use Rattle.collector_core.specs.Standing.{BookView, book_after, creation, alteration, deletion, IsDeletion}
use Rattle.swima_model.proofs.Places.{Climbs, climbs, climbed, climbs_push, none_before}
use Rattle.collector_core.proofs.Places.{climbs_exchanged, climbs_removed, live_created, live_altered, live_deleted, found_here, others_are, octets_append, octets_seam}

-- ---- what is not refused

pub passes : (test : Bool) (error : BookError) (rest : Option BookError) → cond test (Some error) rest ≡ None → (test ≡ false) × (rest ≡ None)
passes true error rest none = absurd cc
passes false error rest none = (refl, none)

pub record Allowed (last next : ℕ) (records : List Record) (content : Content) : Type 0 where
  pub eids : last ≡ LAST → ⊥
  pub ids : next ≡ LAST → ⊥
  pub few : length records < MOST_RECORDS
  pub small : records_octets records + content_octets content ≤ MOST_RECORDS_OCTETS

pub create_allowed : (last next : ℕ) (records : List Record) (content : Content) → create_refusal last next records content ≡ None → Allowed last next records content
create_allowed last next records content none =
    let one = passes (eqb last LAST) (refused.EidsSpent last) _ none in
    let two = passes (eqb next LAST) (refused.IdsSpent next) _ one.1 in
    let three = passes (leb MOST_RECORDS (length records)) (refused.RecordsFull MOST_RECORDS) _ two.1 in
    let four = passes (ltb MOST_RECORDS_OCTETS (records_octets records + content_octets content)) (refused.BytesFull (records_octets records) (content_octets content)) _ three.1 in
    record {
      eids = eqb-false last LAST one.0;
      ids = eqb-false next LAST two.0;
      few = leb-false MOST_RECORDS (length records) three.0;
      small = ltb-false MOST_RECORDS_OCTETS (records_octets records + content_octets content) four.0;
    }

pub not_large : (rs : List Record) → length rs ≤ MOST_RECORDS → records_octets rs ≤ MOST_RECORDS_OCTETS → are_large rs ≡ false
not_large rs few small = or_from (ltb MOST_RECORDS (length rs)) (ltb MOST_RECORDS_OCTETS (records_octets rs)) (le-ltb MOST_RECORDS (length rs) few) (le-ltb MOST_RECORDS_OCTETS (records_octets rs) small)

pub large_parts : (rs : List Record) → are_large rs ≡ false → (length rs ≤ MOST_RECORDS) × (records_octets rs ≤ MOST_RECORDS_OCTETS)
large_parts rs fits =
    let parts = or_parts (ltb MOST_RECORDS (length rs)) (ltb MOST_RECORDS_OCTETS (records_octets rs)) fits in
    (ltb-false MOST_RECORDS (length rs) parts.0, ltb-false MOST_RECORDS_OCTETS (records_octets rs) parts.1)

-- ---- a new record

pub add_invariant : (last next octets given : ℕ) (rs new : List Record) (copy content : Content) → IsBook next octets rs → create_refusal last next rs content ≡ None
    → copy ≡ content → given ≡ content_octets copy → new ≡ rs ++ record { id = next; content = copy } ∷ [] → IsBook (next + 1) (octets + given) new
add_invariant last next octets given rs new copy content is none same counted whole =
    let allowed = create_allowed last next rs content none in
    let size : given ≡ content_octets content = counted ∙ ap content_octets same in
    let one : records_octets new ≡ records_octets rs + (0 + content_octets copy) = ap records_octets whole ∙ octets_append rs (record { id = next; content = copy } ∷ []) in
    let named : ids new ≡ ids rs ++ next ∷ [] = ap ids whole ∙ map-append (λ (r : Record). r.id) rs (record { id = next; content = copy } ∷ []) in
    record {
      rising = climbed (ids new ++ (next + 1) ∷ []) (subst (λ (ns : List ℕ). Climbs (ns ++ (next + 1) ∷ [])) (sym named) (climbs_push (ids rs) next (next + 1) (climbs (ids rs ++ next ∷ []) is.rising) (omega arith)));
      counted = omega (arith, is.counted, counted, one);
      fits = not_large new (omega (arith, ap length whole, length-append rs (record { id = next; content = copy } ∷ []), allowed.few)) (omega (arith, one, size, counted, allowed.small));
    }

pub add_after : (book : BookView) (octets : ℕ) (new : List Record) (stamp : List ℕ) (copy told content : Content) (log : Log) (eid : ℕ) → IsBook book.next octets book.records
    → copy ≡ content → told ≡ content → new ≡ book.records ++ record { id = book.next; content = copy } ∷ [] → eid ≡ book.log.last + 1
    → log ≡ pushed book.log (record { eid = eid; stamp = stamp; action = Creation; subject = record { id = book.next; content = told } })
    → record { epoch = book.epoch; next = book.next + 1; records = new; log = log } ≡ book_after book (entry.Event (creation book.log.last book.next stamp content))
add_after book octets new stamp copy told content log eid is same same_told whole next logged =
    let live_is : live book.records (creation book.log.last book.next stamp content ∷ []) ≡ book.records ++ record { id = book.next; content = content } ∷ [] =
    live_created book.records (creation book.log.last book.next stamp content) (climbs (ids book.records ++ book.next ∷ []) is.rising) refl in
    let records_are : new ≡ live book.records (creation book.log.last book.next stamp content ∷ []) =
    whole ∙ ap (λ (c : Content). book.records ++ record { id = book.next; content = c } ∷ []) same ∙ sym live_is in
    let log_is : log ≡ pushed book.log (creation book.log.last book.next stamp content) =
    logged
    ∙ ap (λ (n : ℕ). pushed book.log (record { eid = n; stamp = stamp; action = Creation; subject = record { id = book.next; content = told } })) next
    ∙ ap (λ (c : Content). pushed book.log (creation book.log.last book.next stamp c)) same_told in
    ap (λ (rs : List Record). record { epoch = book.epoch; next = book.next + 1; records = rs; log = log }) records_are
    ∙ ap (λ (l : Log). record { epoch = book.epoch; next = book.next + 1; records = live book.records (creation book.log.last book.next stamp content ∷ []); log = l }) log_is

-- ---- what a book finds

pub held_is : (next octets id place : ℕ) (rs : List Record) → IsBook next octets rs → (at : IsPlaceOf rs id (Some place)) → record_of id rs ≡ Some at.1
held_is next octets id place rs is at =
    let up : Climbs (ids (at.0 ++ at.1 ∷ at.2) ++ next ∷ []) = climbs (ids (at.0 ++ at.1 ∷ at.2) ++ next ∷ []) (subst (λ (l : List Record). IsStrictlyIncreasing (ids l ++ next ∷ [])) at.3 is.rising) in
    ap (record_of id) at.3 ∙ ap (λ (n : ℕ). record_of n (at.0 ++ at.1 ∷ at.2)) (sym at.5) ∙ found_here at.0 at.1 at.2 next up

-- The other records are those before and after its place.
pub others_at : (next octets id place : ℕ) (rs : List Record) → IsBook next octets rs → (at : IsPlaceOf rs id (Some place)) → others_than id rs ≡ at.0 ++ at.2
others_at next octets id place rs is at =
    let up : Climbs (ids (at.0 ++ at.1 ∷ at.2) ++ next ∷ []) = climbs (ids (at.0 ++ at.1 ∷ at.2) ++ next ∷ []) (subst (λ (l : List Record). IsStrictlyIncreasing (ids l ++ next ∷ [])) at.3 is.rising) in
    ap (others_than id) at.3 ∙ ap (λ (n : ℕ). others_than n (at.0 ++ at.1 ∷ at.2)) (sym at.5) ∙ others_are at.0 at.1 at.2 next up

found_step : (b : Bool) (id : ℕ) (r : Record) (rs : List Record) (held : Record) → eqb r.id id ≡ b → cond b (Some r) (record_of id rs) ≡ Some held
    → (record_of id rs ≡ Some held → (place : ℕ) × IsPlaceOf rs id (Some place)) → (place : ℕ) × IsPlaceOf (r ∷ rs) id (Some place)
found_step true id r rs held here is later = (0, ([], r, rs, refl, refl, eqb-true r.id id here))
found_step false id r rs held here is later =
    let at = later is in
    (suc at.0, (r ∷ at.1.0, at.1.1, at.1.2, ap (λ (l : List Record). r ∷ l) at.1.3, ap suc at.1.4, at.1.5))

-- A record that is found stands among the records.
pub found_place : (id : ℕ) (rs : List Record) (held : Record) → record_of id rs ≡ Some held → (place : ℕ) × IsPlaceOf rs id (Some place)
found_place id [] held is = absurd cc
found_place id (r ∷ rs) held is = found_step (eqb r.id id) id r rs held refl is (λ e. found_place id rs held e)

-- The octets of the other records.
pub beside : (next octets id place : ℕ) (rs : List Record) (held : Record) → IsBook next octets rs → IsPlaceOf rs id (Some place) → record_of id rs ≡ Some held
    → octets - content_octets held.content ≡ records_octets (others_than id rs)
beside next octets id place rs held is at found =
    let others : others_than id rs ≡ at.0 ++ at.2 = others_at next octets id place rs is at in
    let whole : records_octets rs ≡ records_octets (at.0 ++ at.2) + content_octets at.1.content = ap records_octets at.3 ∙ octets_seam at.0 at.1 at.2 in
    let same : content_octets held.content ≡ content_octets at.1.content = ap (λ (r : Record). content_octets r.content) (some_same held at.1 (sym found ∙ held_is next octets id place rs is at)) in
    omega (arith, is.counted, whole, same, ap records_octets others)
  where
    some_same : (a b : Record) → Some a ≡ Some b → a ≡ b
    some_same a b e = cc

pub enough : (next octets id place : ℕ) (rs : List Record) (held : Record) → IsBook next octets rs → IsPlaceOf rs id (Some place) → record_of id rs ≡ Some held → content_octets held.content ≤ octets
enough next octets id place rs held is at found =
    let whole : records_octets rs ≡ records_octets (at.0 ++ at.2) + content_octets at.1.content = ap records_octets at.3 ∙ octets_seam at.0 at.1 at.2 in
    let same : content_octets held.content ≡ content_octets at.1.content = ap (λ (r : Record). content_octets r.content) (some_same held at.1 (sym found ∙ held_is next octets id place rs is at)) in
    omega (arith, is.counted, whole, same)
  where
    some_same : (a b : Record) → Some a ≡ Some b → a ≡ b
    some_same a b e = cc

-- ---- the record of an identifier

-- Where it stands.
pub put_at : (id : ℕ) (content : Content) (rs new : List Record) (puts : Puts id content rs new) → IsPlaceOf rs id (Some (length puts.0))
put_at id content rs new puts = (puts.0, puts.1, puts.2, puts.3, refl, puts.4)

pub taken_at : (id : ℕ) (taken : Record) (rs new : List Record) (takes : Takes id rs (Some taken) new) → IsPlaceOf rs id (Some (length takes.0))
taken_at id taken rs new takes = (takes.0, taken, takes.1, takes.2, refl, takes.3)

pub replace_invariant : (next octets now id : ℕ) (rs new : List Record) (copy content : Content) → IsBook next octets rs → IsExchange rs id content now → copy ≡ content → Puts id copy rs new → IsBook next now new
unfolding put_at
replace_invariant next octets now id rs new copy content is exchange same puts =
    let at = put_at id copy rs new puts in
    let whole : rs ≡ at.0 ++ at.1 ∷ at.2 = at.3 in
    let new_is : new ≡ at.0 ++ record { id = at.1.id; content = copy } ∷ at.2 = puts.5 in
    let up : Climbs (ids (at.0 ++ at.1 ∷ at.2) ++ next ∷ []) = climbs (ids (at.0 ++ at.1 ∷ at.2) ++ next ∷ []) (subst (λ (l : List Record). IsStrictlyIncreasing (ids l ++ next ∷ [])) whole is.rising) in
    let counted : records_octets new ≡ records_octets (at.0 ++ at.2) + content_octets copy = ap records_octets new_is ∙ octets_seam at.0 (record { id = at.1.id; content = copy }) at.2 in
    let others : records_octets (others_than id rs) ≡ records_octets (at.0 ++ at.2) = ap records_octets (others_at next octets id (length at.0) rs is at) in
    let size : content_octets copy ≡ content_octets content = ap content_octets same in
    let is_now : now ≡ records_octets new = omega (arith, counted, size, others, exchange.1) in
    let long : length new ≡ length rs =
    ap length new_is ∙ length-append at.0 (record { id = at.1.id; content = copy } ∷ at.2) ∙ sym (length-append at.0 (at.1 ∷ at.2)) ∙ sym (ap length whole) in
    record {
      rising = subst (λ (l : List Record). IsStrictlyIncreasing (ids l ++ next ∷ [])) (sym new_is)
          (climbed (ids (at.0 ++ record { id = at.1.id; content = copy } ∷ at.2) ++ next ∷ []) (climbs_exchanged at.0 at.1 at.2 next up (record { id = at.1.id; content = copy }) refl));
      counted = is_now;
      fits = not_large new (omega (arith, long, (large_parts rs is.fits).0)) (omega (arith, is_now, exchange.0));
    }

pub replace_after : (book : BookView) (octets : ℕ) (new : List Record) (stamp : List ℕ) (copy told content : Content) (log : Log) (eid id : ℕ) → IsBook book.next octets book.records
    → copy ≡ content → told ≡ content → Puts id copy book.records new → eid ≡ book.log.last + 1
    → log ≡ pushed book.log (record { eid = eid; stamp = stamp; action = Alteration; subject = record { id = id; content = told } })
    → record { epoch = book.epoch; next = book.next; records = new; log = log } ≡ book_after book (entry.Event (alteration book.log.last stamp id content))
unfolding put_at
replace_after book octets new stamp copy told content log eid id is same same_told puts next logged =
    let at = put_at id copy book.records new puts in
    let up : Climbs (ids (at.0 ++ at.1 ∷ at.2) ++ book.next ∷ []) = climbs (ids (at.0 ++ at.1 ∷ at.2) ++ book.next ∷ []) (subst (λ (l : List Record). IsStrictlyIncreasing (ids l ++ book.next ∷ [])) at.3 is.rising) in
    let live_is : live book.records (alteration book.log.last stamp id content ∷ []) ≡ at.0 ++ record { id = id; content = content } ∷ at.2 =
    ap (λ (l : List Record). live l (alteration book.log.last stamp id content ∷ [])) at.3 ∙ live_altered at.0 at.1 at.2 book.next up (alteration book.log.last stamp id content) (sym at.5) refl in
    let records_are : new ≡ live book.records (alteration book.log.last stamp id content ∷ []) =
    puts.5
    ∙ ap (λ (n : ℕ). at.0 ++ record { id = n; content = copy } ∷ at.2) at.5
    ∙ ap (λ (c : Content). at.0 ++ record { id = id; content = c } ∷ at.2) same ∙ sym live_is in
    let log_is : log ≡ pushed book.log (alteration book.log.last stamp id content) =
    logged
    ∙ ap (λ (n : ℕ). pushed book.log (record { eid = n; stamp = stamp; action = Alteration; subject = record { id = id; content = told } })) next
    ∙ ap (λ (c : Content). pushed book.log (alteration book.log.last stamp id c)) same_told in
    ap (λ (rs : List Record). record { epoch = book.epoch; next = book.next; records = rs; log = log }) records_are
    ∙ ap (λ (l : Log). record { epoch = book.epoch; next = book.next; records = live book.records (alteration book.log.last stamp id content ∷ []); log = l }) log_is

pub remove_invariant : (next octets now id : ℕ) (rs new : List Record) (taken : Record) → IsBook next octets rs → Takes id rs (Some taken) new → now ≡ records_octets (others_than id rs) → IsBook next now new
unfolding taken_at
remove_invariant next octets now id rs new taken is takes counted =
    let at = taken_at id taken rs new takes in
    let new_is : new ≡ at.0 ++ at.2 = takes.4 in
    let up : Climbs (ids (at.0 ++ at.1 ∷ at.2) ++ next ∷ []) = climbs (ids (at.0 ++ at.1 ∷ at.2) ++ next ∷ []) (subst (λ (l : List Record). IsStrictlyIncreasing (ids l ++ next ∷ [])) at.3 is.rising) in
    let whole : records_octets rs ≡ records_octets (at.0 ++ at.2) + content_octets at.1.content = ap records_octets at.3 ∙ octets_seam at.0 at.1 at.2 in
    let others : now ≡ records_octets new = counted ∙ ap records_octets (others_at next octets id (length at.0) rs is at) ∙ sym (ap records_octets new_is) in
    let long : length new ≤ length rs = omega (arith, ap length new_is, length-append at.0 at.2, length-append at.0 (at.1 ∷ at.2), ap length at.3) in
    record {
      rising = subst (λ (l : List Record). IsStrictlyIncreasing (ids l ++ next ∷ [])) (sym new_is) (climbed (ids (at.0 ++ at.2) ++ next ∷ []) (climbs_removed at.0 at.1 at.2 next up));
      counted = others;
      fits = not_large new (omega (arith, long, (large_parts rs is.fits).0)) (omega (arith, whole, ap records_octets new_is, (large_parts rs is.fits).1));
    }

pub remove_after : (book : BookView) (octets : ℕ) (new : List Record) (stamp : List ℕ) (taken : Record) (log : Log) (eid id : ℕ) → IsBook book.next octets book.records
    → Takes id book.records (Some taken) new → eid ≡ book.log.last + 1
    → log ≡ pushed book.log (record { eid = eid; stamp = stamp; action = Deletion; subject = taken })
    → (made : Entry) × IsDeletion book.log.last book.records stamp id made × (record { epoch = book.epoch; next = book.next; records = new; log = log } ≡ book_after book made)
unfolding taken_at
remove_after book octets new stamp taken log eid id is takes next logged =
    let at = taken_at id taken book.records new takes in
    let up : Climbs (ids (at.0 ++ taken ∷ at.2) ++ book.next ∷ []) = climbs (ids (at.0 ++ taken ∷ at.2) ++ book.next ∷ []) (subst (λ (l : List Record). IsStrictlyIncreasing (ids l ++ book.next ∷ [])) at.3 is.rising) in
    let live_is : live book.records (deletion book.log.last stamp taken ∷ []) ≡ at.0 ++ at.2 =
    ap (λ (l : List Record). live l (deletion book.log.last stamp taken ∷ [])) at.3 ∙ live_deleted at.0 taken at.2 book.next up (deletion book.log.last stamp taken) refl refl in
    let log_is : log ≡ pushed book.log (deletion book.log.last stamp taken) =
    logged ∙ ap (λ (n : ℕ). pushed book.log (record { eid = n; stamp = stamp; action = Deletion; subject = taken })) next in (
      entry.Event (deletion book.log.last stamp taken),
      (taken, held_is book.next octets id (length at.0) book.records is at, refl),
      ap (λ (rs : List Record). record { epoch = book.epoch; next = book.next; records = rs; log = log }) (takes.4 ∙ sym live_is)
          ∙ ap (λ (l : Log). record { epoch = book.epoch; next = book.next; records = live book.records (deletion book.log.last stamp taken ∷ []); log = l }) log_is,
    )

-- ---- what is refused

pub place_allowed : (last next octets id place : ℕ) (rs : List Record) → IsBook next octets rs → (last ≡ LAST → ⊥) → IsPlaceOf rs id (Some place) → delete_refusal last rs id ≡ None
place_allowed last next octets id place rs is more at =
    cond-false (eqb last LAST) (Some (refused.EidsSpent last)) (cond (not (is_some (record_of id rs))) (Some (refused.UnknownRecord id)) None) (ne_eqb last LAST more)
    ∙ ap (λ (o : Option Record). cond (not (is_some o)) (Some (refused.UnknownRecord id)) None) (held_is next octets id place rs is at)

pub fresh : (next octets : ℕ) (rs : List Record) → IsBook next octets rs → record_of next rs ≡ None
fresh next octets rs is = none_before next rs [] (climbs (ids rs ++ next ∷ []) is.rising)

-- There is a further event identifier.
pub more_eids : (last id : ℕ) (rs : List Record) → delete_refusal last rs id ≡ None → last ≡ LAST → ⊥
more_eids last id rs none = eqb-false last LAST (passes (eqb last LAST) (refused.EidsSpent last) _ none).0

-- The refusals of an alteration are those of a deletion, and then that of too many octets.
pub alter_is : (last id : ℕ) (rs : List Record) (content : Content) → delete_refusal last rs id ≡ None
    → alter_refusal last rs id content ≡ cond (ltb MOST_RECORDS_OCTETS (records_octets (others_than id rs) + content_octets content)) (Some (refused.BytesFull (records_octets (others_than id rs)) (content_octets content))) None
alter_is last id rs content none =
    let one = passes (eqb last LAST) (refused.EidsSpent last) _ none in
    let two = passes (not (is_some (record_of id rs))) (refused.UnknownRecord id) None one.1 in
    cond-false (eqb last LAST) (Some (refused.EidsSpent last)) _ one.0 ∙ cond-false (not (is_some (record_of id rs))) (Some (refused.UnknownRecord id)) _ two.0

pub alter_from : (last id : ℕ) (rs : List Record) (content : Content) (error : BookError) → delete_refusal last rs id ≡ Some error → alter_refusal last rs id content ≡ Some error
alter_from last id rs content error is = both (eqb last LAST) (not (is_some (record_of id rs))) (refused.EidsSpent last) (refused.UnknownRecord id) _ is
  where
    both : (p q : Bool) (a b : BookError) (rest : Option BookError) → cond p (Some a) (cond q (Some b) None) ≡ Some error → cond p (Some a) (cond q (Some b) rest) ≡ Some error
    both true q a b rest is = is
    both false true a b rest is = is
    both false false a b rest is = absurd cc
