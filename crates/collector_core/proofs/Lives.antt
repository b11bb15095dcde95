-- What a book holds after a change of its live records.
use Rattle.std.proofs.Common.{◌≡◌, ℕ, ◌+◌, ◌-◌, ◌≤◌, Some, None, List, [], ◌∷◌, ◌++◌, refl, sym, ap, ◌∙◌, subst, arith}
use Rattle.swima_model.specs.declared.event.Action.TheVariants.{Creation, Deletion, Alteration}
use Rattle.swima_model.specs.declared.record.Content.{Content}
use Rattle.swima_model.specs.declared.record.Record.{Record}
use Rattle.swima_model.specs.Live.{record_of}
use Rattle.swima_model.specs.Size.{MOST_RECORDS_OCTETS, content_octets, records_octets}
use Rattle.event_log.specs.Log.{Log, pushed}
use Rattle.collector_core.specs.declared.chronicle.Entry.{Entry}
use Rattle.collector_core.specs.declared.chronicle.Entry.TheVariants as entry
use Rattle.collector_core.specs.Book.{IsBook, IsExchange}
use Rattle.collector_core.specs.Refusals.{LAST, create_refusal, delete_refusal, others_than}
use Rattle.collector_core.specs.Places.{LiveView, Puts, Takes}
use Rattle.collector_core.specs.Standing.{BookView, IsDeletion, alteration, book_after, creation}
use Rattle.collector_core.proofs.Changing.{add_after, add_invariant, beside, enough, found_place, large_parts, place_allowed, remove_after, remove_invariant, replace_after, replace_invariant}

-- ---- a new record

pub add_live : (last octets given : ℕ) (old new : LiveView) (copy content : Content) → IsBook old.next octets old.records → create_refusal last old.next old.records content ≡ None
    → copy ≡ content → given ≡ content_octets copy → new ≡ record { next = old.next + 1; records = old.records ++ record { id = old.next; content = copy } ∷ [] } → IsBook new.next (octets + given) new.records
add_live last octets given old new copy content is none same counted whole =
    subst (λ (live : LiveView). IsBook live.next (octets + given) live.records) (sym whole)
    (add_invariant last old.next octets given old.records (old.records ++ record { id = old.next; content = copy } ∷ []) copy content is none same counted refl)

pub add_now : (book : BookView) (octets : ℕ) (new : LiveView) (stamp : List ℕ) (copy told content : Content) (log : Log) (eid id : ℕ) → IsBook book.next octets book.records
    → copy ≡ content → told ≡ content → new ≡ record { next = book.next + 1; records = book.records ++ record { id = book.next; content = copy } ∷ [] } → eid ≡ book.log.last + 1 → id ≡ book.next
    → log ≡ pushed book.log (record { eid = eid; stamp = stamp; action = Creation; subject = record { id = id; content = told } })
    → record { epoch = book.epoch; next = new.next; records = new.records; log = log } ≡ book_after book (entry.Event (creation book.log.last book.next stamp content))
add_now book octets new stamp copy told content log eid id is same same_told whole next named logged =
    ap (λ (live : LiveView). record { epoch = book.epoch; next = live.next; records = live.records; log = log }) whole
    ∙ add_after book octets (book.records ++ record { id = book.next; content = copy } ∷ []) stamp copy told content log eid is same same_told refl next
    (logged ∙ ap (λ (n : ℕ). pushed book.log (record { eid = eid; stamp = stamp; action = Creation; subject = record { id = n; content = told } })) named)

-- ---- another content

pub put_live : (octets now id : ℕ) (old new : LiveView) (copy content : Content) → IsBook old.next octets old.records → IsExchange old.records id content now → copy ≡ content
    → Puts id copy old.records new.records → new.next ≡ old.next → IsBook new.next now new.records
put_live octets now id old new copy content is exchange same puts still =
    subst (λ (next : ℕ). IsBook next now new.records) (sym still) (replace_invariant old.next octets now id old.records new.records copy content is exchange same puts)

pub put_now : (book : BookView) (octets : ℕ) (new : LiveView) (stamp : List ℕ) (copy told content : Content) (log : Log) (eid id : ℕ) → IsBook book.next octets book.records
    → copy ≡ content → told ≡ content → Puts id copy book.records new.records → new.next ≡ book.next → eid ≡ book.log.last + 1
    → log ≡ pushed book.log (record { eid = eid; stamp = stamp; action = Alteration; subject = record { id = id; content = told } })
    → record { epoch = book.epoch; next = new.next; records = new.records; log = log } ≡ book_after book (entry.Event (alteration book.log.last stamp id content))
put_now book octets new stamp copy told content log eid id is same same_told puts still next logged =
    ap (λ (n : ℕ). record { epoch = book.epoch; next = n; records = new.records; log = log }) still
    ∙ replace_after book octets new.records stamp copy told content log eid id is same same_told puts next logged

-- ---- one record fewer

pub take_live : (octets now id : ℕ) (old new : LiveView) (taken : Record) → IsBook old.next octets old.records → Takes id old.records (Some taken) new.records → new.next ≡ old.next
    → now ≡ records_octets (others_than id old.records) → IsBook new.next now new.records
take_live octets now id old new taken is takes still counted =
    subst (λ (next : ℕ). IsBook next now new.records) (sym still) (remove_invariant old.next octets now id old.records new.records taken is takes counted)

pub take_now : (book : BookView) (octets : ℕ) (new : LiveView) (stamp : List ℕ) (taken : Record) (log : Log) (eid id : ℕ) → IsBook book.next octets book.records
    → Takes id book.records (Some taken) new.records → new.next ≡ book.next → eid ≡ book.log.last + 1
    → log ≡ pushed book.log (record { eid = eid; stamp = stamp; action = Deletion; subject = taken })
    → (made : Entry) × IsDeletion book.log.last book.records stamp id made × (record { epoch = book.epoch; next = new.next; records = new.records; log = log } ≡ book_after book made)
take_now book octets new stamp taken log eid id is takes still next logged =
    let after = remove_after book octets new.records stamp taken log eid id is takes next logged in
    (after.0, after.1, ap (λ (n : ℕ). record { epoch = book.epoch; next = n; records = new.records; log = log }) still ∙ after.2)

-- ---- a record that is found

module _ (next octets id : ℕ) (rs : List Record) (held : Record) (is : IsBook next octets rs) (found : record_of id rs ≡ Some held) where
  pub octets_enough : content_octets held.content ≤ octets
  octets_enough = let at = found_place id rs held found in enough next octets id at.0 rs held is at.1 found

  pub octets_others : octets - content_octets held.content ≡ records_octets (others_than id rs)
  octets_others = let at = found_place id rs held found in beside next octets id at.0 rs held is at.1 found

  pub octets_within : octets - content_octets held.content ≤ MOST_RECORDS_OCTETS
  octets_within = omega (arith, is.counted, (large_parts rs is.fits).1)

  pub change_allowed : (last : ℕ) → (last ≡ LAST → ⊥) → delete_refusal last rs id ≡ None
  change_allowed last more = let at = found_place id rs held found in place_allowed last next octets id at.0 rs is more at.1
