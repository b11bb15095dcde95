-- A book that stands for some chronicle does so after each change.
use Rattle.std.proofs.Common.{◌≡◌, ◌+◌, ◌-◌, ◌<◌, ◌≤◌, ◌^◌, ℕ, false, List, [], ◌∷◌, Option, Some, None, ltb, refl, sym, ◌∙◌, subst, arith}
use Rattle.std.specs.Prelude.{Ok}
use Rattle.std.proofs.lemmas.Bool.{cond-false, le-ltb}
use Rattle.wire_base.specs.Stamp.{IsStamp}
use Rattle.swima_model.specs.declared.record.Content.{Content}
use Rattle.swima_model.specs.declared.record.Record.{Record}
use Rattle.swima_model.specs.Live.{record_of}
use Rattle.swima_model.specs.Size.{MOST_RECORDS_OCTETS, are_large, content_octets, records_octets}
use Rattle.event_log.specs.Log.{IsLog}
use Rattle.collector_core.specs.declared.chronicle.Entry.{Entry}
use Rattle.collector_core.specs.declared.chronicle.Entry.TheVariants as entry
use Rattle.collector_core.specs.declared.error.BookError.{BookError}
use Rattle.swima_model.specs.Places.{IsPlaceOf}
use Rattle.collector_core.specs.Book.{IsBook, IsExchange}
use Rattle.collector_core.specs.Chronicle.{Chronicle, extended}
use Rattle.collector_core.specs.Legal.{IsContent}
use Rattle.collector_core.specs.Refusals.{alter_refusal, create_refusal, delete_refusal, others_than}
use Rattle.collector_core.specs.Standing.{BookView, Enters, IsDeletion, StandsForSome, Stands, alteration, book_after, creation}
use Rattle.collector_core.proofs.Changing.{alter_is, fresh, place_allowed}
use Rattle.collector_core.proofs.Standings.{alter_enters, create_enters, delete_enters, stands_epoch, stands_trim}

some_entered : (says : Entry → Type 0) (refusal : Option BookError) (chronicle : Chronicle) (new : BookView) → Enters {T = Unit {0}} says refusal chronicle (Ok tt) new → StandsForSome new
some_entered says refusal chronicle new entered = (extended chronicle (entered.1.0 ∷ []), entered.1.2)

module _ (old new : BookView) (octets : ℕ) (stamp : List ℕ) (content : Content) (is : IsBook old.next octets old.records) (some : StandsForSome old) (log : IsLog old.log) (stamped : IsStamp stamp)
    (within : IsContent content) (fits : are_large new.records ≡ false) where
  pub some_created : old.next < 2 ^ 32 → create_refusal old.log.last old.next old.records content ≡ None → new ≡ book_after old (entry.Event (creation old.log.last old.next stamp content)) → StandsForSome new
  some_created few allowed now =
      some_entered _ _ some.0 new
      (create_enters (Unit {0}) old new some.0 stamp content (Ok tt) some.1 log stamped within (fresh old.next octets old.records is) few fits
      (allowed, (entry.Event (creation old.log.last old.next stamp content), refl, now)))

  -- What alters the record at a place, with an exchange of octets, is allowed.
  alter_allowed : (id place given : ℕ) → old.log.last < 2 ^ 32 - 1 → IsPlaceOf old.records id (Some place) → IsExchange old.records id content given → alter_refusal old.log.last old.records id content ≡ None
  alter_allowed id place given more at exchange =
      let none : delete_refusal old.log.last old.records id ≡ None = place_allowed old.log.last old.next octets id place old.records is (λ last. omega (arith, more, last)) at in
      alter_is old.log.last id old.records content none
      ∙ cond-false (ltb MOST_RECORDS_OCTETS (records_octets (others_than id old.records) + content_octets content)) _ None
      (le-ltb MOST_RECORDS_OCTETS (records_octets (others_than id old.records) + content_octets content) (omega (arith, exchange.1, exchange.0)))

  pub some_altered : (id place given : ℕ) → old.log.last < 2 ^ 32 - 1 → IsPlaceOf old.records id (Some place) → IsExchange old.records id content given
      → new ≡ book_after old (entry.Event (alteration old.log.last stamp id content)) → StandsForSome new
  some_altered id place given more at exchange now =
      some_entered _ _ some.0 new
      (alter_enters (Unit {0}) old new some.0 stamp id content (Ok tt) some.1 log stamped within fits
      (alter_allowed id place given more at exchange, (entry.Event (alteration old.log.last stamp id content), refl, now)))

module _ (old new : BookView) (octets : ℕ) (stamp : List ℕ) (is : IsBook old.next octets old.records) (some : StandsForSome old) (log : IsLog old.log) (stamped : IsStamp stamp) (fits : are_large new.records ≡ false) where
  pub some_deleted : (id place : ℕ) → old.log.last < 2 ^ 32 - 1 → IsPlaceOf old.records id (Some place) → ((held : Record) → record_of id old.records ≡ Some held → IsContent held.content)
      → (made : Entry) × IsDeletion old.log.last old.records stamp id made × (new ≡ book_after old made) → StandsForSome new
  some_deleted id place more at within now =
      some_entered _ _ some.0 new
      (delete_enters (Unit {0}) old new some.0 stamp id (Ok tt) some.1 log stamped within fits
      (place_allowed old.log.last old.next octets id place old.records is (λ last. omega (arith, more, last)) at, now))

pub some_begun : (old new : BookView) (number : ℕ) → StandsForSome old → old.epoch < number → number < 2 ^ 32 → new ≡ book_after old (entry.Epoch number) → StandsForSome new
some_begun old new number some above few now = (
  extended some.0 (entry.Epoch number ∷ []),
  subst (λ (book : BookView). Stands book (extended some.0 (entry.Epoch number ∷ []))) (sym now) (stands_epoch old some.0 number some.1 (omega (arith, above, some.1.epoch), few)),
)

pub some_trimmed : (old new : BookView) (first : ℕ) → StandsForSome old → first ≤ old.log.last + 1 → new ≡ book_after old (entry.Trim first) → StandsForSome new
some_trimmed old new first some within now = (
  extended some.0 (entry.Trim first ∷ []),
  subst (λ (book : BookView). Stands book (extended some.0 (entry.Trim first ∷ []))) (sym now) (stands_trim old some.0 first some.1 (omega (arith, within, some.1.last))),
)
