-- A book after an entry stands for the chronicle with that entry.
use Rattle.std.proofs.Common.{◌≡◌, ℕ, ◌+◌, ◌-◌, ◌<◌, ◌≤◌, ◌^◌, eqb, leb, ltb, cond, not, Bool, true, false, Option, Some, None, List, [], ◌∷◌, ◌++◌, length, refl, sym, ap, ◌∙◌, subst, arith, length-append, eqb-true, leb-false, ltb-false}
use Rattle.std.specs.Prelude.{fold, max, Result, Ok, Err, OnOk, is_some}
use Rattle.std.proofs.lemmas.Bool.{eqb-false}
use Rattle.swima_model.specs.declared.event.Action.{Action}
use Rattle.swima_model.specs.declared.event.Action.TheVariants.{Creation, Deletion, Alteration}
use Rattle.swima_model.specs.declared.event.Event.{Event}
use Rattle.swima_model.specs.declared.record.Record.{Record}
use Rattle.swima_model.specs.History.{Epoch, contradicts}
use Rattle.swima_model.specs.Live.{live, record_of}
use Rattle.swima_model.specs.Size.{are_large}
use Rattle.swima_model.proofs.Carrying.{deletion_agrees}
use Rattle.swima_model.proofs.Living.{live_rises, live_more, live_none}
use Rattle.event_log.specs.Log.{IsLog, events_from}
use Rattle.event_log.proofs.Keeping.{from_from, pushed_events}
use Rattle.collector_core.specs.declared.chronicle.Entry.{Entry}
use Rattle.collector_core.specs.declared.chronicle.Entry.TheVariants as entry
use Rattle.collector_core.specs.Chronicle.{Chronicle, extended, epoch_after, current, live_now, last_eid, trim_after, first_kept, created_by, next_id}
use Rattle.collector_core.specs.Legal.{MayFollow, IsContent}
use Rattle.collector_core.specs.Standing.{BookView, Stands, book_after, next_after, creation, alteration, deletion, IsCreation, IsAlteration, IsDeletion, Changes, ChangesExactly, Enters}
use Rattle.collector_core.specs.Refusals.{LAST, create_refusal, alter_refusal, delete_refusal, trim_refusal, epoch_refusal}
use Rattle.collector_core.specs.declared.error.BookError.{BookError}
use Rattle.collector_core.specs.declared.error.BookError.TheVariants as refused
use Rattle.swima_model.specs.declared.record.Content.{Content}
use Rattle.wire_base.specs.Stamp.{IsStamp}
use Rattle.collector_core.proofs.Changing.{passes, create_allowed, more_eids}
use Rattle.collector_core.proofs.Chronicles.{current_more, trims_more, next_more, current_honest, legal_event, legal_epoch, legal_trim}

-- ---- events

-- The next identifier after an event.
next_step : (m next id : ℕ) (action : Action) → next ≡ m + 1 → (action ≡ Creation → id ≡ next) → next_after action next ≡ fold max m (created_by action id ++ []) + 1
next_step m next id Creation is new = omega (arith, is, new refl)
next_step m next id Deletion is new = is
next_step m next id Alteration is new = is

pub stands_event : (book : BookView) (chronicle : Chronicle) (e : Event) → Stands book chronicle → IsLog book.log → MayFollow chronicle (entry.Event e)
    → e.eid ≡ book.log.last + 1 → e.eid < 2 ^ 32 → (e.action ≡ Creation → e.subject.id ≡ book.next) → contradicts book.records e ≡ false → are_large (live book.records (e ∷ [])) ≡ false
    → Stands (book_after book (entry.Event e)) (extended chronicle (entry.Event e ∷ []))
stands_event book chronicle e stands log may next few new agrees fits =
    let epoch : Epoch = current chronicle in
    let more : current (extended chronicle (entry.Event e ∷ [])) ≡ epoch_after (current chronicle) (entry.Event e) = current_more chronicle (entry.Event e) in
    let trims : fold trim_after 1 (chronicle.entries ++ entry.Event e ∷ []) ≡ fold trim_after 1 chronicle.entries = trims_more chronicle (entry.Event e) in
    let rising = (current_honest chronicle stands.legal).rising in
    let now : live book.records (e ∷ []) ≡ live (current chronicle).base ((current chronicle).events ++ e ∷ []) =
    ap (λ (rs : List Record). live rs (e ∷ [])) stands.records ∙ live_more (current chronicle).base (current chronicle).events (e ∷ []) rising in
    let last : last_eid (extended chronicle (entry.Event e ∷ [])) ≡ last_eid chronicle + 1 =
    ap (λ (x : Epoch). length x.events) more ∙ length-append (current chronicle).events (e ∷ []) in
    let kept : first_kept (extended chronicle (entry.Event e ∷ [])) ≡ max (first_kept chronicle) (e.eid + 1 - book.log.cap) =
    omega (arith, trims, last, next, stands.last, stands.cap) in
    record {
      legal = legal_event chronicle e stands.legal may (next ∙ ap (λ (n : ℕ). n + 1) stands.last) few
          (ap (λ (rs : List Record). contradicts rs e) (sym stands.records) ∙ agrees) (ap are_large (sym now) ∙ fits);
      epoch = stands.epoch ∙ ap (λ (x : Epoch). x.number) (sym more);
      next = next_step _ book.next e.subject.id e.action stands.next new ∙ sym (next_more chronicle (entry.Event e));
      records = now ∙ ap (λ (x : Epoch). live x.base x.events) (sym more);
      cap = stands.cap;
      first = ap (λ (n : ℕ). max n (e.eid + 1 - book.log.cap)) stands.first ∙ sym kept;
      last = next ∙ ap (λ (n : ℕ). n + 1) stands.last ∙ sym last;
      events =
          ap (λ (l : List Event). events_from (e.eid + 1 - book.log.cap) (l ++ e ∷ [])) stands.events
          ∙ pushed_events (e.eid + 1 - book.log.cap) (first_kept chronicle) (current chronicle).events e (omega (arith, next, log.count, sym stands.first))
          ∙ ap (λ (n : ℕ). events_from n ((current chronicle).events ++ e ∷ [])) (sym kept)
          ∙ ap (λ (x : Epoch). events_from (first_kept (extended chronicle (entry.Event e ∷ []))) x.events) (sym more);
    }

-- ---- epochs and trims

pub stands_epoch : (book : BookView) (chronicle : Chronicle) (n : ℕ) → Stands book chronicle → MayFollow chronicle (entry.Epoch n)
    → Stands (book_after book (entry.Epoch n)) (extended chronicle (entry.Epoch n ∷ []))
stands_epoch book chronicle n stands may =
    let more : current (extended chronicle (entry.Epoch n ∷ [])) ≡ epoch_after (current chronicle) (entry.Epoch n) = current_more chronicle (entry.Epoch n) in
    let trims : fold trim_after 1 (chronicle.entries ++ entry.Epoch n ∷ []) ≡ 1 = trims_more chronicle (entry.Epoch n) in
    let last : last_eid (extended chronicle (entry.Epoch n ∷ [])) ≡ 0 = ap (λ (x : Epoch). length x.events) more in
    let kept : 1 ≡ first_kept (extended chronicle (entry.Epoch n ∷ [])) = omega (arith, trims, last, stands.legal.start.cap.0) in
    record {
      legal = legal_epoch chronicle n stands.legal may;
      epoch = ap (λ (x : Epoch). x.number) (sym more);
      next = stands.next ∙ sym (next_more chronicle (entry.Epoch n));
      records =
          stands.records
          ∙ sym (live_none (live_now chronicle) (live_rises (current chronicle).base (current chronicle).events (current_honest chronicle stands.legal).rising))
          ∙ ap (λ (x : Epoch). live x.base x.events) (sym more);
      cap = stands.cap;
      first = kept;
      last = sym last;
      events = ap (λ (x : Epoch). events_from (first_kept (extended chronicle (entry.Epoch n ∷ []))) x.events) (sym more);
    }

pub stands_trim : (book : BookView) (chronicle : Chronicle) (k : ℕ) → Stands book chronicle → MayFollow chronicle (entry.Trim k)
    → Stands (book_after book (entry.Trim k)) (extended chronicle (entry.Trim k ∷ []))
stands_trim book chronicle k stands may =
    let more : current (extended chronicle (entry.Trim k ∷ [])) ≡ current chronicle = current_more chronicle (entry.Trim k) in
    let trims : fold trim_after 1 (chronicle.entries ++ entry.Trim k ∷ []) ≡ max (fold trim_after 1 chronicle.entries) k = trims_more chronicle (entry.Trim k) in
    let last : last_eid (extended chronicle (entry.Trim k ∷ [])) ≡ last_eid chronicle = ap (λ (x : Epoch). length x.events) more in
    let kept : first_kept (extended chronicle (entry.Trim k ∷ [])) ≡ max (first_kept chronicle) k = omega (arith, trims, last) in
    record {
      legal = legal_trim chronicle k stands.legal may;
      epoch = stands.epoch ∙ ap (λ (x : Epoch). x.number) (sym more);
      next = stands.next ∙ sym (next_more chronicle (entry.Trim k));
      records = stands.records ∙ ap (λ (x : Epoch). live x.base x.events) (sym more);
      cap = stands.cap;
      first = ap (λ (n : ℕ). max n k) stands.first ∙ sym kept;
      last = stands.last ∙ sym last;
      events =
          ap (events_from k) stands.events
          ∙ from_from k (first_kept chronicle) (current chronicle).events
          ∙ ap (λ (n : ℕ). events_from n (current chronicle).events) (sym kept)
          ∙ ap (λ (x : Epoch). events_from (first_kept (extended chronicle (entry.Trim k ∷ []))) x.events) (sym more);
    }

-- ---- changes of a book, at a chronicle that it stood for

module _ (T : Type 0) (says at : Entry → Type 0) (refusal there : Option BookError) (old new : BookView) (chronicle : Chronicle) (same : refusal ≡ there) (stands : Stands old chronicle) where
  enters_refused : (error : BookError) → (refusal ≡ Some error) × (new ≡ old) → (there ≡ Some error) × Stands new chronicle
  enters_refused error done = (sym same ∙ done.0, subst (λ (book : BookView). Stands book chronicle) (sym done.1) stands)

  enters_err : (error : BookError) → Changes {T = T} says refusal old (Err error) new → Enters {T = T} at there chronicle (Err error) new
  enters_err refused.Memory done = (sym same ∙ done.0, subst (λ (book : BookView). Stands book chronicle) (sym done.1) stands)
  enters_err (refused.EidsSpent n) done = enters_refused (refused.EidsSpent n) done
  enters_err (refused.IdsSpent n) done = enters_refused (refused.IdsSpent n) done
  enters_err (refused.UnknownRecord n) done = enters_refused (refused.UnknownRecord n) done
  enters_err (refused.RecordsFull n) done = enters_refused (refused.RecordsFull n) done
  enters_err (refused.BytesFull n m) done = enters_refused (refused.BytesFull n m) done
  enters_err (refused.EpochNotNew n m) done = enters_refused (refused.EpochNotNew n m) done
  enters_err (refused.TrimPast n m) done = enters_refused (refused.TrimPast n m) done

  enters_exactly_err : (error : BookError) → ChangesExactly {T = T} says refusal old (Err error) new → Enters {T = T} at there chronicle (Err error) new
  enters_exactly_err refused.Memory done = absurd done
  enters_exactly_err (refused.EidsSpent n) done = enters_refused (refused.EidsSpent n) done
  enters_exactly_err (refused.IdsSpent n) done = enters_refused (refused.IdsSpent n) done
  enters_exactly_err (refused.UnknownRecord n) done = enters_refused (refused.UnknownRecord n) done
  enters_exactly_err (refused.RecordsFull n) done = enters_refused (refused.RecordsFull n) done
  enters_exactly_err (refused.BytesFull n m) done = enters_refused (refused.BytesFull n m) done
  enters_exactly_err (refused.EpochNotNew n m) done = enters_refused (refused.EpochNotNew n m) done
  enters_exactly_err (refused.TrimPast n m) done = enters_refused (refused.TrimPast n m) done

  enters_ok : refusal ≡ None → (made : Entry) → at made → new ≡ book_after old made → Stands (book_after old made) (extended chronicle (made ∷ [])) → (there ≡ None) × ((made : Entry) × at made × Stands new (extended chronicle (made ∷ [])))
  enters_ok none made says_so is behind = (sym same ∙ none, (made, says_so, subst (λ (book : BookView). Stands book (extended chronicle (made ∷ []))) (sym is) behind))

-- An error that is not running out of memory is the refusal.
pub changes_err : (T : Type 0) (says : Entry → Type 0) (refusal : Option BookError) (old new : BookView) (error : BookError) → (error ≡ refused.Memory → ⊥) → refusal ≡ Some error → new ≡ old → Changes {T = T} says refusal old (Err error) new
changes_err T says refusal old new refused.Memory not is same = absurd (not refl)
changes_err T says refusal old new (refused.EidsSpent n) not is same = (is, same)
changes_err T says refusal old new (refused.IdsSpent n) not is same = (is, same)
changes_err T says refusal old new (refused.UnknownRecord n) not is same = (is, same)
changes_err T says refusal old new (refused.RecordsFull n) not is same = (is, same)
changes_err T says refusal old new (refused.BytesFull n m) not is same = (is, same)
changes_err T says refusal old new (refused.EpochNotNew n m) not is same = (is, same)
changes_err T says refusal old new (refused.TrimPast n m) not is same = (is, same)

-- What is not refused is allowed.
refused_unless : (test : Bool) (error : BookError) → cond test (Some error) None ≡ None → test ≡ false
refused_unless true error none = absurd cc
refused_unless false error none = refl

pub trim_enters : (T : Type 0) (old new : BookView) (chronicle : Chronicle) (first : ℕ) (result : Result T BookError) → Stands old chronicle
    → ChangesExactly (λ made. made ≡ entry.Trim first) (trim_refusal old.log.last first) old result new
    → Enters (λ made. made ≡ entry.Trim first) (trim_refusal (last_eid chronicle) first) chronicle result new
trim_enters T old new chronicle first (Err error) stands done =
    enters_exactly_err T (λ made. made ≡ entry.Trim first) (λ made. made ≡ entry.Trim first) (trim_refusal old.log.last first) (trim_refusal (last_eid chronicle) first) old new chronicle
    (ap (λ (n : ℕ). trim_refusal n first) stands.last) stands error done
trim_enters T old new chronicle first (Ok told) stands done =
    let within : first ≤ last_eid chronicle + 1 = omega (arith, ltb-false (old.log.last + 1) first (refused_unless (ltb (old.log.last + 1) first) (refused.TrimPast old.log.last first) done.0), stands.last) in
    enters_ok (Unit {0}) (λ made. made ≡ entry.Trim first) (λ made. made ≡ entry.Trim first) (trim_refusal old.log.last first) (trim_refusal (last_eid chronicle) first) old new chronicle
    (ap (λ (n : ℕ). trim_refusal n first) stands.last) stands done.0 done.1.0 done.1.1 done.1.2
    (subst (λ (x : Entry). Stands (book_after old x) (extended chronicle (x ∷ []))) (sym done.1.1) (stands_trim old chronicle first stands within))

pub epoch_enters : (T : Type 0) (old new : BookView) (chronicle : Chronicle) (number : ℕ) (result : Result T BookError) → Stands old chronicle → number < 2 ^ 32
    → ChangesExactly (λ made. made ≡ entry.Epoch number) (epoch_refusal old.epoch number) old result new
    → Enters (λ made. made ≡ entry.Epoch number) (epoch_refusal (current chronicle).number number) chronicle result new
epoch_enters T old new chronicle number (Err error) stands few done =
    enters_exactly_err T (λ made. made ≡ entry.Epoch number) (λ made. made ≡ entry.Epoch number) (epoch_refusal old.epoch number) (epoch_refusal (current chronicle).number number) old new chronicle
    (ap (λ (n : ℕ). epoch_refusal n number) stands.epoch) stands error done
epoch_enters T old new chronicle number (Ok told) stands few done =
    let above : (current chronicle).number < number = omega (arith, leb-false number old.epoch (refused_unless (leb number old.epoch) (refused.EpochNotNew old.epoch number) done.0), stands.epoch) in
    enters_ok (Unit {0}) (λ made. made ≡ entry.Epoch number) (λ made. made ≡ entry.Epoch number) (epoch_refusal old.epoch number) (epoch_refusal (current chronicle).number number) old new chronicle
    (ap (λ (n : ℕ). epoch_refusal n number) stands.epoch) stands done.0 done.1.0 done.1.1 done.1.2
    (subst (λ (x : Entry). Stands (book_after old x) (extended chronicle (x ∷ []))) (sym done.1.1) (stands_epoch old chronicle number stands (above, few)))

-- ---- changes of a record

-- The same refusals and entries, in terms of the chronicle.
create_same : (old : BookView) (chronicle : Chronicle) (content : Content) → Stands old chronicle → create_refusal old.log.last old.next old.records content ≡ create_refusal (last_eid chronicle) (next_id chronicle) (live_now chronicle) content
create_same old chronicle content stands =
    ap (λ (n : ℕ). create_refusal n old.next old.records content) stands.last ∙ ap (λ (n : ℕ). create_refusal (last_eid chronicle) n old.records content) stands.next
    ∙ ap (λ (rs : List Record). create_refusal (last_eid chronicle) (next_id chronicle) rs content) stands.records

alter_same : (old : BookView) (chronicle : Chronicle) (id : ℕ) (content : Content) → Stands old chronicle → alter_refusal old.log.last old.records id content ≡ alter_refusal (last_eid chronicle) (live_now chronicle) id content
alter_same old chronicle id content stands =
    ap (λ (n : ℕ). alter_refusal n old.records id content) stands.last ∙ ap (λ (rs : List Record). alter_refusal (last_eid chronicle) rs id content) stands.records

delete_same : (old : BookView) (chronicle : Chronicle) (id : ℕ) → Stands old chronicle → delete_refusal old.log.last old.records id ≡ delete_refusal (last_eid chronicle) (live_now chronicle) id
delete_same old chronicle id stands =
    ap (λ (n : ℕ). delete_refusal n old.records id) stands.last ∙ ap (λ (rs : List Record). delete_refusal (last_eid chronicle) rs id) stands.records

creation_same : (old : BookView) (chronicle : Chronicle) (stamp : List ℕ) (content : Content) (made : Entry) → Stands old chronicle → IsCreation old.log.last old.next stamp content made → IsCreation (last_eid chronicle) (next_id chronicle) stamp content made
creation_same old chronicle stamp content made stands is =
    is ∙ ap (λ (n : ℕ). entry.Event (creation n old.next stamp content)) stands.last ∙ ap (λ (n : ℕ). entry.Event (creation (last_eid chronicle) n stamp content)) stands.next

fits_made : (old new : BookView) (made : Entry) (e : Event) → made ≡ entry.Event e → new ≡ book_after old made → are_large new.records ≡ false → are_large (live old.records (e ∷ [])) ≡ false
fits_made old new made e is now fits =
    ap (λ (x : Entry). are_large (book_after old x).records) (sym is) ∙ ap (λ (book : BookView). are_large book.records) (sym now) ∙ fits

pub create_enters : (T : Type 0) (old new : BookView) (chronicle : Chronicle) (stamp : List ℕ) (content : Content) (result : Result T BookError) → Stands old chronicle → IsLog old.log → IsStamp stamp → IsContent content
    → record_of old.next old.records ≡ None → old.next < 2 ^ 32 → OnOk result (are_large new.records ≡ false)
    → Changes (IsCreation old.log.last old.next stamp content) (create_refusal old.log.last old.next old.records content) old result new
    → Enters (IsCreation (last_eid chronicle) (next_id chronicle) stamp content) (create_refusal (last_eid chronicle) (next_id chronicle) (live_now chronicle) content) chronicle result new
create_enters T old new chronicle stamp content (Err error) stands log stamped within fresh few fits done =
    enters_err T (IsCreation old.log.last old.next stamp content) (IsCreation (last_eid chronicle) (next_id chronicle) stamp content) _ _ old new chronicle (create_same old chronicle content stands) stands error done
create_enters T old new chronicle stamp content (Ok told) stands log stamped within fresh few fits done =
    let allowed = create_allowed old.log.last old.next old.records content done.0 in
    let e : Event = creation old.log.last old.next stamp content in
    let behind = stands_event old chronicle (creation old.log.last old.next stamp content) stands log
    (record { stamp = stamped; content = within; subject = (stands.next, omega (arith, few, allowed.ids)) })
    refl (omega (arith, allowed.eids, log.room.1)) (λ is. refl) (ap is_some fresh) (fits_made old new done.1.0 (creation old.log.last old.next stamp content) done.1.1 done.1.2 fits) in
    enters_ok (Unit {0}) (IsCreation old.log.last old.next stamp content) (IsCreation (last_eid chronicle) (next_id chronicle) stamp content) _ _ old new chronicle (create_same old chronicle content stands) stands
    done.0 done.1.0 (creation_same old chronicle stamp content done.1.0 stands done.1.1) done.1.2
    (subst (λ (x : Entry). Stands (book_after old x) (extended chronicle (x ∷ []))) (sym done.1.1) behind)

pub alter_enters : (T : Type 0) (old new : BookView) (chronicle : Chronicle) (stamp : List ℕ) (id : ℕ) (content : Content) (result : Result T BookError) → Stands old chronicle → IsLog old.log → IsStamp stamp → IsContent content
    → OnOk result (are_large new.records ≡ false)
    → Changes (IsAlteration old.log.last stamp id content) (alter_refusal old.log.last old.records id content) old result new
    → Enters (IsAlteration (last_eid chronicle) stamp id content) (alter_refusal (last_eid chronicle) (live_now chronicle) id content) chronicle result new
alter_enters T old new chronicle stamp id content (Err error) stands log stamped within fits done =
    enters_err T (IsAlteration old.log.last stamp id content) (IsAlteration (last_eid chronicle) stamp id content) _ _ old new chronicle (alter_same old chronicle id content stands) stands error done
alter_enters T old new chronicle stamp id content (Ok told) stands log stamped within fits done =
    let one = passes (eqb old.log.last LAST) (refused.EidsSpent old.log.last) _ done.0 in
    let two = passes (not (is_some (record_of id old.records))) (refused.UnknownRecord id) _ one.1 in
    let more = eqb-false old.log.last LAST one.0 in
    let behind = stands_event old chronicle (alteration old.log.last stamp id content) stands log
    (record { stamp = stamped; content = within; subject = tt })
    refl (omega (arith, more, log.room.1)) (λ is. absurd cc) two.0 (fits_made old new done.1.0 (alteration old.log.last stamp id content) done.1.1 done.1.2 fits) in
    enters_ok (Unit {0}) (IsAlteration old.log.last stamp id content) (IsAlteration (last_eid chronicle) stamp id content) _ _ old new chronicle (alter_same old chronicle id content stands) stands
    done.0 done.1.0 (done.1.1 ∙ ap (λ (n : ℕ). entry.Event (alteration n stamp id content)) stands.last) done.1.2
    (subst (λ (x : Entry). Stands (book_after old x) (extended chronicle (x ∷ []))) (sym done.1.1) behind)

pub delete_enters : (T : Type 0) (old new : BookView) (chronicle : Chronicle) (stamp : List ℕ) (id : ℕ) (result : Result T BookError) → Stands old chronicle → IsLog old.log → IsStamp stamp
    → OnOk result ((held : Record) → record_of id old.records ≡ Some held → IsContent held.content) → OnOk result (are_large new.records ≡ false)
    → ChangesExactly (IsDeletion old.log.last old.records stamp id) (delete_refusal old.log.last old.records id) old result new
    → Enters (IsDeletion (last_eid chronicle) (live_now chronicle) stamp id) (delete_refusal (last_eid chronicle) (live_now chronicle) id) chronicle result new
delete_enters T old new chronicle stamp id (Err error) stands log stamped within fits done =
    enters_exactly_err T (IsDeletion old.log.last old.records stamp id) (IsDeletion (last_eid chronicle) (live_now chronicle) stamp id) _ _ old new chronicle (delete_same old chronicle id stands) stands error done
delete_enters T old new chronicle stamp id (Ok told) stands log stamped within fits done =
    let held : Record = done.1.1.0 in
    let found : record_of id old.records ≡ Some done.1.1.0 = done.1.1.1 in
    let named : done.1.1.0.id ≡ id = named_so id old.records done.1.1.0 found in
    let live_found : record_of id (live_now chronicle) ≡ Some done.1.1.0 = ap (record_of id) (sym stands.records) ∙ done.1.1.1 in
    let more = more_eids old.log.last id old.records done.0 in
    let behind = stands_event old chronicle (deletion old.log.last stamp done.1.1.0) stands log
    (record { stamp = stamped; content = within done.1.1.0 found; subject = ap (λ (n : ℕ). record_of n (live_now chronicle)) named ∙ live_found })
    refl (omega (arith, more, log.room.1)) (λ is. absurd cc)
    (deletion_agrees done.1.1.0 (record_of done.1.1.0.id old.records) (ap (λ (n : ℕ). record_of n old.records) named ∙ found))
    (fits_made old new done.1.0 (deletion old.log.last stamp done.1.1.0) done.1.1.2 done.1.2 fits) in
    enters_ok (Unit {0}) (IsDeletion old.log.last old.records stamp id) (IsDeletion (last_eid chronicle) (live_now chronicle) stamp id) _ _ old new chronicle (delete_same old chronicle id stands) stands
    done.0 done.1.0 (done.1.1.0, live_found, done.1.1.2 ∙ ap (λ (n : ℕ). entry.Event (deletion n stamp done.1.1.0)) stands.last) done.1.2
    (subst (λ (x : Entry). Stands (book_after old x) (extended chronicle (x ∷ []))) (sym done.1.1.2) behind)
  where
    named_step : (here : Bool) (r : Record) (o : Option Record) (held : Record) (n : ℕ) → eqb r.id n ≡ here → cond here (Some r) o ≡ Some held → (o ≡ Some held → held.id ≡ n) → held.id ≡ n
    named_step true r o held n at is later = let same : held ≡ r = cc in ap (λ (x : Record). x.id) same ∙ eqb-true r.id n at
    named_step false r o held n at is later = later is

    named_so : (n : ℕ) (rs : List Record) (held : Record) → record_of n rs ≡ Some held → held.id ≡ n
    named_so n [] held is = absurd cc
    named_so n (r ∷ rs) held is = named_step (eqb r.id n) r (record_of n rs) held n refl is (named_so n rs held)
