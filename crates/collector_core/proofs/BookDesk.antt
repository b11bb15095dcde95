-- A book is a desk that nobody else changes.
use Rattle.std.proofs.Common.{◌≡◌, ℕ, List, [], ◌∷◌, refl, sym, ap, ◌∙◌, subst}
use Rattle.std.specs.Prelude.{Err, IfOk, None, Ok, Option, Result, Some}
use Rattle.swima_model.specs.declared.record.Content.{Content}
use Rattle.swima_model.specs.declared.record.Record.{Record}
use Rattle.collector_core.specs.declared.chronicle.Entry.{Entry}
use Rattle.collector_core.specs.declared.chronicle.Entry.TheVariants as entry
use Rattle.collector_core.specs.declared.error.BookError.{BookError}
use Rattle.collector_core.specs.declared.error.BookError.TheVariants as refused
use Rattle.collector_core.specs.BookDesk.{BookWent, book_state, extended_none, stays_book}
use Rattle.collector_core.specs.Chronicle.{Chronicle, current, extended, last_eid, next_id}
use Rattle.collector_core.specs.Desks.{Creates, Does, Edits, Reads, State, state_of}
use Rattle.collector_core.specs.Standing.{BookView, Changes, ChangesExactly, Enters, IsCreation, IsDeletion, Stands, StandsForSome, deletion}

-- ---- reads

pub book_reads : (book : BookView) (answered : Chronicle → Type 0) → StandsForSome book → ((chronicle : Chronicle) → Stands book chronicle → answered chronicle) → Reads Stands BookWent book book answered
book_reads book answered some answers = record {
  some = some;
  others = [];
  theirs = tt;
  grows = stays_book book;
  answers = λ chronicle stands. subst answered (sym (extended_none chronicle)) (answers chronicle stands);
}

-- ---- changes

-- What a change looks at is the same in the book and at a chronicle that it represents.
pub state_same : (book : BookView) (chronicle : Chronicle) → Stands book chronicle → book_state book ≡ state_of chronicle
state_same book chronicle stands =
    ap (λ (n : ℕ). record { epoch = n; last = book.log.last; next = book.next; records = book.records }) stands.epoch
    ∙ ap (λ (n : ℕ). record { epoch = (current chronicle).number; last = n; next = book.next; records = book.records }) stands.last
    ∙ ap (λ (n : ℕ). record { epoch = (current chronicle).number; last = last_eid chronicle; next = n; records = book.records }) stands.next
    ∙ ap (λ (rs : List Record). record { epoch = (current chronicle).number; last = last_eid chronicle; next = next_id chronicle; records = rs }) stands.records

state_behind : (book : BookView) (chronicle : Chronicle) → Stands book chronicle → book_state book ≡ state_of (extended chronicle [])
state_behind book chronicle stands = state_same book chronicle stands ∙ ap state_of (sym (extended_none chronicle))

module _ (T : Type 0) (says : T → State → Entry → Type 0) (at : State → Entry → Type 0) (refusal : State → Option BookError) (old new : BookView) where
  refused_there : (why : Option BookError) → (refusal (book_state old) ≡ why) × (new ≡ old) → BookWent old [] new × ((chronicle : Chronicle) → Stands old chronicle → refusal (state_of (extended chronicle [])) ≡ why)
  refused_there why done = (
    subst (BookWent old []) (sym done.1) (stays_book old),
    λ chronicle stands. ap refusal (sym (state_behind old chronicle stands)) ∙ done.0,
  )

  refused_so : (error : BookError) → Changes {T = T} (at (book_state old)) (refusal (book_state old)) old (Err error) new → Does Stands BookWent says refusal old [] new (Err error)
  refused_so refused.Memory done = refused_there None done
  refused_so (refused.EidsSpent n) done = refused_there (Some (refused.EidsSpent n)) done
  refused_so (refused.IdsSpent n) done = refused_there (Some (refused.IdsSpent n)) done
  refused_so (refused.UnknownRecord n) done = refused_there (Some (refused.UnknownRecord n)) done
  refused_so (refused.RecordsFull n) done = refused_there (Some (refused.RecordsFull n)) done
  refused_so (refused.BytesFull n m) done = refused_there (Some (refused.BytesFull n m)) done
  refused_so (refused.EpochNotNew n m) done = refused_there (Some (refused.EpochNotNew n m)) done
  refused_so (refused.TrimPast n m) done = refused_there (Some (refused.TrimPast n m)) done

  -- An entry that is as it says is the only one.
  module _ (one : (state : State) (x y : Entry) → at state x → at state y → x ≡ y) where
    pub book_edits : (result : Result T BookError) → StandsForSome old → IfOk result (λ told. (made : Entry) → at (book_state old) made → says told (book_state old) made)
        → Changes (at (book_state old)) (refusal (book_state old)) old result new
        → ((chronicle : Chronicle) → Stands old chronicle → Enters (at (state_of chronicle)) (refusal (state_of chronicle)) chronicle result new)
        → Edits Stands BookWent says refusal old new result
    book_edits (Err error) some told done enters = record { some = some; others = []; theirs = tt; done = refused_so error done }
    book_edits (Ok answer) some told done enters = record {
      some = some;
      others = [];
      theirs = tt;
      done = (
        done.1.0,
        record {
          own = (refl, tt);
          stood = λ chronicle stands.
              let entered = enters chronicle stands in
              let same : entered.1.0 ≡ done.1.0 = one (state_of chronicle) entered.1.0 done.1.0 entered.1.1 (subst (λ (s : State). at s done.1.0) (state_same old chronicle stands) done.1.1) in
              subst (λ (x : Entry). Stands new (extended chronicle (x ∷ []))) same entered.1.2;
        },
        λ chronicle stands. (
          ap refusal (sym (state_behind old chronicle stands)) ∙ done.0,
          subst (λ (s : State). says answer s done.1.0) (state_behind old chronicle stands) (told done.1.0 done.1.1),
        ),
      );
    }

-- A change that takes no memory is one.
pub from_exact : {T : Type 0} (says : Entry → Type 0) (refusal : Option BookError) (old : BookView) (result : Result T BookError) (new : BookView) → ChangesExactly says refusal old result new → Changes says refusal old result new
from_exact says refusal old (Ok told) new done = done
from_exact says refusal old (Err refused.Memory) new done = absurd done
from_exact says refusal old (Err (refused.EidsSpent n)) new done = done
from_exact says refusal old (Err (refused.IdsSpent n)) new done = done
from_exact says refusal old (Err (refused.UnknownRecord n)) new done = done
from_exact says refusal old (Err (refused.RecordsFull n)) new done = done
from_exact says refusal old (Err (refused.BytesFull n m)) new done = done
from_exact says refusal old (Err (refused.EpochNotNew n m)) new done = done
from_exact says refusal old (Err (refused.TrimPast n m)) new done = done

pub not_memory : {T : Type 0} (says : Entry → Type 0) (refusal : Option BookError) (old : BookView) (result : Result T BookError) (new : BookView) → ChangesExactly says refusal old result new → result ≡ Err refused.Memory → ⊥
not_memory {T} says refusal old result new done is = subst (λ (r : Result T BookError). ChangesExactly says refusal old r new) is done

pub one_deletion : (stamp : List ℕ) (id : ℕ) (state : State) (x y : Entry) → IsDeletion state.last state.records stamp id x → IsDeletion state.last state.records stamp id y → x ≡ y
one_deletion stamp id state x y one two =
    let same : one.0 ≡ two.0 = one_record one.0 two.0 (sym one.1 ∙ two.1) in
    one.2 ∙ ap (λ (held : Record). entry.Event (deletion state.last stamp held)) same ∙ sym two.2
  where
    one_record : (a b : Record) → Some a ≡ Some b → a ≡ b
    one_record a b is = cc

-- What is reported is said of the entry.
pub told_id : (stamp : List ℕ) (content : Content) (state : State) (result : Result ℕ BookError) → IfOk result (λ id. id ≡ state.next)
    → IfOk result (λ id. (made : Entry) → IsCreation state.last state.next stamp content made → Creates stamp content id state made)
told_id stamp content state (Ok id) is = λ made at. (is, at)
told_id stamp content state (Err error) is = tt

pub told_nothing : {T : Type 0} (at : Entry → Type 0) (result : Result T BookError) → IfOk result (λ told. (made : Entry) → at made → at made)
told_nothing at (Ok told) = λ made is. is
told_nothing at (Err error) = tt
