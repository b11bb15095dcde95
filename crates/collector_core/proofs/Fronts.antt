-- Prefixes of legal chronicles are legal.
use Rattle.std.proofs.Common.{ℕ, ◌+◌, List, [], ◌∷◌, ◌++◌, take, drop, refl, sym, ap, ◌∙◌, subst, append_assoc, arith, length-append, take-append-drop}
use Rattle.std.proofs.lemmas.List.{append-nil}
use Rattle.swima_model.specs.declared.event.Event.{Event}
use Rattle.swima_model.specs.History.{AreNumberedFrom, Epoch, History, IsHonest, IsHonestEpoch}
use Rattle.collector_core.specs.declared.chronicle.Entry.{Entry}
use Rattle.collector_core.specs.declared.chronicle.Entry.TheVariants as entry
use Rattle.collector_core.specs.Chronicle.{Chronicle, Start, current, epoch_after, extended}
use Rattle.collector_core.specs.Legal.{IsLegal}
use Rattle.collector_core.specs.Meaning.{FrontsAreLegal}
use Rattle.collector_core.proofs.Chronicles.{ended, exchanged, front_distinct, front_honest, history_is, history_more, last_honest, past}

numbered_front : (n : ℕ) (xs ys : List Event) → AreNumberedFrom n (xs ++ ys) → AreNumberedFrom n xs
numbered_front n [] ys are = tt
numbered_front n (x ∷ xs) ys are = (are.0, numbered_front (n + 1) xs ys are.1)

-- An honest epoch was so before its last event.
shrunk_honest : (epoch : Epoch) (e : Event) → IsHonestEpoch (epoch_after epoch (entry.Event e)) → IsHonestEpoch epoch
shrunk_honest epoch e honest = record {
  numbered = honest.numbered;
  rising = honest.rising;
  begins = honest.begins;
  eids = numbered_front 1 epoch.events (e ∷ []) honest.eids;
  few = omega (arith, honest.few, length-append epoch.events (e ∷ []));
  fit = λ before event after split. honest.fit before event (after ++ e ∷ []) (ap (λ (es : List Event). es ++ e ∷ []) split ∙ append_assoc before (event ∷ after) (e ∷ []));
}

honest_before : (chronicle : Chronicle) (x : Entry) → IsHonest ((past chronicle ++ ended (current chronicle) x) ++ epoch_after (current chronicle) x ∷ []) → IsHonest (past chronicle ++ current chronicle ∷ [])
honest_before chronicle (entry.Event e) honest =
    let grown : IsHonest (past chronicle ++ epoch_after (current chronicle) (entry.Event e) ∷ []) = subst (λ (h : History). IsHonest (h ++ epoch_after (current chronicle) (entry.Event e) ∷ [])) (append-nil (past chronicle)) honest in
    exchanged (past chronicle) (epoch_after (current chronicle) (entry.Event e)) grown (current chronicle)
    (shrunk_honest (current chronicle) e (last_honest (past chronicle) (epoch_after (current chronicle) (entry.Event e)) grown)) refl
honest_before chronicle (entry.Epoch n) honest = record {
  epochs = front_honest (past chronicle ++ current chronicle ∷ []) (epoch_after (current chronicle) (entry.Epoch n)) honest;
  distinct = front_distinct (past chronicle ++ current chronicle ∷ []) (epoch_after (current chronicle) (entry.Epoch n)) honest;
}
honest_before chronicle (entry.Trim k) honest = subst (λ (h : History). IsHonest (h ++ current chronicle ∷ [])) (append-nil (past chronicle)) honest

legal_before : (chronicle : Chronicle) (x : Entry) → IsLegal (extended chronicle (x ∷ [])) → IsLegal chronicle
legal_before chronicle x legal = record {
  start = legal.start;
  honest = subst IsHonest (sym (history_is chronicle)) (honest_before chronicle x (subst IsHonest (history_more chronicle x) legal.honest));
  follow = λ before y after split. legal.follow before y (after ++ x ∷ []) (ap (λ (xs : List Entry). xs ++ x ∷ []) split ∙ append_assoc before (y ∷ after) (x ∷ []));
}

-- A chronicle was legal before further entries.
pub legal_front : (start : Start) (xs ys : List Entry) → IsLegal (record { start = start; entries = xs ++ ys }) → IsLegal (record { start = start; entries = xs })
legal_front start xs [] legal = subst (λ (zs : List Entry). IsLegal (record { start = start; entries = zs })) (append-nil xs) legal
legal_front start xs (y ∷ ys) legal =
    legal_before (record { start = start; entries = xs }) y
    (legal_front start (xs ++ y ∷ []) ys (subst (λ (zs : List Entry). IsLegal (record { start = start; entries = zs })) (sym (append_assoc xs (y ∷ []) ys)) legal))

pub fronts_are_legal : FrontsAreLegal
fronts_are_legal chronicle count legal =
    legal_front chronicle.start (take count chronicle.entries) (drop count chronicle.entries)
    (subst (λ (zs : List Entry). IsLegal (record { start = chronicle.start; entries = zs })) (sym (take-append-drop count chronicle.entries)) legal)
