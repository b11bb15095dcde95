-- Which of the entries that came are one's own.
use Rattle.std.proofs.Common.{◌≡◌, ◌∙◌, ap, cond, refl, Bool, true, false, List, [], ◌∷◌}
use Rattle.std.specs.Prelude.{filter}
use Rattle.std.proofs.lemmas.List.Elements.{filter-append}
use Rattle.collector_core.specs.declared.chronicle.Entry.{Entry}
use Rattle.collector_core.specs.declared.chronicle.Mark.{Mark}
use Rattle.collector_core.specs.BookDesk.{entries_append}
use Rattle.collector_core.specs.Desks.{AreOthers, AreOwn, entries, owned}
use Rattle.collector_core.specs.Meaning.{OwnedIsOwn, OwnedJoins}

pub owned_joins : OwnedJoins
owned_joins marks further =
    ap entries (filter-append (λ (m : Mark). m.own) marks further)
    ∙ entries_append (filter (λ (m : Mark). m.own) marks) (filter (λ (m : Mark). m.own) further)

-- The first mark decides whether its entry is one of them.
left_out : (own : Bool) (mark : Mark) (later : List Mark) → own ≡ false → entries (cond own (mark ∷ later) later) ≡ entries later
left_out true mark later is = absurd cc
left_out false mark later is = refl

taken_in : (own : Bool) (mark : Mark) (later : List Mark) → own ≡ true → entries (cond own (mark ∷ later) later) ≡ mark.entry ∷ entries later
taken_in true mark later is = refl
taken_in false mark later is = absurd cc

pub owned_none : (marks : List Mark) → AreOthers marks → owned marks ≡ []
owned_none [] others = refl
owned_none (mark ∷ later) others =
    left_out mark.own mark (filter (λ (m : Mark). m.own) later) others.0 ∙ owned_none later others.1

pub owned_all : (marks : List Mark) → AreOwn marks → owned marks ≡ entries marks
owned_all [] own = refl
owned_all (mark ∷ later) own =
    taken_in mark.own mark (filter (λ (m : Mark). m.own) later) own.0
    ∙ ap (λ (xs : List Entry). mark.entry ∷ xs) (owned_all later own.1)

pub owned_is_own : OwnedIsOwn
owned_is_own marks = (owned_none marks, owned_all marks)
