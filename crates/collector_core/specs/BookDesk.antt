-- A book as a desk: nobody else changes it.
use Rattle.std.proofs.Common.{◌≡◌, true, List, [], ◌∷◌, ◌++◌, refl, sym, ap, ◌∙◌, subst, append_assoc}
use Rattle.std.proofs.lemmas.List.{append-nil, map-append}
use Rattle.collector_core.specs.declared.chronicle.Entry.{Entry}
use Rattle.collector_core.specs.declared.chronicle.Mark.{Mark}
use Rattle.collector_core.specs.Chronicle.{Chronicle, extended}
use Rattle.collector_core.specs.Desks.{AreOwn, State, entries}
use Rattle.collector_core.specs.Legal.{IsLegal}
use Rattle.collector_core.specs.Standing.{BookView, Stands}

-- The entries are its own, and for each chronicle that it stood for it stands for that one with
-- them after it.
pub record BookWent (before : BookView) (marks : List Mark) (after : BookView) : Type 0 where
  pub own : AreOwn marks
  pub stood : (chronicle : Chronicle) → Stands before chronicle → Stands after (extended chronicle (entries marks))

-- What a change of the book looks at.
abbrev pub book_state : BookView → State
book_state book = record { epoch = book.epoch; last = book.log.last; next = book.next; records = book.records }

-- ---- entries after a chronicle

pub entries_append : (xs ys : List Mark) → entries (xs ++ ys) ≡ entries xs ++ entries ys
entries_append xs ys = map-append (λ (m : Mark). m.entry) xs ys

pub own_append : (xs ys : List Mark) → AreOwn xs → AreOwn ys → AreOwn (xs ++ ys)
own_append [] ys one two = two
own_append (x ∷ xs) ys one two = (one.0, own_append xs ys one.1 two)

pub extended_none : (chronicle : Chronicle) → extended chronicle [] ≡ chronicle
extended_none chronicle = ap (λ (xs : List Entry). record { start = chronicle.start; entries = xs }) (append-nil chronicle.entries)

pub extended_more : (chronicle : Chronicle) (xs ys : List Entry) → extended (extended chronicle xs) ys ≡ extended chronicle (xs ++ ys)
extended_more chronicle xs ys = ap (λ (zs : List Entry). record { start = chronicle.start; entries = zs })
    (append_assoc chronicle.entries xs ys)

-- ---- the laws of a desk

pub stays_book : (book : BookView) → BookWent book [] book
stays_book book = record { own = tt; stood = λ chronicle stands. subst (Stands book) (sym (extended_none chronicle)) stands }

pub went_on : (one two three : BookView) (first second : List Mark) → BookWent one first two → BookWent two second three
    → BookWent one (first ++ second) three
went_on one two three first second a b = record {
  own = own_append first second a.own b.own;
  stood = λ chronicle stands.
      subst (Stands three) (extended_more chronicle (entries first) (entries second)
      ∙ ap (extended chronicle) (sym (entries_append first second)))
      (b.stood (extended chronicle (entries first)) (a.stood chronicle stands));
}

pub went_with : (before after : BookView) (marks : List Mark) (chronicle : Chronicle) → BookWent before marks after
    → Stands before chronicle → Stands after (extended chronicle (entries marks))
went_with before after marks chronicle went stands = went.stood chronicle stands

pub takes_still : (before after : BookView) (marks : List Mark) → BookWent before marks after → true ≡ true
takes_still before after marks went = refl

pub stands_legal : (book : BookView) (chronicle : Chronicle) → Stands book chronicle → IsLegal chronicle
stands_legal book chronicle stands = stands.legal
