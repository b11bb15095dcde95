-- Whose the entries are that were made since a shelf was opened.
use Rattle.std.proofs.Common.{◌≡◌, ◌<◌, ◌+◌, ℕ, zero, suc, true, false, eqb, List, [], ◌∷◌, ◌++◌, length, refl, sym, ap, ◌∙◌, subst, arith, eq-eqb, eqb-true, true≢false, append-nil}
use Rattle.collector_core.specs.declared.chronicle.Mark.{Mark}
use Rattle.collector_core.specs.Desks.{AreOthers, AreOwn}
use Rattle.collector_core.specs.Standing.{BookView}
use Rattle.book_lock.specs.Logs.{Known, Logged, NoneBy, marked}
use Rattle.book_lock.specs.Meaning.{EachIsOwned, MetAreTheChronicle, Owns, SoleHasSeenAll}
use Rattle.book_lock.specs.Rule.{Kept}
use Rattle.book_lock.specs.Together.{one_if, own_at}
use Rattle.book_lock.proofs.Keeping.{BoardState, view_at}
use Rattle.book_lock.proofs.Logs.{AllBy, own_marked}
use Rattle.book_lock.proofs.Turns.{all_own, sole_rest}

-- ---- a sole pass

pub sole_has_seen_all : SoleHasSeenAll
sole_has_seen_all start s k number v at sole =
    let saw = (k.each number v at).saw in
    let rest = sole_rest start s k number v at sole saw in (
      saw.is ∙ ap (marked number) (sym (saw.whole ∙ ap (λ (xs : List Logged). saw.first ++ xs) rest ∙ append-nil saw.first)),
      subst AreOwn (sym saw.is) (own_marked number saw.first saw.rest (subst (AllBy number) saw.whole (all_own start s k number v at sole))),
    )

-- ---- the pass of an entry

abbrev author : List Logged → ℕ → ℕ
author [] place = 0
author (e ∷ later) zero = e.1
author (e ∷ later) (suc place) = author later place

author_known : (count : ℕ) (log : List Logged) (place : ℕ) → Known count log → place < length log → author log place < count
author_known count [] place known below = absurd (omega (arith, below))
author_known count (e ∷ later) zero known below = known.0
author_known count (e ∷ later) (suc place) known below = author_known count later place known.1 (omega (arith, below))

-- It is not among those of which none is the pass's.
not_there : (number : ℕ) (log : List Logged) (place : ℕ) → NoneBy number log → place < length log → author log place ≡ number → ⊥
not_there number [] place none below is = omega (arith, below)
not_there number (e ∷ later) zero none below is = none.0 is
not_there number (e ∷ later) (suc place) none below is = not_there number later place none.1 (omega (arith, below)) is

owned_by : (number : ℕ) (first rest : List Logged) (place : ℕ) → place < length (first ++ rest) → author (first ++ rest) place ≡ number → NoneBy number rest
    → own_at (marked number first) place ≡ true
owned_by number [] rest place below is none = absurd (not_there number rest place none below is)
owned_by number (e ∷ first) rest zero below is none = eq-eqb e.1 number is
owned_by number (e ∷ first) rest (suc place) below is none = owned_by number first rest place (omega (arith, below)) is none

owner_is : (number : ℕ) (first rest : List Logged) (place : ℕ) → own_at (marked number first) place ≡ true → author (first ++ rest) place ≡ number
owner_is number [] rest place own = absurd (true≢false (sym own))
owner_is number (e ∷ first) rest zero own = eqb-true e.1 number own
owner_is number (e ∷ first) rest (suc place) own = owner_is number first rest place own

pub each_is_owned : EachIsOwned
each_is_owned start s k place below =
    let number = author k.log place in
    let seat = view_at s.views number (author_known (length s.views) k.log place k.known below) in
    let saw = (k.each number seat.0 seat.1).saw in
    let own = owned_by number saw.first saw.rest place (subst (λ (xs : List Logged). place < length xs) saw.whole below) (ap (λ (xs : List Logged). author xs place) (sym saw.whole)) saw.none in (
      number,
      (seat.0, seat.1, ap (λ (ms : List Mark). own_at ms place) saw.is ∙ own),
      λ other owns. only_owner start s k place other owns,
    )
  where
    only_owner : (start : BookView) (s : BoardState) (k : Kept start s) (place other : ℕ) → Owns s.views place other → other ≡ author k.log place
    only_owner start s k place other owns =
        let saw = (k.each other owns.0 owns.1).saw in
        sym (ap (λ (xs : List Logged). author xs place) saw.whole ∙ owner_is other saw.first saw.rest place (sym (ap (λ (ms : List Mark). own_at ms place) saw.is) ∙ owns.2))

-- ---- passes that met

none_own : (others : List Mark) (place : ℕ) → AreOthers others → own_at others place ≡ false
none_own [] place theirs = refl
none_own (m ∷ later) zero theirs = theirs.0
none_own (m ∷ later) (suc place) theirs = none_own later place theirs.1

own_still : (xs others : List Mark) (place : ℕ) → AreOthers others → own_at (xs ++ others) place ≡ own_at xs place
own_still [] others place theirs = none_own others place theirs
own_still (x ∷ xs) others zero theirs = refl
own_still (x ∷ xs) others (suc place) theirs = own_still xs others place theirs

pub met_are_the_chronicle : MetAreTheChronicle
met_are_the_chronicle passes one last ended met closes = (
  closes.stands,
  (λ place. met.owned place ∙ ap one_if (sym (ap (λ (ms : List Mark). own_at ms place) closes.grows.seen ∙ own_still one.seen closes.others place closes.theirs))),
  λ sole place below. met.each_once sole place
      (subst (λ (ms : List Mark). place < length ms)
      (closes.grows.seen ∙ ap (λ (ms : List Mark). one.seen ++ ms) (closes.alone sole) ∙ append-nil one.seen) below),
)
