-- Passes that were put into stands, served there, and met again.
use Rattle.std.proofs.Common.{◌≡◌, ◌<◌, ◌≤◌, ◌++◌, ◌∙◌, ◌&&◌, not, ℕ, zero, suc, Bool, true, false, List, [], ◌∷◌, Option, Some, IfSome, get_or, length, refl, sym, ap, subst, arith}
use Rattle.std.specs.List.{All}
use Rattle.std.specs.Option.{is_some, unwrap_or}
use Rattle.atomic_table.specs.Seated.{TableId}
use Rattle.wire_base.specs.Turns.{Turn}
use Rattle.collector_core.specs.declared.chronicle.Entry.{Entry}
use Rattle.collector_core.specs.declared.chronicle.Mark.{Mark}
use Rattle.collector_core.specs.Desks.{entries}
use Rattle.book_lock.specs.Passes.{PassView, split_from}
use Rattle.book_lock.specs.Together.{AllBegin, AreOf, AreReaders}
use Rattle.session_door.specs.declared.work.Stop.TheVariants as stop
use Rattle.session_door.specs.declared.work.Work.{Work}
use Rattle.session_door.specs.Serving.{Serves}
use Rattle.session_door.specs.Visits.{DoorState}
use Rattle.session_pool.specs.declared.config.PoolConfig.{PoolConfig}
use Rattle.session_pool.specs.declared.outcome.Outcome.{Outcome}
use Rattle.session_pool.specs.declared.stand.Stand.{Stand}
use Rattle.session_pool.specs.Rooms.{ArePassed, GivePasses, GivesPass}
use Rattle.session_pool.specs.Servers.{ServesDoors}
use Rattle.session_pool.specs.Stands.{AreReady, AtEach, IsReady, ServesAt}
use Rattle.session_pool.proofs.Places.{UpTo}

any_work : Work
any_work = record { ends = []; stop = stop.Done }

sole_still : (b : Bool) → (b && not false) ≡ b
sole_still true = refl
sole_still false = refl

-- Whoever is split off to read leaves the pass as it was.
pub unsplit : (left pass : PassView) → left ≡ record pass { sole = pass.sole && not false } → left ≡ pass
unsplit left pass kept = kept ∙ ap (λ (b : Bool). record pass { sole = b }) (sole_still pass.sole)

-- One of a list that is not empty.
one_of : {A : Type 0} (xs : List A) → 0 < length xs → A
one_of [] some = absurd (omega (arith, some))
one_of (x ∷ xs) some = x

-- ---- passes one by one

pub are_of : (shelf : TableId) (passes : List PassView) → ((place : ℕ) (other : PassView) → place < length passes → (get_or passes place other).shelf ≡ shelf) → AreOf shelf passes
are_of shelf [] each = tt
are_of shelf (pass ∷ passes) each = (each 0 pass (omega arith), are_of shelf passes (λ place other less. each (suc place) other (omega (arith, less))))

pub are_readers : (passes : List PassView) → ((place : ℕ) (other : PassView) → place < length passes → (get_or passes place other).may_change ≡ false) → AreReaders passes
are_readers [] each = tt
are_readers (pass ∷ passes) each = (each 0 pass (omega arith), are_readers passes (λ place other less. each (suc place) other (omega (arith, less))))

pub begins_at : (passes : List PassView) (seen : List Mark) → AllBegin passes seen → (place : ℕ) (other : PassView) → place < length passes
    → (rest : List Entry) × (entries seen ≡ entries (get_or passes place other).seen ++ rest)
begins_at [] seen all place other less = absurd (omega (arith, less))
begins_at (pass ∷ passes) seen all zero other less = all.0
begins_at (pass ∷ passes) seen all (suc place) other less = begins_at passes seen all.1 place other (omega (arith, less))

-- ---- what was put in

pub all_passed : {D : Type 0} (pass : PassView) (k : ℕ) (before after : List (Stand D)) → length before ≤ k
    → UpTo (λ (place : ℕ) (one other : Stand D). other ≡ record one { pass = Some pass }) k before after → ArePassed pass before after
all_passed pass k before after all far = record {
  count = far.count;
  each = λ place stand less. far.done place stand (omega (arith, less, all)) less;
}

module _ {D : Type 0} (out : D → Bool) (pass : PassView) (before seated : List (Stand D)) (put : ArePassed pass before seated) where
  pub passed_home : AreReady out before → All (λ (stand : Stand D). out stand.door ≡ false) seated
  passed_home ready place stand less =
      ap (λ (s : Stand D). out s.door) (put.each place stand (omega (arith, less, put.count)))
      ∙ (ready place stand (omega (arith, less, put.count))).3

  pub passed_passes : All (λ (stand : Stand D). is_some stand.pass ≡ true) seated
  passed_passes place stand less = ap (λ (s : Stand D). is_some s.pass) (put.each place stand (omega (arith, less, put.count)))

  pub passed_here : (shelf : TableId) → pass.shelf ≡ shelf → All (λ (stand : Stand D). IfSome stand.pass (λ (p : PassView). p.shelf ≡ shelf)) seated
  passed_here shelf here place stand less =
      subst (λ (s : Stand D). IfSome s.pass (λ (p : PassView). p.shelf ≡ shelf)) (sym (put.each place stand (omega (arith, less, put.count)))) here

-- ---- what was done, and taken out

-- Of any doors, of which `state` is what they expose, and any links.
module _ {D L : Type 0} (taken : L → Option (List Turn)) (given : L → Option (List ℕ)) (faults : L → ℕ) (state : D → DoorState L) (out : D → Bool) (c : PoolConfig) where
  -- At one stand.
  module _ (before seated after left : Stand D) (pass later : PassView) (work : Work) (put : seated ≡ record before { pass = Some pass })
      (so : ServesAt taken given faults state out c.serve c.sessions seated after) (gives : GivesPass after later left work) where
    had : so.pass ≡ pass
    had = ap (λ (o : Option PassView). unwrap_or o pass) (sym so.had ∙ ap (λ (s : Stand D). s.pass) put)

    has : so.later ≡ later
    has = ap (λ (o : Option PassView). unwrap_or o later) (sym (ap (λ (s : Stand D). s.pass) so.has) ∙ gives.0)

    did : so.work ≡ work
    did = ap (λ (o : Option Work). unwrap_or o work) (sym (ap (λ (s : Stand D). s.work) so.has) ∙ gives.1)

    here : seated.door ≡ before.door
    here = ap (λ (s : Stand D). s.door) put

    back : after.door ≡ left.door
    back = sym (ap (λ (s : Stand D). s.door) gives.2)

    pub served_one : Serves taken given faults c.serve c.sessions pass (state before.door) later (state left.door) work
    served_one =
        subst (λ (p : PassView). Serves taken given faults c.serve c.sessions p (state before.door) later (state left.door) work) had
        (subst (λ (d : D). Serves taken given faults c.serve c.sessions so.pass (state d) later (state left.door) work) here
        (subst (λ (p : PassView). Serves taken given faults c.serve c.sessions so.pass (state seated.door) p (state left.door) work) has
        (subst (λ (d : D). Serves taken given faults c.serve c.sessions so.pass (state seated.door) so.later (state d) work) back
        (subst (λ (w : Work). Serves taken given faults c.serve c.sessions so.pass (state seated.door) so.later (state after.door) w) did so.serves))))

    pub ready_one : IsReady out before → IsReady out left
    ready_one ready = (
      ap (λ (s : Stand D). s.pass) gives.2,
      ap (λ (s : Stand D). s.mirror) gives.2 ∙ ap (λ (s : Stand D). s.mirror) so.has ∙ ap (λ (s : Stand D). s.mirror) put ∙ ready.1,
      ap (λ (s : Stand D). s.work) gives.2,
      ap out (sym back) ∙ so.home,
    )

  -- At all.
  module _ (seated after : List (Stand D)) (far : AtEach (ServesAt taken given faults state out c.serve c.sessions) seated after) where
    pub served_passes : All (λ (stand : Stand D). is_some stand.pass ≡ true) after
    served_passes place stand less = ap (λ (s : Stand D). is_some s.pass) (far.each place stand (omega (arith, less, far.count))).has

    pub served_works : All (λ (stand : Stand D). is_some stand.work ≡ true) after
    served_works place stand less = ap (λ (s : Stand D). is_some s.work) (far.each place stand (omega (arith, less, far.count))).has

    module _ (first : PassView) (passes : List PassView) (before left : List (Stand D)) (outcome : Outcome) (put : ArePassed (split_from first false) before seated) (gives : GivePasses after passes left outcome) where
      -- What one worker did.
      serves_at : (place : ℕ) (pass : PassView) (stand gone : Stand D) (work : Work) → place < length before
          → Serves taken given faults c.serve c.sessions (split_from first false) (state (get_or before place stand).door) (get_or passes place pass) (state (get_or left place gone).door) (get_or gives.works place work)
      serves_at place pass stand gone work less =
          served_one (get_or before place stand) (get_or seated place stand) (get_or after place stand) (get_or left place gone) (split_from first false) (get_or passes place pass) (get_or gives.works place work)
          (put.each place stand less) (far.each place stand (omega (arith, less, put.count))) (gives.each place pass stand gone work (omega (arith, less, put.count, far.count)))

      within : (place : ℕ) → place < length passes → place < length before
      within place less = omega (arith, less, gives.passes_count, far.count, put.count)

      -- Its pass.
      stand_at : (place : ℕ) → place < length passes → Stand D
      stand_at place less = one_of before (omega (arith, within place less))

      went_at : (place : ℕ) (pass : PassView) (less : place < length passes) → Serves taken given faults c.serve c.sessions (split_from first false)
          (state (get_or before place (stand_at place less)).door) (get_or passes place pass) (state (get_or left place (stand_at place less)).door) (get_or gives.works place any_work)
      went_at place pass less = serves_at place pass (stand_at place less) (stand_at place less) any_work (within place less)

      pub all_here : (shelf : TableId) → first.shelf ≡ shelf → AreOf shelf passes
      all_here shelf here = are_of shelf passes (λ place pass less. (went_at place pass less).over.went.shelf ∙ here)

      pub all_readers : AreReaders passes
      all_readers = are_readers passes (λ place pass less. (went_at place pass less).over.went.may_change)

      pub served_all : (last : PassView) → AllBegin passes last.seen → ServesDoors taken given faults state c first last before left gives.works
      served_all last begin = record {
        doors_count = gives.doors_count ∙ far.count ∙ put.count;
        works_count = gives.works_count ∙ far.count ∙ put.count;
        each = λ place stand gone work less.
            let inside : place < length passes = omega (arith, less, gives.passes_count, far.count, put.count) in
            let began = begins_at passes last.seen begin place first inside in record {
              later = get_or passes place first;
              serves = serves_at place first stand gone work less;
              rest = began.0;
              saw = began.1;
            };
      }

      pub all_ready : AreReady out before → AreReady out left
      all_ready ready place stand less =
          let inside : place < length before = omega (arith, less, gives.doors_count, far.count, put.count) in
          let done = far.each place stand (omega (arith, inside, put.count)) in
          ready_one (get_or before place stand) (get_or seated place stand) (get_or after place stand) (get_or left place stand) (split_from first false) (get_or passes place first) (get_or gives.works place any_work)
          (put.each place stand inside) done (gives.each place first stand stand any_work (omega (arith, inside, put.count, far.count))) (ready place stand inside)
