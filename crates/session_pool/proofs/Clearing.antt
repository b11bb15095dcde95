-- Stands that are cleared one after another, with what came of their workers.
use Rattle.std.proofs.Common.{◌≡◌, ◌<◌, ◌≤◌, ◌+◌, ◌-◌, ◌++◌, ◌||◌, ◌∙◌, inl, inr, ℕ, Bool, true, false, List, [], ◌∷◌, get_or, length, set, refl, sym, ap, subst, arith}
use Rattle.std.specs.Prelude.{vec_capacity, vec_len}
use Rattle.std.proofs.lemmas.Bool.{cases_eq}
use Rattle.std.proofs.lemmas.List.{get_or-set_other, get_or-set_same, get_or_append_left, get_or_push, length-set, length_push, map-append}
use Rattle.std.proofs.lemmas.List.Folds.{list_any-append}
use Rattle.validator_core.specs.Held.{Held}
use Rattle.book_lock.specs.Passes.{PassView}
use Rattle.session_door.specs.declared.work.Work.{Work}
use Rattle.session_door.specs.Visits.{Noted, is_failed}
use Rattle.session_pool.specs.declared.outcome.Outcome.{Outcome}
use Rattle.session_pool.specs.declared.stand.Stand.{Stand}
use Rattle.session_pool.specs.Outcomes.{CameOf, one_ran_out, ran_out}
use Rattle.session_pool.specs.Rooms.{GiveMirrors, GivePasses, GivesMirror, GivesPass, HasRoom, IsOutcomeOf}

-- ---- what came of them

or_none : (b c : Bool) → (b || c) ≡ (b || (c || false))
or_none true c = refl
or_none false true = refl
or_none false false = refl

came_more : (works : List Work) (work : Work) (outcome next : Outcome) → IsOutcomeOf works outcome → next.ends.items ≡ outcome.ends.items ++ work.ends ∷ []
    → next.door_failed.items ≡ outcome.door_failed.items ++ is_failed work.stop ∷ [] → next.ran_out ≡ (outcome.ran_out || ran_out work.stop) → IsOutcomeOf (works ++ work ∷ []) next
came_more works work outcome next came ends failed out = (
  ends ∙ ap (λ (es : List (List Noted)). es ++ work.ends ∷ []) came.0 ∙ sym (map-append (λ (w : Work). w.ends) works (work ∷ [])),
  failed ∙ ap (λ (fs : List Bool). fs ++ is_failed work.stop ∷ []) came.1 ∙ sym (map-append (λ (w : Work). is_failed w.stop) works (work ∷ [])),
  out ∙ ap (λ (b : Bool). b || ran_out work.stop) came.2 ∙ or_none (one_ran_out works) (ran_out work.stop) ∙ sym (list_any-append (λ (w : Work). ran_out w.stop) works (work ∷ [])),
)

-- What is answered of them; and that memory ran out for one of them.
pub came_of : (works : List Work) (outcome : Outcome) (ends : List (List Noted)) (failed : List Bool) → IsOutcomeOf works outcome → ends ≡ outcome.ends.items → failed ≡ outcome.door_failed.items → outcome.ran_out ≡ false
    → CameOf works ends failed
came_of works outcome ends failed came same_ends same_failed none = (same_ends ∙ came.0, same_failed ∙ came.1, sym came.2 ∙ none)

pub one_lacked : (works : List Work) (outcome : Outcome) → IsOutcomeOf works outcome → outcome.ran_out ≡ true → one_ran_out works ≡ true
one_lacked works outcome came out = sym came.2 ∙ out

-- ---- the stands

-- What a stand gave, from it before to it after, beside the work of its worker.
module _ {A D : Type 0} (gives : Stand D → A → Stand D → Work → Type 0) where
  -- The first stands were cleared, and there is room for what the others give.
  pub record Cleared (k : ℕ) (before : List (Stand D)) (items : List A) (after : List (Stand D)) (outcome : Outcome) : Type 0 where
    pub works : List Work
    pub works_count : length works ≡ k
    pub within : k ≤ length before
    pub doors_count : length after ≡ length before
    pub each : (place : ℕ) (item : A) (stand left : Stand D) (work : Work) → place < k → place < length before
        → gives (get_or before place stand) (get_or items place item) (get_or after place left) (get_or works place work)
    pub rest : (place : ℕ) (other : Stand D) → k ≤ place → get_or after place other ≡ get_or before place other
    pub came : IsOutcomeOf works outcome
    pub room : HasRoom (length before - k) outcome

  pub none_cleared : (before : List (Stand D)) (items : List A) (outcome : Outcome) → IsOutcomeOf [] outcome → HasRoom (length before) outcome → Cleared 0 before items before outcome
  none_cleared before items outcome none room = record {
    works = [];
    works_count = refl;
    within = omega arith;
    doors_count = refl;
    each = λ place item stand left work less within. absurd (omega (arith, less));
    rest = λ place other more. refl;
    came = none;
    room = (omega (arith, room.0), omega (arith, room.1));
  }

  module _ (k : ℕ) (before : List (Stand D)) (items later : List A) (after : List (Stand D)) (outcome next : Outcome) (y : Stand D) (item : A) (work : Work) (less : k < length before)
      (far : Cleared k before items after outcome) (now : (stand : Stand D) → gives (get_or before k stand) item y work)
      (kept : (place : ℕ) (other : A) → place < k → get_or later place other ≡ get_or items place other) (new : (other : A) → get_or later k other ≡ item) where
    abbrev works_now : List Work
    works_now = far.works ++ work ∷ []

    at_last : (place : ℕ) (other : A) (stand left : Stand D) (one : Work) → place ≡ k → gives (get_or before place stand) (get_or later place other) (get_or (set after k y) place left) (get_or works_now place one)
    at_last place other stand left one same =
        subst (λ (p : ℕ). gives (get_or before p stand) (get_or later p other) (get_or (set after k y) p left) (get_or works_now p one)) (sym same)
        (subst (λ (a : A). gives (get_or before k stand) a (get_or (set after k y) k left) (get_or works_now k one)) (sym (new other))
        (subst (λ (s : Stand D). gives (get_or before k stand) item s (get_or works_now k one)) (sym (get_or-set_same after k y left (omega (arith, less, far.doors_count))))
        (subst (λ (w : Work). gives (get_or before k stand) item y w) (sym (get_or_push far.works work one k far.works_count)) (now stand))))

    at_first : (place : ℕ) (other : A) (stand left : Stand D) (one : Work) → place < k → (place ≡ k → ⊥) → gives (get_or before place stand) (get_or later place other) (get_or (set after k y) place left) (get_or works_now place one)
    at_first place other stand left one soon apart =
        subst (λ (a : A). gives (get_or before place stand) a (get_or (set after k y) place left) (get_or works_now place one)) (sym (kept place other soon))
        (subst (λ (s : Stand D). gives (get_or before place stand) (get_or items place other) s (get_or works_now place one)) (sym (get_or-set_other after k place y left apart))
        (subst (λ (w : Work). gives (get_or before place stand) (get_or items place other) (get_or after place left) w) (sym (get_or_append_left far.works (work ∷ []) one place (omega (arith, soon, far.works_count))))
        (far.each place other stand left one soon (omega (arith, soon, less)))))

    -- One more was cleared.
    pub cleared_more : next.ends.items ≡ outcome.ends.items ++ work.ends ∷ [] → next.door_failed.items ≡ outcome.door_failed.items ++ is_failed work.stop ∷ []
        → next.ran_out ≡ (outcome.ran_out || ran_out work.stop) → vec_len next.ends ≡ vec_len outcome.ends + 1 → vec_len next.door_failed ≡ vec_len outcome.door_failed + 1
        → vec_capacity outcome.ends ≤ vec_capacity next.ends → vec_capacity outcome.door_failed ≤ vec_capacity next.door_failed → Cleared (k + 1) before later (set after k y) next
    cleared_more ends failed out ends_len failed_len ends_room failed_room = record {
      works = works_now;
      works_count = length_push far.works work ∙ ap (λ (n : ℕ). n + 1) far.works_count;
      within = omega (arith, less);
      doors_count = length-set after k y ∙ far.doors_count;
      each = λ place other stand left one soon within. elim (cases_eq place k) [
        | inl same ↦ at_last place other stand left one same
        | inr apart ↦ at_first place other stand left one (omega (arith, soon, apart)) apart
      ];
      rest = λ place other more.
          get_or-set_other after k place y other (λ same. absurd (omega (arith, more, same))) ∙ far.rest place other (omega (arith, more));
      came = came_more far.works work outcome next far.came ends failed out;
      room = (omega (arith, less, far.room.0, ends_len, ends_room), omega (arith, less, far.room.1, failed_len, failed_room));
    }

-- ---- all of them

module _ {D : Type 0} (k : ℕ) (before after : List (Stand D)) (outcome : Outcome) (all : length before ≤ k) where
  pub mirrors_cleared : (mirrors : List Held) → Cleared (λ (one : Stand D) (mirror : Held) (other : Stand D) (work : Work). GivesMirror one mirror other work) k before mirrors after outcome
      → GiveMirrors before mirrors after outcome
  mirrors_cleared mirrors far = record {
    works = far.works;
    doors_count = far.doors_count;
    works_count = omega (arith, far.works_count, far.within, all);
    each = λ place mirror stand left work less. far.each place mirror stand left work (omega (arith, less, all)) less;
    came = far.came;
  }

  pub passes_cleared : (passes : List PassView) → length passes ≡ k → Cleared (λ (one : Stand D) (pass : PassView) (other : Stand D) (work : Work). GivesPass one pass other work) k before passes after outcome
      → GivePasses before passes after outcome
  passes_cleared passes count far = record {
    works = far.works;
    doors_count = far.doors_count;
    works_count = omega (arith, far.works_count, far.within, all);
    passes_count = omega (arith, count, far.within, all);
    each = λ place pass stand left work less. far.each place pass stand left work (omega (arith, less, all)) less;
    came = far.came;
  }
