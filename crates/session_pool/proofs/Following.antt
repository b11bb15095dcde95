-- Mirrors that were put into stands, followed there, and taken out again.
use Rattle.std.proofs.Common.{◌≡◌, ◌<◌, ◌≤◌, ◌+◌, ◌∙◌, ℕ, Bool, true, false, true≢false, List, [], Option, Some, Result, Ok, Err, get_or, length, set, sym, ap, subst, arith}
use Rattle.std.specs.List.{All}
use Rattle.std.specs.Option.{is_some, unwrap_or}
use Rattle.std.specs.Prelude.{is_err}
use Rattle.wire_base.specs.Turns.{Turn}
use Rattle.wire_base.specs.declared.values.memory.Memory.{Memory}
use Rattle.swima_model.specs.declared.report.Kind.TheVariants as kind
use Rattle.validator_core.specs.Held.{Held, empty_mirror}
use Rattle.session_rules.specs.declared.config.FollowConfig.{FollowConfig}
use Rattle.session_door.specs.declared.work.Stop.TheVariants as stop
use Rattle.session_door.specs.declared.work.Work.{Work}
use Rattle.session_door.specs.Following.{FollowsLinks}
use Rattle.session_door.specs.Visits.{DoorState}
use Rattle.session_pool.specs.declared.follow_pool.Followed.{Followed}
use Rattle.session_pool.specs.declared.outcome.Outcome.{Outcome}
use Rattle.session_pool.specs.declared.stand.Stand.{Stand}
use Rattle.std.proofs.lemmas.List.{get_or_default}
use Rattle.session_pool.specs.Followers.{AnswersFollowed, FollowsDoors}
use Rattle.session_pool.specs.Outcomes.{one_ran_out}
use Rattle.session_pool.specs.Rooms.{AreSeated, GiveMirrors, GivesMirror}
use Rattle.session_pool.specs.Stands.{AreReady, AtEach, FollowsAt, IsReady}
use Rattle.session_pool.proofs.Places.{UpTo, one_more}

any_mirror : Held
any_mirror = empty_mirror kind.Full

any_work : Work
any_work = record { ends = []; stop = stop.Done }

-- ---- what was put in

-- The mirror was put into the stand at this place.
abbrev pub SeatedAt : {D : Type 0} → List Held → ℕ → Stand D → Stand D → Type 0
SeatedAt mirrors place before after = (mirror : Held) → after ≡ record before { mirror = Some (get_or mirrors place mirror) }

-- The mirrors at the first places may have changed, and the others are as they were.
abbrev pub AnyAt : ℕ → Held → Held → Type 0
AnyAt place before after = Unit {0}

-- One more may have.
pub any_more : (k : ℕ) (before now : List Held) (mirror : Held) → k < length before → UpTo AnyAt k before now → UpTo AnyAt (k + 1) before (set now k mirror)
any_more k before now mirror less far = one_more AnyAt k before now (get_or now k any_mirror) mirror less far (get_or_default now k any_mirror (get_or now k any_mirror) (omega (arith, less, far.count))) tt

pub all_seated : {D : Type 0} (mirrors : List Held) (k : ℕ) (before after : List (Stand D)) → length before ≤ k → UpTo (λ (place : ℕ) (one other : Stand D). SeatedAt mirrors place one other) k before after
    → AreSeated mirrors before after
all_seated mirrors k before after all far = record {
  count = far.count;
  each = λ place mirror stand less. far.done place stand (omega (arith, less, all)) less mirror;
}

module _ {D : Type 0} (out : D → Bool) (mirrors : List Held) (before seated : List (Stand D)) (put : AreSeated mirrors before seated) where
  pub seated_home : AreReady out before → All (λ (stand : Stand D). out stand.door ≡ false) seated
  seated_home ready place stand less =
      ap (λ (s : Stand D). out s.door) (put.each place any_mirror stand (omega (arith, less, put.count)))
      ∙ (ready place stand (omega (arith, less, put.count))).3

  pub seated_mirrors : All (λ (stand : Stand D). is_some stand.mirror ≡ true) seated
  seated_mirrors place stand less = ap (λ (s : Stand D). is_some s.mirror) (put.each place any_mirror stand (omega (arith, less, put.count)))

-- ---- what is answered

-- Where memory ran out for one of the workers.
pub lacked : (works : List Work) (result : Result Followed Memory) → is_err result ≡ true → one_ran_out works ≡ true → AnswersFollowed works result
lacked works (Ok all) failed out = absurd (true≢false (sym failed))
lacked works (Err memory) failed out = out

-- ---- what was done, and taken out

-- Of any doors, of which `state` is what they expose, and any links.
module _ {D L : Type 0} (taken : L → Option (List Turn)) (given : L → Option (List ℕ)) (faults : L → ℕ) (state : D → DoorState L) (out : D → Bool) (c : FollowConfig) (sessions : ℕ) where
  -- At one stand.
  module _ (before seated after left : Stand D) (mirror held : Held) (work : Work) (put : seated ≡ record before { mirror = Some mirror })
      (so : FollowsAt taken given faults state out c sessions seated after) (gives : GivesMirror after held left work) where
    had : so.mirror ≡ mirror
    had = ap (λ (o : Option Held). unwrap_or o mirror) (sym so.had ∙ ap (λ (s : Stand D). s.mirror) put)

    has : so.later ≡ held
    has = ap (λ (o : Option Held). unwrap_or o held) (sym (ap (λ (s : Stand D). s.mirror) so.has) ∙ gives.0)

    did : so.work ≡ work
    did = ap (λ (o : Option Work). unwrap_or o work) (sym (ap (λ (s : Stand D). s.work) so.has) ∙ gives.1)

    here : seated.door ≡ before.door
    here = ap (λ (s : Stand D). s.door) put

    back : after.door ≡ left.door
    back = sym (ap (λ (s : Stand D). s.door) gives.2)

    pub followed_one : FollowsLinks taken given faults c sessions mirror (state before.door) held (state left.door) work
    followed_one =
        subst (λ (m : Held). FollowsLinks taken given faults c sessions m (state before.door) held (state left.door) work) had
        (subst (λ (d : D). FollowsLinks taken given faults c sessions so.mirror (state d) held (state left.door) work) here
        (subst (λ (h : Held). FollowsLinks taken given faults c sessions so.mirror (state seated.door) h (state left.door) work) has
        (subst (λ (d : D). FollowsLinks taken given faults c sessions so.mirror (state seated.door) so.later (state d) work) back
        (subst (λ (w : Work). FollowsLinks taken given faults c sessions so.mirror (state seated.door) so.later (state after.door) w) did so.follows))))

    pub ready_one : IsReady out before → IsReady out left
    ready_one ready = (
      ap (λ (s : Stand D). s.pass) gives.2 ∙ ap (λ (s : Stand D). s.pass) so.has ∙ ap (λ (s : Stand D). s.pass) put ∙ ready.0,
      ap (λ (s : Stand D). s.mirror) gives.2,
      ap (λ (s : Stand D). s.work) gives.2,
      ap out (sym back) ∙ so.home,
    )

  -- At all.
  module _ (seated after : List (Stand D)) (far : AtEach (FollowsAt taken given faults state out c sessions) seated after) where
    pub followed_mirrors : All (λ (stand : Stand D). is_some stand.mirror ≡ true) after
    followed_mirrors place stand less = ap (λ (s : Stand D). is_some s.mirror) (far.each place stand (omega (arith, less, far.count))).has

    pub followed_works : All (λ (stand : Stand D). is_some stand.work ≡ true) after
    followed_works place stand less = ap (λ (s : Stand D). is_some s.work) (far.each place stand (omega (arith, less, far.count))).has

    module _ (mirrors held : List Held) (before left : List (Stand D)) (outcome : Outcome) (put : AreSeated mirrors before seated) (gives : GiveMirrors after held left outcome) where
      pub followed_all : length mirrors ≡ length before → length held ≡ length mirrors → FollowsDoors taken given faults state c sessions mirrors before held left gives.works
      followed_all many count = record {
        mirrors_count = many;
        held_count = count ∙ many;
        doors_count = gives.doors_count ∙ far.count ∙ put.count;
        works_count = gives.works_count ∙ far.count ∙ put.count;
        each = λ place mirror later stand gone work less.
            followed_one (get_or before place stand) (get_or seated place stand) (get_or after place stand) (get_or left place gone) (get_or mirrors place mirror) (get_or held place later) (get_or gives.works place work)
            (put.each place mirror stand less) (far.each place stand (omega (arith, less, put.count))) (gives.each place later stand gone work (omega (arith, less, put.count, far.count)));
      }

      pub all_ready : AreReady out before → AreReady out left
      all_ready ready place stand less =
          let within : place < length before = omega (arith, less, gives.doors_count, far.count, put.count) in
          let done = far.each place stand (omega (arith, within, put.count)) in
          ready_one (get_or before place stand) (get_or seated place stand) (get_or after place stand) (get_or left place stand) (get_or mirrors place any_mirror) (get_or held place any_mirror) (get_or gives.works place any_work)
          (put.each place any_mirror stand within) done (gives.each place any_mirror stand stand any_work (omega (arith, within, put.count, far.count))) (ready place stand within)
