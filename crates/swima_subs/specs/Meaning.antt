-- What the definitions of subscriptions mean.
use Rattle.std.specs.Prelude.{◌≡◌, ◌<◌, ◌≤◌, ◌+◌, ◌^◌, ◌↔◌, ℕ, true, false, List, length}
use Rattle.swima_model.specs.declared.report.Point.{Point}
use Rattle.swima_request.specs.declared.request.Request.{Request}
use Rattle.swima_subs.specs.declared.sub_answer.SubAnswer.TheVariants.{Reused, Denied}
use Rattle.swima_subs.specs.declared.waiting.Waiting.{Waiting}
use Rattle.swima_subs.specs.Subscriptions.{AreSubs, MOST_SUBSCRIPTIONS, applied, cleared, ended, is_held, next_from, reported}

-- A request is refused for its ID exactly where a subscription has that, once those were ended that
-- it ends.
abbrev pub ReusedIsHeld : Type 0
ReusedIsHeld = (subs : List Waiting) (request : Request) → request.subscribe ≡ true
    → ((applied subs request).0 ≡ Reused request.id) ↔ (is_held request.id (cleared subs request) ≡ true)

-- It is denied exactly where no subscription has its ID and as many are held as may be.
abbrev pub DeniedIsFull : Type 0
DeniedIsFull = (subs : List Waiting) (request : Request) → request.subscribe ≡ true
    → ((applied subs request).0 ≡ Denied MOST_SUBSCRIPTIONS)
    ↔ ((is_held request.id (cleared subs request) ≡ false) × (MOST_SUBSCRIPTIONS ≤ length (cleared subs request)))

-- Subscriptions stay at most 16, and their IDs different, whatever is done to them.
pub record StaySubs (subs : List Waiting) : Type 0 where
  pub applied_so : (request : Request) → AreSubs (applied subs request).1
  pub reported_so : (id : ℕ) (point : Point) → AreSubs (reported subs id point)
  pub ended_so : (id : ℕ) → AreSubs (ended subs id)

abbrev pub SubsStay : Type 0
SubsStay = (subs : List Waiting) → AreSubs subs → StaySubs subs

-- Events after a place are asked for from the next event identifier on, where the point of the same
-- epoch is later than the place.
abbrev pub NextIsAfter : Type 0
NextIsAfter = (place now : Point) → place.epoch ≡ now.epoch → place.eid < now.eid → now.eid < 2 ^ 32 → next_from place now ≡ place.eid + 1
