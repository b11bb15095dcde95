-- The subscriptions of a session (RFC 8412, section 3.8), in the order in which they were
-- established.
use Rattle.std.specs.Prelude.{◌≡◌, ◌==◌, ◌≤◌, ◌+◌, ◌%◌, ◌^◌, ℕ, Bool, true, false, not, List, [], ◌∷◌, ◌++◌, Some, None, length, map, filter, nat_le, if◌then◌else◌}
use Rattle.std.specs.List.{list_any}
use Rattle.swima_model.specs.declared.report.Point.{Point}
use Rattle.swima_request.specs.declared.request.Request.{Request}
use Rattle.swima_subs.specs.declared.sub_answer.SubAnswer.{SubAnswer}
use Rattle.swima_subs.specs.declared.sub_answer.SubAnswer.TheVariants.{Taken, Reused, Denied, Memory}
use Rattle.swima_subs.specs.declared.waiting.Waiting.{Waiting}

-- The most subscriptions of a session.
abbrev pub MOST_SUBSCRIPTIONS : ℕ
MOST_SUBSCRIPTIONS = 16

-- A subscription has the ID.
abbrev pub has_id : ℕ → Waiting → Bool
has_id id held = held.request.id == id

abbrev pub is_held : ℕ → List Waiting → Bool
is_held id subs = list_any (has_id id) subs

-- No two have one ID.
abbrev pub AreDifferent : List Waiting → Type 0
AreDifferent [] = Unit {0}
AreDifferent (held ∷ later) = (is_held held.request.id later ≡ false) × AreDifferent later

-- What is true of the subscriptions of a session.
pub record AreSubs (subs : List Waiting) : Type 0 where
  pub few : length subs ≤ MOST_SUBSCRIPTIONS
  pub different : AreDifferent subs

-- ---- requests

-- A request with the flag Clear Subscriptions ends all of them first (section 3.8.3).
abbrev pub cleared : List Waiting → Request → List Waiting
cleared subs request = if request.clear then [] else subs

-- A subscription that was not fulfilled yet.
abbrev pub new_waiting : Request → Waiting
new_waiting request = record { request = request; place = None }

-- A request with the flag Subscribe establishes one (section 3.8.1). One whose ID is held is
-- refused, and so is one where as many are held as may be.
abbrev pub established : List Waiting → Request → SubAnswer × List Waiting
established subs request =
    if is_held request.id subs then (Reused request.id, subs)
    else (if nat_le MOST_SUBSCRIPTIONS (length subs) then (Denied MOST_SUBSCRIPTIONS, subs)
    else (Taken, subs ++ new_waiting request ∷ []))

-- What is answered to a request, and the subscriptions then.
abbrev pub applied : List Waiting → Request → SubAnswer × List Waiting
applied subs request = if request.subscribe then established (cleared subs request) request else (Taken, cleared subs request)

-- ---- reports

-- The subscription of the ID was fulfilled up to the point (section 3.8.5).
abbrev pub fulfilled_to : ℕ → Point → Waiting → Waiting
fulfilled_to id point held = if has_id id held then record held { place = Some point } else held

abbrev pub reported : List Waiting → ℕ → Point → List Waiting
reported subs id point = map (fulfilled_to id point) subs

-- The subscription of the ID is ended.
abbrev pub ended : List Waiting → ℕ → List Waiting
ended subs id = filter (λ (held : Waiting). not (has_id id held)) subs

-- The event identifier from which on events are asked for after a place: the one after it, or 0,
-- which asks for the inventory, where the epoch is another now. After the last event identifier of
-- four octets comes 0 too.
abbrev pub next_from : Point → Point → ℕ
next_from place now = if place.epoch == now.epoch then (place.eid + 1) % 2 ^ 32 else 0

-- The request that fulfils a subscription further, from the point up to which it was fulfilled
-- (section 3.8.5.2).
abbrev pub next_request : Request → Point → Point → Request
next_request request place now = record request { clear = false; subscribe = false; earliest = next_from place now }

-- The requests of the subscriptions that are held (section 3.8.4).
abbrev pub status : List Waiting → List Request
status subs = map (λ (held : Waiting). held.request) subs

-- ---- calls

-- A request was applied, or memory ran out before the subscription was there that it establishes.
abbrev pub Applied : List Waiting → Request → SubAnswer → List Waiting → Type 0
Applied before request Memory after = ((applied before request).0 ≡ Taken) × (request.subscribe ≡ true) × (after ≡ cleared before request)
Applied before request answer after = applied before request ≡ (answer, after)

abbrev pub Establishes : List Waiting → Request → SubAnswer → List Waiting → Type 0
Establishes before request Memory after = ((established before request).0 ≡ Taken) × (after ≡ before)
Establishes before request answer after = established before request ≡ (answer, after)
