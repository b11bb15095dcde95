-- When a request for a subscription is refused, and what is asked for next.
use Rattle.std.proofs.Common.{◌≡◌, ◌≤◌, ◌+◌, ◌%◌, ◌^◌, ℕ, Bool, true, false, cond, List, [], ◌∷◌, ◌++◌, length, refl, sym, ap, ◌∙◌, arith}
use Rattle.std.specs.Prelude.{◌↔◌, ◌==◌, nat_le}
use Rattle.std.proofs.lemmas.Bool.{cond-true, eq-eqb, leb-true, le-leb}
use Rattle.swima_request.specs.declared.request.Request.{Request}
use Rattle.swima_subs.specs.declared.sub_answer.SubAnswer.{SubAnswer}
use Rattle.swima_subs.specs.declared.sub_answer.SubAnswer.TheVariants.{Taken, Reused, Denied}
use Rattle.swima_subs.specs.declared.waiting.Waiting.{Waiting}
use Rattle.swima_subs.specs.Meaning.{DeniedIsFull, NextIsAfter, ReusedIsHeld}
use Rattle.swima_subs.specs.Subscriptions.{MOST_SUBSCRIPTIONS, applied, cleared, established, is_held, new_waiting}

-- Where the flag is set.
subscribes : (subs : List Waiting) (request : Request) → request.subscribe ≡ true → (applied subs request).0 ≡ (established (cleared subs request) request).0
subscribes subs request set = ap (λ (b : Bool). (cond {A = SubAnswer × List Waiting} b (established (cleared subs request) request) (Taken, cleared subs request)).0) set

abbrev answer_by : Bool → Bool → ℕ → SubAnswer
answer_by held full id = cond held (Reused id) (cond full (Denied MOST_SUBSCRIPTIONS) Taken)

answer_is : (subs : List Waiting) (request : Request) → (established subs request).0 ≡ answer_by (is_held request.id subs) (nat_le MOST_SUBSCRIPTIONS (length subs)) request.id
answer_is subs request = by_tests (is_held request.id subs) (nat_le MOST_SUBSCRIPTIONS (length subs))
  where
    by_tests : (held full : Bool)
        → (cond {A = SubAnswer × List Waiting} held (Reused request.id, subs) (cond full (Denied MOST_SUBSCRIPTIONS, subs) (Taken, subs ++ new_waiting request ∷ []))).0 ≡ answer_by held full request.id
    by_tests true full = refl
    by_tests false true = refl
    by_tests false false = refl

reused_if : (held full : Bool) (id : ℕ) → (answer_by held full id ≡ Reused id) ↔ (held ≡ true)
reused_if true full id = (λ is. refl, λ is. refl)
reused_if false true id = (λ is. absurd cc, λ is. absurd cc)
reused_if false false id = (λ is. absurd cc, λ is. absurd cc)

denied_if : (held full : Bool) (id : ℕ) → (answer_by held full id ≡ Denied MOST_SUBSCRIPTIONS) ↔ ((held ≡ false) × (full ≡ true))
denied_if true full id = (λ is. absurd cc, λ both. let no : true ≡ false = both.0 in absurd cc)
denied_if false true id = (λ is. (refl, refl), λ both. refl)
denied_if false false id = (λ is. absurd cc, λ both. let no : false ≡ true = both.1 in absurd cc)

module _ (subs : List Waiting) (request : Request) (set : request.subscribe ≡ true) where
  so : (applied subs request).0 ≡ answer_by (is_held request.id (cleared subs request)) (nat_le MOST_SUBSCRIPTIONS (length (cleared subs request))) request.id
  so = subscribes subs request set ∙ answer_is (cleared subs request) request

  reused_so : ((applied subs request).0 ≡ Reused request.id) ↔ (is_held request.id (cleared subs request) ≡ true)
  reused_so =
      let by = reused_if (is_held request.id (cleared subs request)) (nat_le MOST_SUBSCRIPTIONS (length (cleared subs request))) request.id in
      (λ is. by.0 (sym so ∙ is), λ held. so ∙ by.1 held)

  denied_so : ((applied subs request).0 ≡ Denied MOST_SUBSCRIPTIONS) ↔ ((is_held request.id (cleared subs request) ≡ false) × (MOST_SUBSCRIPTIONS ≤ length (cleared subs request)))
  denied_so =
      let by = denied_if (is_held request.id (cleared subs request)) (nat_le MOST_SUBSCRIPTIONS (length (cleared subs request))) request.id in (
        λ is. let both = by.0 (sym so ∙ is) in (both.0, leb-true MOST_SUBSCRIPTIONS (length (cleared subs request)) both.1),
        λ both. so ∙ by.1 (both.0, le-leb MOST_SUBSCRIPTIONS (length (cleared subs request)) both.1),
      )

pub reused_is_held : ReusedIsHeld
reused_is_held subs request set = reused_so subs request set

pub denied_is_full : DeniedIsFull
denied_is_full subs request set = denied_so subs request set

-- ---- the next request

pub next_is_after : NextIsAfter
next_is_after place now same earlier below = cond-true (place.epoch == now.epoch) ((place.eid + 1) % 2 ^ 32) 0 (eq-eqb place.epoch now.epoch same) ∙ omega (arith, earlier, below)
