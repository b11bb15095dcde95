-- The messages of a batch are no larger than the batch.
use Rattle.std.proofs.Common.{ℕ, zero, suc, ◌+◌, ◌≤◌, ◌<◌, ◌&&◌, Bool, true, false, cond, List, [], ◌∷◌, Some, None, length, get_or, subst, arith}
use Rattle.std.specs.Prelude.{◌==◌, IfSome, sum_by}
use Rattle.std.proofs.lemmas.List.Sums.{sum_by-cons}
use Rattle.pa_attrs.specs.Numbers.{IETF}
use Rattle.pb_batch.specs.declared.batch.Message.{Message}
use Rattle.pb_batch.specs.declared.batch.Message.TheVariants.{Pa, Assessment, Recommendation, Error, Frame}
use Rattle.pb_batch.specs.Form.{message_octets}
use Rattle.swima_request.specs.AttributeTypes.{SWIMA_ATTRIBUTES}
use Rattle.session_rules.specs.Saying.{swima_body}

-- One message has no more octets than all.
one_of : (messages : List Message) (i most : ℕ) (d : Message) → i < length messages → sum_by message_octets messages ≤ most → message_octets (get_or messages i d) ≤ most
one_of [] i most d less all = absurd (omega (arith, less))
one_of (m ∷ ms) zero most d less all =
    let octets : message_octets m + sum_by message_octets ms ≤ most = subst (λ (n : ℕ). n ≤ most) (sum_by-cons message_octets m ms) all in
    let here : message_octets m ≤ most = omega (arith, octets) in
    here
one_of (m ∷ ms) (suc i) most d less all =
    let octets : message_octets m + sum_by message_octets ms ≤ most = subst (λ (n : ℕ). n ≤ most) (sum_by-cons message_octets m ms) all in
    one_of ms i most d (omega (arith, less)) (omega (arith, octets))

body_fits : (message : Message) → message_octets message ≤ 16777216 → IfSome (swima_body message) (λ body. length body ≤ 16777216)
body_fits (Pa excl vendor subtype collector validator body) fits = by_test ((vendor == IETF) && (subtype == SWIMA_ATTRIBUTES))
  where
    by_test : (b : Bool) → IfSome (cond b (Some body) None) (λ body. length body ≤ 16777216)
    by_test true = omega (arith, fits)
    by_test false = tt
body_fits (Assessment result) fits = tt
body_fits (Recommendation code) fits = tt
body_fits (Error fatal vendor code info) fits = tt
body_fits (Frame noskip vendor kind body) fits = tt

pub bodies_fit : (messages : List Message) (i : ℕ) (d : Message) → i < length messages → 8 + sum_by message_octets messages ≤ 16777216 → IfSome (swima_body (get_or messages i d)) (λ body. length body ≤ 16777216)
bodies_fit messages i d less all = body_fits (get_or messages i d) (one_of messages i 16777216 d less (omega (arith, all)))
