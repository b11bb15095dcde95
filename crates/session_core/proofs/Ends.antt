-- How a turn ended a session.
use Rattle.std.proofs.Common.{◌≡◌, ◌≢◌, ℕ, Bool, false, Option, Some, None, refl, sym, subst}
use Rattle.wire_base.specs.Outside.{HasCause}
use Rattle.collector_session.specs.Cores as serve
use Rattle.validator_session.specs.Core as follow
use Rattle.session_rules.specs.declared.end.SessionEnd.{SessionEnd}
use Rattle.session_rules.specs.declared.end.SessionEnd.TheVariants as end
use Rattle.session_core.specs.Driving.{answer_of, is_link_fault}

-- What a turn comes to is the same at both ends.
pub serve_answer : (by : Option SessionEnd) → serve.turn_of by ≡ answer_of by
serve_answer None = refl
serve_answer (Some by) = refl

pub follow_answer : (by : Option SessionEnd) → follow.turn_of by ≡ answer_of by
follow_answer None = refl
follow_answer (Some by) = refl

pub not_fault : (by : SessionEnd) → by ≢ end.LinkFault → is_link_fault by ≡ false
not_fault end.LinkFault own = absurd (own refl)
not_fault end.Closed own = refl
not_fault end.PeerClosed own = refl
not_fault (end.PeerError vendor code) own = refl
not_fault (end.Refused code offset) own = refl
not_fault end.Ended own = refl
not_fault (end.Torn have) own = refl
not_fault (end.IdleOut turns) own = refl
not_fault end.Enough own = refl
not_fault end.Memory own = refl

-- No call of the link failed, and the session did not end so.
pub caused : (by : SessionEnd) (before after : ℕ) → by ≢ end.LinkFault → HasCause before after false → HasCause before after (is_link_fault by)
caused by before after own cause = subst (λ (b : Bool). HasCause before after b) (sym (not_fault by own)) cause
