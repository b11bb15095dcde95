-- What was done to one step.
use Rattle.std.proofs.Common.{◌≡◌, ℕ, false, List, [], ◌∷◌, Result, Ok, Err, subst}
use Rattle.std.specs.Prelude.{is_ok, is_some, OnOk}
use Rattle.session_talk.specs.Course.{Breaks, Gives}
use Rattle.session_hear.specs.Step.{Step}
use Rattle.session_hear.specs.Serving.{serve}
use Rattle.session_rules.specs.declared.config.FollowConfig.{FollowConfig}
use Rattle.session_rules.specs.Clauses.{Spoke, Spoken}
use Rattle.session_rules.specs.Following.{Stand}
use Rattle.session_rules.specs.FollowRules.{Follows, note, react, steps}
use Rattle.session_rules.specs.Taking.{NoQuestion, NoReply}
use Rattle.validator_session.specs.Doing.{Course}
use Rattle.validator_session.proofs.Coring.{lost_one, says_one}
use Rattle.validator_session.proofs.Turns.{reacts}

-- What the rules say to a step was done, or memory ran out.
pub step_so : {T E : Type 0} (c : FollowConfig) (s next : Stand) (waits now : List ℕ) (step : Step) (result : Result T E) → is_some s.over ≡ false
    → Spoken {Q = NoQuestion} {R = NoReply} waits now (note s) (steps c s step) next (note next) result
    → Spoke {Q = NoQuestion} {R = NoReply} waits now (λ replies out. Course (is_ok result) replies (note s) (serve (react c) note s (step ∷ [])) out next)
step_so c s next waits now step (Ok done) live so =
    says_one c waits now s next step (subst (λ (talk : Follows). Spoke {Q = NoQuestion} {R = NoReply} waits now (λ replies out. Gives replies talk [] out next)) (reacts c s step live) so)
step_so c s next waits now step (Err error) live so =
    lost_one c waits now s next step (subst (λ (talk : Follows). Spoke {Q = NoQuestion} {R = NoReply} waits now (λ replies out. Breaks replies (note s) talk [] out (note next))) (reacts c s step live) so)

-- What is true of a call that went well.
pub on_ok : {T E P Q : Type 0} (result : Result T E) → (P → Q) → OnOk result P → OnOk result Q
on_ok (Ok done) so p = so p
on_ok (Err error) so p = tt
