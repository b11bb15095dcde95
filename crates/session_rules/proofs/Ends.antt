-- After the session nothing is done, and the last octet that the limit allows ends it.
use Rattle.std.proofs.Common.{◌≡◌, Option, Some, None, refl, ap}
use Rattle.session_talk.specs.Talk.{Done}
use Rattle.session_hear.specs.Step.{Step, Spent}
use Rattle.session_rules.specs.declared.config.FollowConfig.{FollowConfig}
use Rattle.session_rules.specs.declared.config.ServeConfig.{ServeConfig}
use Rattle.session_rules.specs.declared.end.SessionEnd.{SessionEnd}
use Rattle.session_rules.specs.Serving.{Stand}
use Rattle.session_rules.specs.ServeRules as serving
use Rattle.session_rules.specs.Following.{Stand as FollowStand}
use Rattle.session_rules.specs.FollowRules as following

-- ---- the collector

pub serve_over : (c : ServeConfig) (s : Stand) (end : SessionEnd) → s.over ≡ Some end → (step : Step) → serving.react c s step ≡ Done s
serve_over c s end over step = ap (serving.steps_unless c s step) over

serve_spent_by : (c : ServeConfig) (s : Stand) (over : Option SessionEnd) → serving.steps_unless c s Spent over ≡ Done (serving.enough_unless s over)
serve_spent_by c s None = refl
serve_spent_by c s (Some end) = refl

pub serve_spent : (c : ServeConfig) (s : Stand) → serving.react c s Spent ≡ Done (serving.enough s)
serve_spent c s = serve_spent_by c s s.over

pub serve_enough : (s : Stand) (end : SessionEnd) → s.over ≡ Some end → serving.enough s ≡ s
serve_enough s end over = ap (serving.enough_unless s) over

-- ---- the validator

pub follow_over : (c : FollowConfig) (s : FollowStand) (end : SessionEnd) → s.over ≡ Some end → (step : Step) → following.react c s step ≡ Done s
follow_over c s end over step = ap (following.steps_unless c s step) over

follow_spent_by : (c : FollowConfig) (s : FollowStand) (over : Option SessionEnd) → following.steps_unless c s Spent over ≡ Done (following.enough_unless s over)
follow_spent_by c s None = refl
follow_spent_by c s (Some end) = refl

pub follow_spent : (c : FollowConfig) (s : FollowStand) → following.react c s Spent ≡ Done (following.enough s)
follow_spent c s = follow_spent_by c s s.over

pub follow_enough : (s : FollowStand) (end : SessionEnd) → s.over ≡ Some end → following.enough s ≡ s
follow_enough s end over = ap (following.enough_unless s) over
