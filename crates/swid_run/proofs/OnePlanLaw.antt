-- Words say one thing that is to be made.
use Rattle.std.proofs.Common.{◌≡◌, ◌∙◌, inl, inr, ℕ, List, refl, sym, ap}
use Rattle.clap.specs.Words.{Text}
use Rattle.command_options.specs.declared.collect.CollectOptions.{CollectOptions}
use Rattle.command_options.specs.declared.follow.FollowOptions.{FollowOptions}
use Rattle.swid_run.specs.declared.plans.Plan.TheVariants as plan
use Rattle.swid_run.specs.Words.{OnePlan}
use Rattle.swid_run.proofs.Saying.{collect_or_follow, collect_waits, follow_waits, one_says_collect, one_says_follow, plain_waits_not}

same_collect : (listen other : Text) (workers also : ℕ) (names others : List Text) → listen ≡ other → workers ≡ also → names ≡ others → plan.Collect listen workers names ≡ plan.Collect other also others
same_collect listen other workers also names others p q r = λ i. plan.Collect (p i) (q i) (r i)

pub one_plan : OnePlan
one_plan words plan.Memory other so also some one = absurd (some refl)
one_plan words made plan.Memory so also some one = absurd (one refl)
one_plan words plan.Plain plan.Plain so also some one = refl
one_plan words plan.Plain (plan.Collect listen workers names) so also some one = absurd (plain_waits_not words so (collect_waits words also.0 also.1))
one_plan words plan.Plain (plan.Follow addresses) so also some one = absurd (plain_waits_not words so (follow_waits words also.0 also.1))
one_plan words plan.Plain plan.Usage so also some one = absurd (also (inl so))
one_plan words (plan.Collect listen workers names) plan.Plain so also some one = absurd (plain_waits_not words also (collect_waits words so.0 so.1))
one_plan words (plan.Collect listen workers names) (plan.Collect other many others) so also some one =
    let same = one_says_collect words so.0 also.0 so.1 also.1 in
    same_collect listen other workers many names others
    (so.2 ∙ ap (λ (o : CollectOptions). o.listen) same ∙ sym also.2)
    (so.3 ∙ ap (λ (o : CollectOptions). o.workers) same ∙ sym also.3)
    (so.4 ∙ ap (λ (o : CollectOptions). o.names) same ∙ sym also.4)
one_plan words (plan.Collect listen workers names) (plan.Follow addresses) so also some one = absurd (collect_or_follow words so.0 also.0 so.1 also.1)
one_plan words (plan.Collect listen workers names) plan.Usage so also some one = absurd (also (inr (inl (so.0, so.1))))
one_plan words (plan.Follow addresses) plan.Plain so also some one = absurd (plain_waits_not words also (follow_waits words so.0 so.1))
one_plan words (plan.Follow addresses) (plan.Collect listen workers names) so also some one = absurd (collect_or_follow words also.0 so.0 also.1 so.1)
one_plan words (plan.Follow addresses) (plan.Follow others) so also some one =
    ap (λ (a : List Text). plan.Follow a) (so.2 ∙ ap (λ (o : FollowOptions). o.addresses) (one_says_follow words so.0 also.0 so.1 also.1) ∙ sym also.2)
one_plan words (plan.Follow addresses) plan.Usage so also some one = absurd (also (inr (inr (so.0, so.1))))
one_plan words plan.Usage plan.Plain so also some one = absurd (so (inl also))
one_plan words plan.Usage (plan.Collect listen workers names) so also some one = absurd (so (inr (inl (also.0, also.1))))
one_plan words plan.Usage (plan.Follow addresses) so also some one = absurd (so (inr (inr (also.0, also.1))))
one_plan words plan.Usage plan.Usage so also some one = refl
