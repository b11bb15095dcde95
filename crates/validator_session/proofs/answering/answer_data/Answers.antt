use Rattle.std.proofs.Common.{refl}
use Rattle.session_rules.specs.Following.{Draft}
use Rattle.session_rules.specs.FollowRules.{after_data}
use Rattle.session_rules.specs.Taking.{drafts, takes_message}
use Rattle.validator_session.specs.Drafting.{first_draft}
use Rattle.validator_session.specs.Standing.{stand_of}
use Rattle.validator_session.proofs.Speaking.{failed}
use Rattle.validator_session.proofs.Tidy.{draft_lost, drafted_then, tidy_each, tidy_message}
use Rattle.validator_session.proofs.answering.answer_data.Goals as goal

pub returns-in_err-draft-clause-goes : goal.returns-in_err-draft-clause-goes
returns-in_err-draft-clause-goes c =
    let s = stand_of c.args.standing.now c.args.mirror.now in
    failed c.args.out.now c.args.out.now s.notes _ _ _ c.from_residual.result c.from_residual.ensures.0
    (draft_lost c.args.out.now c.args.out.now s.notes (drafts s c.args.messages.now) (λ (d : Draft). after_data c.args.config.now s d) _ refl c.in_err-draft.ensures.took)

pub returns-clause-goes : goal.returns-clause-goes
returns-clause-goes c =
    let s = stand_of c.args.standing.now c.args.mirror.now in
    drafted_then c.args.out.now c.go_on.new.out s.notes (drafts s c.args.messages.now) (λ (d : Draft). after_data c.args.config.now s d) _ _ _ c.go_on.result
    (tidy_each takes_message (first_draft c.args.standing.now.numbered c.args.standing.now.notes c.args.mirror.now) c.args.messages.now tidy_message) c.in_ok-draft.ensures.took c.go_on.ensures.goes
