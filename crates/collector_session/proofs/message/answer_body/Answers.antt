use Rattle.std.proofs.Common.{Some, subst, sym}
use Rattle.session_rules.specs.declared.word.CollectorWord.{CollectorWord}
use Rattle.session_rules.specs.Answering.{answers_body, answers_said}
use Rattle.session_rules.specs.Clauses.{Drafted}
use Rattle.session_rules.specs.Saying.{Said}
use Rattle.session_rules.proofs.Desking.{drafted_done}
use Rattle.collector_session.specs.Standing.{draft_of}
use Rattle.collector_session.specs.Words.{FewWords}
use Rattle.collector_session.proofs.Fewness.{few_words}
use Rattle.collector_session.proofs.Results.{not_ok}
use Rattle.collector_session.proofs.message.answer_body.Goals as goal

pub returns-in_err-said-clause-drafted : goal.returns-in_err-said-clause-drafted
returns-in_err-said-clause-drafted g c =
    drafted_done g.D.Desk.stands g.D.Desk.went g.met.D.Desk.stays g.met.D.Desk.follows g.met.D.Desk.carries c.args.desk.now (answers_body (draft_of c.args.draft.now) (Some c.args.body.now)) (draft_of c.args.draft.now) c.from_residual.result
    (not_ok _ c.from_residual.result c.from_residual.ensures.0)

pub answer_said-requires-clause-few : goal.answer_said-requires-clause-few
answer_said-requires-clause-few g c = subst (λ (s : Said CollectorWord). FewWords s) (sym c.in_ok-said.ensures.said) (few_words c.args.body.now)

pub returns-clause-drafted : goal.returns-clause-drafted
returns-clause-drafted g c =
    subst (λ (s : Said CollectorWord). Drafted g.D.Desk.stands g.D.Desk.went c.args.desk.now c.answer_said.new.desk (answers_said (draft_of c.args.draft.now) s) (draft_of c.answer_said.new.draft) c.answer_said.result)
    c.in_ok-said.ensures.said c.answer_said.ensures.drafted
