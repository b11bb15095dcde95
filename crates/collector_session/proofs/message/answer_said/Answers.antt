use Rattle.std.proofs.Common.{◌∙◌, ap, subst, sym}
use Rattle.session_rules.specs.declared.word.CollectorWord.{CollectorWord}
use Rattle.session_rules.specs.Answering.{answers_said}
use Rattle.session_rules.specs.Clauses.{Drafted}
use Rattle.session_rules.proofs.Desking.{drafted_done}
use Rattle.session_words.specs.declared.said.Said.{Said}
use Rattle.session_words.specs.Said.{said_of}
use Rattle.collector_session.specs.Standing.{draft_of}
use Rattle.collector_session.specs.Words.{FewWords}
use Rattle.collector_session.proofs.Results.{on_ok}
use Rattle.collector_session.proofs.message.answer_said.Goals as goal

pub answer_words-requires-clause-few : goal.answer_words-requires-clause-few
answer_words-requires-clause-few g c = subst (λ (s : Said CollectorWord). FewWords (said_of s)) c.in-Says.is c.requires.few

pub returns-in-Says-clause-drafted : goal.returns-in-Says-clause-drafted
returns-in-Says-clause-drafted g c =
    subst (λ (s : Said CollectorWord). Drafted g.D.Desk.stands g.D.Desk.went c.args.desk.now c.answer_words.new.desk (answers_said (draft_of c.args.draft.now) (said_of s)) (draft_of c.answer_words.new.draft) c.answer_words.result)
    (sym c.in-Says.is) c.answer_words.ensures.drafted

pub answer_refused-requires-clause-few : goal.answer_refused-requires-clause-few
answer_refused-requires-clause-few g c = subst (λ (s : Said CollectorWord). FewWords (said_of s)) c.in-Refused.is c.requires.few

pub returns-in-Refused-clause-drafted : goal.returns-in-Refused-clause-drafted
returns-in-Refused-clause-drafted g c =
    drafted_done g.D.Desk.stands g.D.Desk.went g.met.D.Desk.stays g.met.D.Desk.follows g.met.D.Desk.carries c.args.desk.now (answers_said (draft_of c.args.draft.now) (said_of c.args.said.now)) (draft_of c.answer_refused.new.draft)
    c.answer_refused.result (on_ok c.answer_refused.result (λ put. ap (λ (s : Said CollectorWord). answers_said (draft_of c.args.draft.now) (said_of s)) c.in-Refused.is ∙ put) c.answer_refused.ensures.put)
