use Rattle.collector_core.specs.Answering.{AnswerIs, answer_at}
use Rattle.session_talk.specs.Talk.{Done}
use Rattle.session_rules.specs.Answering.{renewed}
use Rattle.session_rules.specs.Questions.{AskAnswer}
use Rattle.session_rules.proofs.Desking.{drafted_asked}
use Rattle.collector_session.specs.Standing.{draft_of}
use Rattle.collector_session.proofs.Renewing.{renewed_so}
use Rattle.collector_session.proofs.Telling.{is_told}
use Rattle.collector_session.proofs.renew.renew_so.Goals as goal

pub put_renewed-requires : goal.put_renewed-requires
put_renewed-requires g c = record {
  told = is_told g.D.Desk.stands g.D.Desk.went g.met.D.Desk.carries g.met.D.Desk.legal c.args.desk.now c.answer-reply.new.self c.args.request.now c.args.draft.now.room c.answer-reply.result c.requires.room c.answer-reply.ensures.reads;
}

pub returns-clause-drafted : goal.returns-clause-drafted
returns-clause-drafted g c =
    drafted_asked g.D.Desk.stands g.D.Desk.went c.args.desk.now c.answer-reply.new.self (AskAnswer c.args.request.now c.args.draft.now.room)
    (λ reply. Done (renewed c.args.config.now (draft_of c.args.draft.now) c.args.request.now.id reply)) (draft_of c.put_renewed.new.draft) c.put_renewed.result
    (λ chronicle. AnswerIs c.answer-reply.result (answer_at chronicle c.args.request.now c.args.draft.now.room)) c.answer-reply.ensures.reads
    (renewed_so c.args.config.now (draft_of c.args.draft.now) c.args.request.now c.args.draft.now.room c.answer-reply.result (draft_of c.put_renewed.new.draft) c.put_renewed.result c.put_renewed.ensures.renewed)
