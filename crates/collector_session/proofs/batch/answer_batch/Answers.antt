use Rattle.std.proofs.Common.{[]}
use Rattle.session_talk.specs.Talk.{each}
use Rattle.session_rules.specs.Answering.{answers_message, renews}
use Rattle.session_rules.specs.Serving.{Draft}
use Rattle.session_rules.proofs.Desking.{drafted_then, talks_first}
use Rattle.collector_session.specs.Standing.{draft_of}
use Rattle.collector_session.proofs.Results.{on_err}
use Rattle.collector_session.proofs.batch.answer_batch.Goals as goal

pub returns-in_err-answer_all-clause-drafted : goal.returns-in_err-answer_all-clause-drafted
returns-in_err-answer_all-clause-drafted g c =
    on_err _ c.from_residual.result c.from_residual.ensures.0
    (talks_first g.D.Desk.stands g.D.Desk.went c.args.desk.now c.answer_all.new.desk [] [] tt (each answers_message (draft_of c.args.draft.now) c.args.messages.now) (λ (d : Draft). renews c.args.config.now d) tt c.in_err-answer_all.ensures.drafted)

pub returns-clause-drafted : goal.returns-clause-drafted
returns-clause-drafted g c =
    drafted_then g.D.Desk.stands g.D.Desk.went g.met.D.Desk.stays g.met.D.Desk.follows g.met.D.Desk.carries c.args.desk.now c.answer_all.new.desk c.renew.new.desk (each answers_message (draft_of c.args.draft.now) c.args.messages.now)
    (λ (d : Draft). renews c.args.config.now d) (draft_of c.answer_all.new.draft) (draft_of c.renew.new.draft) c.renew.result c.in_ok-answer_all.ensures.drafted c.renew.ensures.drafted
