use Rattle.std.proofs.Common.{◌∙◌, ap, sym}
use Rattle.session_rules.specs.Answering.{speaks}
use Rattle.session_rules.specs.Serving.{Draft as Stand}
use Rattle.session_rules.proofs.Desking.{drafted_done}
use Rattle.collector_session.specs.declared.draft.Draft.{Draft}
use Rattle.collector_session.specs.Standing.{draft_of}
use Rattle.collector_session.proofs.Answering.{ends_as}
use Rattle.collector_session.proofs.Results.{on_ok}
use Rattle.collector_session.proofs.message.speak.Goals as goal

pub returns-in-AsksStatus-clause-drafted : goal.returns-in-AsksStatus-clause-drafted
returns-in-AsksStatus-clause-drafted g c =
    drafted_done g.D.Desk.stands g.D.Desk.went g.met.D.Desk.stays g.met.D.Desk.follows g.met.D.Desk.carries c.args.desk.now (speaks (draft_of c.args.draft.now) c.args.word.now) (draft_of c.put_status.new.self) c.put_status.result
    (on_ok c.put_status.result (λ put. ap (speaks (draft_of c.args.draft.now)) c.in-AsksStatus.is ∙ ap (λ (d : Stand). (ends_as d)) (sym put)) c.put_status.ensures.put)

pub returns-in-Failure-clause-drafted : goal.returns-in-Failure-clause-drafted
returns-in-Failure-clause-drafted g c =
    drafted_done g.D.Desk.stands g.D.Desk.went g.met.D.Desk.stays g.met.D.Desk.follows g.met.D.Desk.carries c.args.desk.now (speaks (draft_of c.args.draft.now) c.args.word.now) (draft_of c.hear_error.new.self) c.hear_error.result
    (on_ok c.hear_error.result (λ noted. ap (speaks (draft_of c.args.draft.now)) c.in-Failure.is ∙ ap (λ (d : Draft). (ends_as (draft_of d))) (sym noted)) c.hear_error.ensures.noted)
