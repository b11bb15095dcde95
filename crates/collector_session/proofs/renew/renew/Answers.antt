use Rattle.std.proofs.Common.{◌<◌, List, [], ap, arith, length, subst, sym}
use Rattle.std.specs.Prelude.{Ok}
use Rattle.pb_batch.specs.declared.batch.Message.{Message}
use Rattle.session_talk.specs.Talk.{Done}
use Rattle.session_rules.specs.Answering.{Drafting, closed, renews}
use Rattle.session_rules.specs.Clauses.{Drafted}
use Rattle.session_rules.specs.Serving.{Draft as Stand}
use Rattle.session_rules.proofs.Desking.{drafted_done, drafted_then, talks_first}
use Rattle.collector_session.specs.Standing.{draft_of}
use Rattle.collector_session.proofs.Answering.{ends_as, renewing, renews_full, renews_so}
use Rattle.collector_session.proofs.Each.{Lost}
use Rattle.collector_session.proofs.Results.{on_err, on_ok}
use Rattle.collector_session.proofs.renew.renew.Goals as goal

pub returns-then-len-ge-BATCH_MESSAGES-clause-drafted : goal.returns-then-len-ge-BATCH_MESSAGES-clause-drafted
returns-then-len-ge-BATCH_MESSAGES-clause-drafted g c =
    drafted_done g.D.Desk.stands g.D.Desk.went g.met.D.Desk.stays g.met.D.Desk.follows g.met.D.Desk.carries {T = Unit {0}} {E = Unit {0}} c.args.desk.now (renews c.args.config.now (draft_of c.args.draft.now)) (draft_of c.args.draft.now) (Ok tt)
    (renews_full c.args.config.now c.args.draft.now (omega (arith, c.len.ensures.len, c.if-len-ge-BATCH_MESSAGES.true)))

pub close_message-requires-clause-count : goal.close_message-requires-clause-count
close_message-requires-clause-count g c = subst (λ (ms : List Message). length ms < 64) (sym c.in_ok-renew_all.ensures.messages) (omega (arith, c.len.ensures.len, c.if-len-ge-BATCH_MESSAGES.false))

pub returns-in_err-renew_all-clause-drafted : goal.returns-in_err-renew_all-clause-drafted
returns-in_err-renew_all-clause-drafted g c =
    on_err _ c.from_residual.result c.from_residual.ensures.0
    (subst (λ (talk : Drafting). Lost g.D.Desk.stands g.D.Desk.went c.args.desk.now c.renew_all.new.desk talk) (sym (renews_so c.args.config.now c.args.draft.now (omega (arith, c.len.ensures.len, c.if-len-ge-BATCH_MESSAGES.false))))
    (talks_first g.D.Desk.stands g.D.Desk.went c.args.desk.now c.renew_all.new.desk [] [] tt (renewing c.args.config.now (draft_of c.args.draft.now)) (λ (e : Stand). (ends_as (closed e))) tt c.in_err-renew_all.ensures.drafted))

pub returns-clause-drafted : goal.returns-clause-drafted
returns-clause-drafted g c =
    subst (λ (talk : Drafting). Drafted g.D.Desk.stands g.D.Desk.went c.args.desk.now c.renew_all.new.desk talk (draft_of c.close_message.new.self) c.close_message.result)
    (sym (renews_so c.args.config.now c.args.draft.now (omega (arith, c.len.ensures.len, c.if-len-ge-BATCH_MESSAGES.false))))
    (drafted_then g.D.Desk.stands g.D.Desk.went g.met.D.Desk.stays g.met.D.Desk.follows g.met.D.Desk.carries c.args.desk.now c.renew_all.new.desk c.renew_all.new.desk (renewing c.args.config.now (draft_of c.args.draft.now))
    (λ (e : Stand). (ends_as (closed e))) (draft_of c.renew_all.new.draft) (draft_of c.close_message.new.self) c.close_message.result c.in_ok-renew_all.ensures.drafted
    (drafted_done g.D.Desk.stands g.D.Desk.went g.met.D.Desk.stays g.met.D.Desk.follows g.met.D.Desk.carries c.renew_all.new.desk (Done (closed (draft_of c.renew_all.new.draft))) (draft_of c.close_message.new.self) c.close_message.result
    (on_ok c.close_message.result (λ put. ap (λ (d : Stand). (ends_as d)) (sym put)) c.close_message.ensures.closed)))

pub returns-clause-fits : goal.returns-clause-fits
returns-clause-fits g c = on_ok c.close_message.result (λ small. small.fits) c.close_message.ensures.small
