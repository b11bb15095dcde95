use Rattle.std.proofs.Common.{◌<◌, [], ap, length, subst, sym}
use Rattle.std.specs.Prelude.{List}
use Rattle.pb_batch.specs.declared.batch.Message.{Message}
use Rattle.session_talk.specs.Talk.{Done, each}
use Rattle.session_rules.specs.Answering.{closed, speaks}
use Rattle.session_rules.specs.Serving.{Draft as Stand}
use Rattle.session_rules.proofs.Desking.{drafted_done, drafted_then, talks_first}
use Rattle.collector_session.specs.Standing.{draft_of}
use Rattle.collector_session.proofs.Answering.{ends_as}
use Rattle.collector_session.proofs.Results.{on_err, on_ok}
use Rattle.collector_session.proofs.Sizes.{closed_after}
use Rattle.collector_session.proofs.message.answer_words.Goals as goal

pub returns-in_err-speak_all-clause-drafted : goal.returns-in_err-speak_all-clause-drafted
returns-in_err-speak_all-clause-drafted g c =
    on_err _ c.from_residual.result c.from_residual.ensures.0
    (talks_first g.D.Desk.stands g.D.Desk.went c.args.desk.now c.speak_all.new.desk [] [] tt (each speaks (draft_of c.args.draft.now) c.args.words.now) (λ (e : Stand). (ends_as (closed e))) tt c.in_err-speak_all.ensures.drafted)

pub close_message-requires-clause-count : goal.close_message-requires-clause-count
close_message-requires-clause-count g c = subst (λ (ms : List Message). length ms < 64) (sym c.in_ok-speak_all.ensures.messages) c.requires.count

pub returns-clause-drafted : goal.returns-clause-drafted
returns-clause-drafted g c =
    drafted_then g.D.Desk.stands g.D.Desk.went g.met.D.Desk.stays g.met.D.Desk.follows g.met.D.Desk.carries c.args.desk.now c.speak_all.new.desk c.speak_all.new.desk (each speaks (draft_of c.args.draft.now) c.args.words.now)
    (λ (e : Stand). (ends_as (closed e))) (draft_of c.speak_all.new.draft) (draft_of c.close_message.new.self) c.close_message.result c.in_ok-speak_all.ensures.drafted
    (drafted_done g.D.Desk.stands g.D.Desk.went g.met.D.Desk.stays g.met.D.Desk.follows g.met.D.Desk.carries c.speak_all.new.desk (Done (closed (draft_of c.speak_all.new.draft))) (draft_of c.close_message.new.self) c.close_message.result
    (on_ok c.close_message.result (λ put. ap (λ (d : Stand). (ends_as d)) (sym put)) c.close_message.ensures.closed))

pub returns-clause-small : goal.returns-clause-small
returns-clause-small g c =
    on_ok c.close_message.result (λ small. closed_after c.args.draft.now c.speak_all.new.draft c.close_message.new.self c.in_ok-speak_all.ensures.messages c.in_ok-speak_all.ensures.room small) c.close_message.ensures.small
