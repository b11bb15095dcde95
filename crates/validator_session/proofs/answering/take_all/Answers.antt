use Rattle.std.proofs.Common.{rules, ◌+◌, ◌<◌, List, [], ◌∷◌, drop, length, ap, subst, sym, ◌∙◌}
use Rattle.std.proofs.lemmas.List.{drop_more}
use Rattle.pb_batch.specs.declared.batch.Message.{Message}
use Rattle.session_talk.specs.Talk.{each}
use Rattle.session_talk.specs.Course.{Breaks}
use Rattle.session_rules.specs.Clauses.{Spoke}
use Rattle.session_rules.specs.Taking.{NoQuestion, NoReply, takes_message}
use Rattle.validator_session.specs.Drafting.{draft_of, first_draft}
use Rattle.validator_session.specs.Standing.{notes_of}
use Rattle.validator_session.proofs.Tidy.{goes_on, is_lost, tidy_message, took_failed}
use Rattle.validator_session.proofs.answering.take_all.Goals as goal

pub loop-message-preserved : goal.loop-message-preserved
loop-message-preserved c =
    let items = c.as_slice-message-items.result.now in
    let i = c.loop-message.message-index in
    let less : i < length items = search rules in
    let left = drop_more items i c.message-item.result less ∙ ap (λ (m : Message). m ∷ drop (i + 1) items) (sym c.message-item.is) in
    record {
      reached = goes_on takes_message (first_draft c.args.numbered c.args.notes.now c.args.mirror.now) items (draft_of c.loop-message.draft c.loop-message.notes c.loop-message.mirror)
          (draft_of c.take_message.new.draft c.take_message.new.notes c.take_message.new.mirror) (drop i items) (drop (i + 1) items) c.message-item.result tidy_message left c.loop-message.invariant.reached c.in_ok-take_message.ensures.drafted;
      fits = c.in_ok-take_message.ensures.fits;
      noted = c.in_ok-take_message.ensures.noted;
      sent = c.in_ok-take_message.ensures.sent ∙ c.loop-message.invariant.sent;
      received = c.in_ok-take_message.ensures.received ∙ c.loop-message.invariant.received;
    }

pub returns-in_err-take_message-clause-took : goal.returns-in_err-take_message-clause-took
returns-in_err-take_message-clause-took c =
    let items = c.as_slice-message-items.result.now in
    let i = c.loop-message.message-index in
    let less : i < length items = search rules in
    let left = drop_more items i c.message-item.result less ∙ ap (λ (m : Message). m ∷ drop (i + 1) items) (sym c.message-item.is) in
    let first = first_draft c.args.numbered c.args.notes.now c.args.mirror.now in
    let noted = notes_of c.take_message.new.notes c.take_message.new.mirror in
    took_failed c.args.numbered c.args.notes.now c.take_message.new.notes c.args.mirror.now c.take_message.new.mirror c.args.messages.now c.from_residual.result c.from_residual.ensures.0
    (subst (λ (ms : List Message). Spoke {Q = NoQuestion} {R = NoReply} [] [] (λ replies out. Breaks replies first.notes (each takes_message first ms) [] out noted)) c.as_slice-message-items.ensures.items
    (is_lost takes_message first items (draft_of c.loop-message.draft c.loop-message.notes c.loop-message.mirror) (drop i items) (drop (i + 1) items) c.message-item.result noted left c.loop-message.invariant.reached c.in_err-take_message.ensures.drafted))
