use Rattle.std.proofs.Common.{rules, ◌<◌, ◌≤◌, List, length, ap, arith, subst, sym}
use Rattle.std.specs.Prelude.{IfSome}
use Rattle.pb_batch.specs.declared.batch.Message.{Message}
use Rattle.session_talk.specs.Talk.{each}
use Rattle.session_rules.specs.Answering.{answers_message}
use Rattle.session_rules.specs.Saying.{swima_body}
use Rattle.collector_session.specs.Standing.{draft_of}
use Rattle.collector_session.proofs.Bodies.{bodies_fit}
use Rattle.collector_session.proofs.Each.{Held, Lost, all_held, next_held, next_lost, none_held}
use Rattle.collector_session.proofs.Results.{on_err}
use Rattle.collector_session.proofs.batch.answer_all.Goals as goal

pub loop-message-init : goal.loop-message-init
loop-message-init g c = record {
  held = none_held g.D.Desk.stands g.D.Desk.went g.met.D.Desk.stays g.met.D.Desk.follows g.met.D.Desk.carries answers_message c.args.desk.now (draft_of c.args.draft.now) c.as_slice-message-items.result.now;
  fits = c.requires.fits;
  none = c.requires.none;
  few = omega (arith, ap (λ (ms : List Message). length ms) c.requires.empty);
}

pub answer_message-requires : goal.answer_message-requires
answer_message-requires g c =
    let items = c.as_slice-message-items.result.now in
    let i = c.loop-message.message-index in
    let less : i < length items = search rules in
    let same = c.as_slice-message-items.ensures.items in
    let at = c.loop-message.invariant in
    record {
      body = subst (λ (m : Message). IfSome (swima_body m) (λ body. length body ≤ 16777216)) (sym c.message-item.is) (bodies_fit items i c.message-item.result less (rw same c.requires.batch.short));
      none = at.none;
      fits = at.fits;
      count = omega (arith, at.few, less, ap (λ (ms : List Message). length ms) same, c.requires.batch.few);
    }

pub loop-message-preserved : goal.loop-message-preserved
loop-message-preserved g c =
    let items = c.as_slice-message-items.result.now in
    let i = c.loop-message.message-index in
    let less : i < length items = search rules in
    let small = c.in_ok-answer_message.ensures.small in
    record {
      held = next_held g.D.Desk.stands g.D.Desk.went g.met.D.Desk.stays g.met.D.Desk.follows g.met.D.Desk.carries answers_message c.args.desk.now c.loop-message.desk c.answer_message.new.desk (draft_of c.args.draft.now)
          (draft_of c.loop-message.draft) (draft_of c.answer_message.new.draft) items i c.message-item.result less c.loop-message.invariant.held
          (subst (λ (m : Message). Held g.D.Desk.stands g.D.Desk.went c.loop-message.desk c.answer_message.new.desk (answers_message (draft_of c.loop-message.draft) m) (draft_of c.answer_message.new.draft)) c.message-item.is
          c.in_ok-answer_message.ensures.drafted);
      fits = small.fits;
      none = small.none;
      few = omega (arith, small.count, c.loop-message.invariant.few);
    }

pub returns-in_err-answer_message-clause-drafted : goal.returns-in_err-answer_message-clause-drafted
returns-in_err-answer_message-clause-drafted g c =
    let items = c.as_slice-message-items.result.now in
    let i = c.loop-message.message-index in
    let less : i < length items = search rules in
    on_err _ c.from_residual.result c.from_residual.ensures.0
    (subst (λ (xs : List Message). Lost g.D.Desk.stands g.D.Desk.went c.args.desk.now c.answer_message.new.desk (each answers_message (draft_of c.args.draft.now) xs)) c.as_slice-message-items.ensures.items
    (next_lost g.D.Desk.stands g.D.Desk.went g.met.D.Desk.stays g.met.D.Desk.follows g.met.D.Desk.carries answers_message c.args.desk.now c.loop-message.desk c.answer_message.new.desk (draft_of c.args.draft.now)
    (draft_of c.loop-message.draft) (draft_of c.answer_message.new.draft) items i c.message-item.result less c.loop-message.invariant.held
    (subst (λ (m : Message). Lost g.D.Desk.stands g.D.Desk.went c.loop-message.desk c.answer_message.new.desk (answers_message (draft_of c.loop-message.draft) m)) c.message-item.is c.in_err-answer_message.ensures.drafted)))

pub returns-clause-drafted : goal.returns-clause-drafted
returns-clause-drafted g c =
    let items = c.as_slice-message-items.result.now in
    let i = c.loop-message.message-index in
    let all : length items ≤ i = search rules in
    subst (λ (xs : List Message). Held g.D.Desk.stands g.D.Desk.went c.args.desk.now c.loop-message.desk (each answers_message (draft_of c.args.draft.now) xs) (draft_of c.loop-message.draft)) c.as_slice-message-items.ensures.items
    (all_held g.D.Desk.stands g.D.Desk.went g.met.D.Desk.stays g.met.D.Desk.follows g.met.D.Desk.carries answers_message c.args.desk.now c.loop-message.desk (draft_of c.args.draft.now) (draft_of c.loop-message.draft) items i all c.loop-message.invariant.held)
