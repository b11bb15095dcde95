use Rattle.std.proofs.Common.{rules, ◌<◌, ◌≤◌, ◌∙◌, List, length, ap, arith, refl, subst}
use Rattle.pa_attrs.specs.declared.attr.Attr.{Attr}
use Rattle.session_talk.specs.Talk.{each}
use Rattle.session_rules.specs.declared.word.CollectorWord.{CollectorWord}
use Rattle.session_rules.specs.Answering.{speaks}
use Rattle.collector_session.specs.Standing.{draft_of}
use Rattle.collector_session.proofs.Each.{Held, Lost, all_held, next_held, next_lost, none_held}
use Rattle.collector_session.proofs.Results.{on_err}
use Rattle.collector_session.proofs.Sizes.{room_fits}
use Rattle.collector_session.proofs.message.speak_all.Goals as goal

pub loop-word-init : goal.loop-word-init
loop-word-init g c = record {
  held = none_held g.D.Desk.stands g.D.Desk.went g.met.D.Desk.stays g.met.D.Desk.follows g.met.D.Desk.carries speaks c.args.desk.now (draft_of c.args.draft.now) c.as_slice-word-items.result.now;
  fits = c.requires.fits;
  few = omega (arith, ap (λ (xs : List Attr). length xs) c.requires.none);
  messages = refl;
  room = omega arith;
}

pub speak-requires : goal.speak-requires
speak-requires g c = record { room = room_fits c.loop-word.draft c.loop-word.invariant.fits }

pub loop-word-preserved : goal.loop-word-preserved
loop-word-preserved g c =
    let items = c.as_slice-word-items.result.now in
    let i = c.loop-word.word-index in
    let less : i < length items = search rules in
    let at = c.loop-word.invariant in
    let grown = c.in_ok-speak.ensures.grown in
    record {
      held = next_held g.D.Desk.stands g.D.Desk.went g.met.D.Desk.stays g.met.D.Desk.follows g.met.D.Desk.carries speaks c.args.desk.now c.loop-word.desk c.speak.new.desk (draft_of c.args.draft.now) (draft_of c.loop-word.draft)
          (draft_of c.speak.new.draft) items i c.word-item.result less at.held
          (subst (λ (w : CollectorWord). Held g.D.Desk.stands g.D.Desk.went c.loop-word.desk c.speak.new.desk (speaks (draft_of c.loop-word.draft) w) (draft_of c.speak.new.draft)) c.word-item.is c.in_ok-speak.ensures.drafted);
      fits = grown.fits (omega (arith, at.few, less, c.requires.few, ap (λ (xs : List CollectorWord). length xs) c.as_slice-word-items.ensures.items)) at.fits;
      few = omega (arith, grown.few, at.few);
      messages = grown.messages ∙ at.messages;
      room = omega (arith, grown.room, at.room);
    }

pub returns-in_err-speak-clause-drafted : goal.returns-in_err-speak-clause-drafted
returns-in_err-speak-clause-drafted g c =
    let items = c.as_slice-word-items.result.now in
    let i = c.loop-word.word-index in
    let less : i < length items = search rules in
    on_err _ c.from_residual.result c.from_residual.ensures.0
    (subst (λ (xs : List CollectorWord). Lost g.D.Desk.stands g.D.Desk.went c.args.desk.now c.speak.new.desk (each speaks (draft_of c.args.draft.now) xs)) c.as_slice-word-items.ensures.items
    (next_lost g.D.Desk.stands g.D.Desk.went g.met.D.Desk.stays g.met.D.Desk.follows g.met.D.Desk.carries speaks c.args.desk.now c.loop-word.desk c.speak.new.desk (draft_of c.args.draft.now) (draft_of c.loop-word.draft)
    (draft_of c.speak.new.draft) items i c.word-item.result less c.loop-word.invariant.held
    (subst (λ (w : CollectorWord). Lost g.D.Desk.stands g.D.Desk.went c.loop-word.desk c.speak.new.desk (speaks (draft_of c.loop-word.draft) w)) c.word-item.is c.in_err-speak.ensures.drafted)))

pub returns-clause-drafted : goal.returns-clause-drafted
returns-clause-drafted g c =
    let items = c.as_slice-word-items.result.now in
    let i = c.loop-word.word-index in
    let all : length items ≤ i = search rules in
    subst (λ (xs : List CollectorWord). Held g.D.Desk.stands g.D.Desk.went c.args.desk.now c.loop-word.desk (each speaks (draft_of c.args.draft.now) xs) (draft_of c.loop-word.draft)) c.as_slice-word-items.ensures.items
    (all_held g.D.Desk.stands g.D.Desk.went g.met.D.Desk.stays g.met.D.Desk.follows g.met.D.Desk.carries speaks c.args.desk.now c.loop-word.desk (draft_of c.args.draft.now) (draft_of c.loop-word.draft) items i all c.loop-word.invariant.held)
