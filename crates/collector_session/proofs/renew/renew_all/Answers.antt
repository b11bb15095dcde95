use Rattle.std.proofs.Common.{rules, ◌<◌, ◌≤◌, ◌∙◌, List, ap, arith, get_or, length, length-take, refl, subst, take, ℕ}
use Rattle.std.specs.Prelude.{min}
use Rattle.std.proofs.lemmas.List.{take_min}
use Rattle.pa_attrs.specs.declared.attr.Attr.{Attr}
use Rattle.swima_subs.specs.declared.waiting.Waiting.{Waiting}
use Rattle.session_talk.specs.Talk.{each}
use Rattle.session_rules.specs.Answering.{renews_one}
use Rattle.collector_session.specs.Standing.{draft_of}
use Rattle.collector_session.proofs.Each.{Held, Lost, all_held, next_held, next_lost, none_held}
use Rattle.collector_session.proofs.Places.{any_waiting, goes_past, next_left, next_stands}
use Rattle.collector_session.proofs.Results.{on_err}
use Rattle.collector_session.proofs.Sizes.{room_fits}
use Rattle.collector_session.proofs.renew.renew_all.Goals as goal

pub loop-init : goal.loop-init
loop-init g c = record {
  held = none_held g.D.Desk.stands g.D.Desk.went g.met.D.Desk.stays g.met.D.Desk.follows g.met.D.Desk.carries (renews_one c.args.config.now) c.args.desk.now (draft_of c.args.draft.now) (take c.min-count.result c.args.draft.now.subs);
  left = refl;
  fits = c.requires.fits;
  few = omega (arith, ap (λ (xs : List Attr). length xs) c.requires.none);
  messages = refl;
}

pub renew_at-requires : goal.renew_at-requires
renew_at-requires g c =
    let at = c.loop.invariant in
    let less : c.loop.counter < c.min-count.result = search rules in
    let there = next_stands c.args.draft.now.subs c.loop.draft.subs c.loop.counter c.loop.place c.min-count.result any_waiting at.left less (omega (arith, c.min-count.ensures, c.len.ensures.len)) in
    record { room = room_fits c.loop.draft at.fits; within = there.0 }

pub loop-preserved : goal.loop-preserved
loop-preserved g c =
    let at = c.loop.invariant in
    let i = c.loop.counter in
    let less : i < c.min-count.result = search rules in
    let within : c.min-count.result ≤ length c.args.draft.now.subs = omega (arith, c.min-count.ensures, c.len.ensures.len) in
    let there = next_stands c.args.draft.now.subs c.loop.draft.subs i c.loop.place c.min-count.result any_waiting at.left less within in
    let grown = c.in_ok-renew_at.ensures.grown in
    let past = goes_past (get_or (take c.min-count.result c.args.draft.now.subs) i any_waiting) c.loop.draft.subs c.renew_at.new.draft.subs c.loop.place c.len-held.ensures.are.different there.1 (c.in_ok-renew_at.ensures.goes (get_or (take c.min-count.result c.args.draft.now.subs) i any_waiting) there.1) in
    record {
      held = next_held g.D.Desk.stands g.D.Desk.went g.met.D.Desk.stays g.met.D.Desk.follows g.met.D.Desk.carries (renews_one c.args.config.now) c.args.desk.now c.loop.desk c.renew_at.new.desk (draft_of c.args.draft.now) (draft_of c.loop.draft)
          (draft_of c.renew_at.new.draft) (take c.min-count.result c.args.draft.now.subs) i any_waiting (omega (arith, less, within, length-take c.min-count.result c.args.draft.now.subs)) at.held (c.in_ok-renew_at.ensures.drafted (get_or (take c.min-count.result c.args.draft.now.subs) i any_waiting) there.1);
      left = next_left c.args.draft.now.subs c.loop.draft.subs c.renew_at.new.draft.subs i c.loop.place c.next_place-place.result c.len-held.result c.len-in-loop.result at.left past c.len-held.ensures.len c.len-in-loop.ensures.len c.next_place-place.ensures.next;
      fits = grown.fits (omega (arith, at.few, less, within, c.len.ensures.are.few)) at.fits;
      few = omega (arith, grown.few, at.few);
      messages = grown.messages ∙ at.messages;
    }

pub returns-in_err-renew_at-clause-drafted : goal.returns-in_err-renew_at-clause-drafted
returns-in_err-renew_at-clause-drafted g c =
    let at = c.loop.invariant in
    let i = c.loop.counter in
    let less : i < c.min-count.result = search rules in
    let within : c.min-count.result ≤ length c.args.draft.now.subs = omega (arith, c.min-count.ensures, c.len.ensures.len) in
    let there = next_stands c.args.draft.now.subs c.loop.draft.subs i c.loop.place c.min-count.result any_waiting at.left less within in
    on_err _ c.from_residual.result c.from_residual.ensures.0
    (subst (λ (xs : List Waiting). Lost g.D.Desk.stands g.D.Desk.went c.args.desk.now c.renew_at.new.desk (each (renews_one c.args.config.now) (draft_of c.args.draft.now) xs))
    (ap (λ (n : ℕ). take n c.args.draft.now.subs) (c.min-count.ensures ∙ ap (λ (n : ℕ). min c.args.draft.now.earlier n) c.len.ensures.len) ∙ take_min c.args.draft.now.earlier c.args.draft.now.subs)
    (next_lost g.D.Desk.stands g.D.Desk.went g.met.D.Desk.stays g.met.D.Desk.follows g.met.D.Desk.carries (renews_one c.args.config.now) c.args.desk.now c.loop.desk c.renew_at.new.desk (draft_of c.args.draft.now) (draft_of c.loop.draft)
    (draft_of c.renew_at.new.draft) (take c.min-count.result c.args.draft.now.subs) i any_waiting (omega (arith, less, within, length-take c.min-count.result c.args.draft.now.subs)) at.held
    (c.in_err-renew_at.ensures.drafted (get_or (take c.min-count.result c.args.draft.now.subs) i any_waiting) there.1)))

pub returns-clause-drafted : goal.returns-clause-drafted
returns-clause-drafted g c =
    let at = c.loop.invariant in
    let i = c.loop.counter in
    let all : c.min-count.result ≤ i = search rules in
    subst (λ (xs : List Waiting). Held g.D.Desk.stands g.D.Desk.went c.args.desk.now c.loop.desk (each (renews_one c.args.config.now) (draft_of c.args.draft.now) xs) (draft_of c.loop.draft))
    (ap (λ (n : ℕ). take n c.args.draft.now.subs) (c.min-count.ensures ∙ ap (λ (n : ℕ). min c.args.draft.now.earlier n) c.len.ensures.len) ∙ take_min c.args.draft.now.earlier c.args.draft.now.subs)
    (all_held g.D.Desk.stands g.D.Desk.went g.met.D.Desk.stays g.met.D.Desk.follows g.met.D.Desk.carries (renews_one c.args.config.now) c.args.desk.now c.loop.desk (draft_of c.args.draft.now) (draft_of c.loop.draft) (take c.min-count.result c.args.draft.now.subs) i
    (omega (arith, all, length-take c.min-count.result c.args.draft.now.subs)) at.held)

pub next_place-place-requires : goal.next_place-place-requires
next_place-place-requires g c =
    let at = c.loop.invariant in
    let less : c.loop.counter < c.min-count.result = search rules in
    let within : c.min-count.result ≤ length c.args.draft.now.subs = omega (arith, c.min-count.ensures, c.len.ensures.len) in
    let there = next_stands c.args.draft.now.subs c.loop.draft.subs c.loop.counter c.loop.place c.min-count.result any_waiting at.left less within in
    record { within = omega (arith, there.0, c.len-held.ensures.len) }
