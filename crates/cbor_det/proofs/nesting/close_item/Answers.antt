-- The item goes into the innermost construct, and what it ends into the next.
use Rattle.std.proofs.Common.{List, ℕ, ◌-◌, ap, ◌∙◌, arith}
use Rattle.std.proofs.lemmas.List.{nil_from_length}
use Rattle.cbor_det.specs.declared.frame.Frame.{Frame}
use Rattle.cbor_det.specs.Standing.{place}
use Rattle.cbor_det.specs.Machine.{item_ended}
use Rattle.cbor_det.specs.View.{view}
use Rattle.cbor_det.proofs.Closing.{popped, pushed_due, none_left, round, last_there, last_put, last_left}
use Rattle.cbor_det.proofs.nesting.close_item.Goals as goal

pub returns-in-Open-clause-given : goal.returns-in-Open-clause-given
returns-in-Open-clause-given c =
    pushed_due _ _ _ (last_put c.loop-frame.stack.items c.loop-frame.stack.len c.in-Some.frame.now c.absorb_item.new.frame c.loop-frame.stack.ok.0 c.in-Some.ensures.item.3.0 c.in-Some.ensures.item.1)
    ∙ popped _ _ _ _ _ _ (last_there c.loop-frame.stack.items c.loop-frame.stack.len c.in-Some.frame.now c.absorb_item.new.frame c.loop-frame.stack.ok.0 c.in-Some.ensures.item.3.0 c.in-Some.ensures.item.1)
    ((rw c.in-Open.is at c.in_ok-absorb_item.ensures.taken) (place (round c.loop-frame.stack.items c.loop-frame.stack.len)))
    ∙ c.loop-frame.invariant

pub returns-in-Fault-clause-given : goal.returns-in-Fault-clause-given
returns-in-Fault-clause-given c =
    popped _ _ _ _ _ _ (last_there c.loop-frame.stack.items c.loop-frame.stack.len c.in-Some.frame.now c.absorb_item.new.frame c.loop-frame.stack.ok.0 c.in-Some.ensures.item.3.0 c.in-Some.ensures.item.1)
    ((rw c.in-Fault.is at c.in_ok-absorb_item.ensures.taken) (place (round c.loop-frame.stack.items c.loop-frame.stack.len)))
    ∙ c.loop-frame.invariant

pub loop-frame-preserved : goal.loop-frame-preserved
loop-frame-preserved c =
    ap (λ (fs : List Frame). item_ended (place fs) c.in-Ended.at (view c.in-Ended.made)) (c.truncate.ensures.items
    ∙ last_left c.loop-frame.stack.items c.loop-frame.stack.len c.in-Some.frame.now c.absorb_item.new.frame c.loop-frame.stack.ok.0 c.in-Some.ensures.item.3.0 c.in-Some.ensures.item.1 _ (c.saturating_sub.ensures ∙ ap (λ (n : ℕ). n - 1) c.len.ensures))
    ∙ popped _ _ _ _ _ _ (last_there c.loop-frame.stack.items c.loop-frame.stack.len c.in-Some.frame.now c.absorb_item.new.frame c.loop-frame.stack.ok.0 c.in-Some.ensures.item.3.0 c.in-Some.ensures.item.1)
    ((rw c.in-Ended.is at c.in_ok-absorb_item.ensures.taken) (place (round c.loop-frame.stack.items c.loop-frame.stack.len)))
    ∙ c.loop-frame.invariant

pub returns-clause-given : goal.returns-clause-given
returns-clause-given c =
    none_left _ c.loop-frame.began (view c.loop-frame.item) (nil_from_length c.loop-frame.stack.items (omega (arith, c.in_default.ensures.item.3)))
    ∙ c.loop-frame.invariant
