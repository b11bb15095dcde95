use Rattle.std.proofs.Common.{◌≡◌, ◌≤◌, ◌+◌, ◌-◌, ◌++◌, ◌∷◌, ◌∙◌, ℕ, List, [], Option, None, cond, ltb, length, drop, rules, subst, sym, ap}
use Rattle.std.specs.Prelude.{slice_get}
use Rattle.circular_buffer.specs.Buffer.{Buffer}
use Rattle.swima_model.specs.declared.event.Event.{Event}
use Rattle.event_log.specs.Log.{Log, IsLog, log_of, pushed}
use Rattle.event_log.proofs.Pushing.{first_out, kept_last, push_is, push_log}
use Rattle.event_log.proofs.log.EventLog.push.Goals as goal

pub invariant_of-self : goal.invariant_of-self
invariant_of-self c =
    let next = c.requires.next ∙ ap (λ (log : Log). log.last + 1) (sym c.self.view_is) in
    let xs = c.self.inside.events.items in
    let some = subst (λ (cap : ℕ). 1 ≤ cap) (sym c.self.invariant.0) c.self.invariant.1.caps.0 in
    let left = ap (λ (cap : ℕ). drop (length xs + 1 - cap) xs) c.self.invariant.0 in
    let items = ap (λ (b : Buffer Event). b.items) c.put_last.ensures.kept ∙ kept_last c.self.inside.events.capacity xs c.args.event some in
    let is = push_log _ _ xs _ c.args.event c.self.invariant.1 next left (search rules) in (
      ap (λ (b : Buffer Event). b.capacity) c.put_last.ensures.kept ∙ c.self.invariant.0,
      subst (λ (events : List Event). IsLog (log_of c.self.inside.cap c.args.event.eid events)) (sym items) is,
    )

pub returns-clause-pushed : goal.returns-clause-pushed
returns-clause-pushed c =
    let next = c.requires.next ∙ ap (λ (log : Log). log.last + 1) (sym c.self.view_is) in
    let xs = c.self.inside.events.items in
    let some = subst (λ (cap : ℕ). 1 ≤ cap) (sym c.self.invariant.0) c.self.invariant.1.caps.0 in
    let left = ap (λ (cap : ℕ). drop (length xs + 1 - cap) xs) c.self.invariant.0 in
    let items = ap (λ (b : Buffer Event). b.items) c.put_last.ensures.kept ∙ kept_last c.self.inside.events.capacity xs c.args.event some in
    ap (log_of c.self.inside.cap c.args.event.eid) items
    ∙ push_is _ _ xs _ c.args.event c.self.invariant.1 next left
    ∙ ap (λ (log : Log). pushed log c.args.event) c.self.view_is

pub returns-clause-oldest : goal.returns-clause-oldest
returns-clause-oldest c =
    let xs = c.self.inside.events.items in
    let some = subst (λ (cap : ℕ). 1 ≤ cap) (sym c.self.invariant.0) c.self.invariant.1.caps.0 in
    c.put_last.ensures.oldest ∙ first_out c.self.inside.events.capacity xs c.args.event some
    ∙ ap (λ (cap : ℕ). cond (ltb (length xs) cap) None (slice_get xs 0)) c.self.invariant.0
    ∙ ap (λ (log : Log). cond (ltb (length log.events) log.cap) None (slice_get log.events 0)) c.self.view_is
