use Rattle.std.proofs.Common.{rules, ◌≤◌, ◌+◌, ◌-◌, ◌∙◌, ℕ, drop, sym, ap, subst}
use Rattle.event_log.specs.Log.{Log, kept_from}
use Rattle.event_log.proofs.Pushing.{trim_is, trim_log}
use Rattle.event_log.proofs.log.EventLog.trim.Goals as goal

pub invariant_of-self : goal.invariant_of-self
invariant_of-self c =
    let within : c.args.first ≤ c.self.inside.last + 1 = subst (λ (log : Log). c.args.first ≤ log.last + 1) (sym c.self.view_is) c.requires.within in
    let count = c.saturating_sub-count.ensures ∙ ap (λ (n : ℕ). c.args.first - n) (c.first.ensures.first ∙ ap (λ (log : Log). log.first) (sym c.self.view_is)) in
    let rest = c.drop_front.ensures.rest ∙ ap (λ (n : ℕ). drop n c.self.inside.events.items) count in
    (search rules, trim_log _ _ c.args.first _ _ c.self.invariant.1 within (search rules) rest)

pub returns : goal.returns
returns c =
    let within : c.args.first ≤ c.self.inside.last + 1 = subst (λ (log : Log). c.args.first ≤ log.last + 1) (sym c.self.view_is) c.requires.within in
    let count = c.saturating_sub-count.ensures ∙ ap (λ (n : ℕ). c.args.first - n) (c.first.ensures.first ∙ ap (λ (log : Log). log.first) (sym c.self.view_is)) in
    let rest = c.drop_front.ensures.rest ∙ ap (λ (n : ℕ). drop n c.self.inside.events.items) count in
    record { trimmed = trim_is _ _ c.args.first _ _ c.self.invariant.1 within rest ∙ ap (kept_from c.args.first) c.self.view_is }
