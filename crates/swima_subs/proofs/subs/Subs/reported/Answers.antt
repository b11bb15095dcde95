use Rattle.std.proofs.Common.{rules, ◌<◌, ◌≤◌, ◌∙◌, List, ap, length, subst, sym}
use Rattle.swima_subs.specs.declared.waiting.Waiting.{Waiting}
use Rattle.swima_subs.specs.Subscriptions.{AreSubs, fulfilled_to}
use Rattle.swima_subs.proofs.Keeping.{fulfil_more, subs_reported, written_back}
use Rattle.swima_subs.proofs.subs.Subs.reported.Goals as goal

pub loop-held-preserved : goal.loop-held-preserved
loop-held-preserved c =
    let less : c.loop-held.held-index < length c.loop-held.held-items = search rules in
    fulfil_more c.args.id c.args.point c.args.self.now c.loop-held.held-items c.loop-held.held-index c.held-item.result c.fulfil.new.self less c.loop-held.invariant c.held-item.is
    (c.fulfil.ensures.fulfilled ∙ ap (λ (w : Waiting). fulfilled_to c.args.id c.args.point w) (sym c.held-item.is))

pub invariant_of-self : goal.invariant_of-self
invariant_of-self c =
    let all : length c.loop-held.held-items ≤ c.loop-held.held-index = search rules in
    subst (λ (subs : List Waiting). AreSubs subs)
    (sym (written_back c.args.id c.args.point c.args.self.now c.self.inside.held.items c.deref_mut-held-items.result.now c.loop-held.held-items c.self.inside.held.len c.loop-held.held-index c.self.view_is c.deref_mut-held-items.ensures.value
    c.deref_mut-held-items.ensures.len all c.loop-held.invariant))
    (subs_reported c.args.id c.args.point c.args.self.now (subst (λ (subs : List Waiting). AreSubs subs) c.self.view_is c.self.invariant))
