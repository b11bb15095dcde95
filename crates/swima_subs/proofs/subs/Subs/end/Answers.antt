use Rattle.std.proofs.Common.{rules, ◌≡◌, ◌∙◌, List, ap, not, subst, sym}
use Rattle.std.specs.Prelude.{filter, ◌==◌}
use Rattle.std.proofs.lemmas.Fn.{filter_same}
use Rattle.swima_subs.specs.declared.waiting.Waiting.{Waiting}
use Rattle.swima_subs.specs.Subscriptions.{AreSubs, ended}
use Rattle.swima_subs.proofs.Keeping.{subs_ended}
use Rattle.swima_subs.proofs.subs.Subs.end.Goals as goal

pub returns : goal.returns
returns c =
    let kept : c.retain.new.self.items ≡ filter (λ (held : Waiting). not (held.request.id == c.args.id)) c.self.inside.held.items =
    filter_same _ (λ (held : Waiting). not (held.request.id == c.args.id)) _ (λ x b f' k. search rules) _ _ c.retain.ensures.filtered in
    record { ended = kept ∙ ap (λ (subs : List Waiting). ended subs c.args.id) c.self.view_is }

pub invariant_of-self : goal.invariant_of-self
invariant_of-self c =
    let kept : c.retain.new.self.items ≡ filter (λ (held : Waiting). not (held.request.id == c.args.id)) c.self.inside.held.items =
    filter_same _ (λ (held : Waiting). not (held.request.id == c.args.id)) _ (λ x b f' k. search rules) _ _ c.retain.ensures.filtered in
    subst (λ (subs : List Waiting). AreSubs subs) (sym kept) (subs_ended c.args.id c.self.inside.held.items c.self.invariant)
