use Rattle.std.proofs.Common.{◌≡◌, ◌<◌, List, false, length, subst, subst₂, sym}
use Rattle.std.specs.Prelude.{None}
use Rattle.swima_request.specs.declared.request.Request.{Request}
use Rattle.swima_subs.specs.declared.waiting.Waiting.{Waiting}
use Rattle.swima_subs.specs.Subscriptions.{AreSubs, is_held}
use Rattle.swima_subs.proofs.Keeping.{subs_push}
use Rattle.swima_subs.proofs.subs.Subs.add.Goals as goal

pub invariant_of-self-2 : goal.invariant_of-self-2
invariant_of-self-2 c =
    subst (λ (subs : List Waiting). AreSubs subs) (sym c.in_ok-push.ensures.items)
    (subs_push c.self.inside.held.items (record { request = c.in_ok-request.request; place = None }) c.self.invariant
    (subst₂ (λ (r : Request) (subs : List Waiting). is_held r.id subs ≡ false) (sym c.in_ok-request.ensures.equal) (sym c.self.view_is) c.requires.new)
    (subst (λ (subs : List Waiting). length subs < 16) (sym c.self.view_is) c.requires.few))
