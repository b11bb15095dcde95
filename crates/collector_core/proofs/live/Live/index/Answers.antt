use Rattle.std.proofs.Common.{◌++◌, ◌∷◌, [], subst}
use Rattle.std.specs.List.Sorted.{IsStrictlyIncreasing}
use Rattle.swima_model.specs.InOrder.{ids}
use Rattle.swima_model.proofs.Places.{climbed}
use Rattle.collector_core.specs.Places.{LiveView, standing}
use Rattle.collector_core.proofs.Keyed.{all_climb}
use Rattle.collector_core.proofs.live.Live.index.Goals as goal

pub returns-clause-rising : goal.returns-clause-rising
returns-clause-rising c =
    subst (λ (live : LiveView). IsStrictlyIncreasing (ids live.records ++ live.next ∷ [])) c.self.view_is
    (climbed (ids (standing c.self.inside.places.entries) ++ c.self.inside.next ∷ []) (all_climb c.self.inside.next c.self.inside.empty c.self.inside.places.entries c.self.invariant.0))
