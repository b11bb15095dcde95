use Rattle.std.proofs.Common.{◌+◌, eqb, ◌++◌, ◌∷◌, [], ◌∙◌, ℕ, List, Some, sym, ap, subst}
use Rattle.std.specs.Map.{lookup}
use Rattle.swima_model.specs.declared.record.Record.{Record}
use Rattle.collector_core.specs.Index.{IsIndex, PutsKey}
use Rattle.collector_core.specs.Places.{AreFewEmpty, ArePlaces, LiveView, Place, standing}
use Rattle.collector_core.proofs.Keyed.{index_more}
use Rattle.collector_core.proofs.Placed.{next_absent, pushed_few, pushed_places, pushed_standing}
use Rattle.collector_core.proofs.live.Live.push.Goals as goal

pub push_place-requires-clause-new : goal.push_place-requires-clause-new
push_place-requires-clause-new c =
    ap (λ (l : List Place). lookup (eqb c.self.inside.next) l) c.reserve.ensures.entries ∙ next_absent c.self.inside.next c.self.inside.empty c.self.inside.places.entries c.self.invariant.0

pub invariant_of-self-2 : goal.invariant_of-self-2
invariant_of-self-2 c =
    let pushed = c.push_place.ensures.appended
    ∙ ap (λ (l : List Place). l ++ (c.self.inside.next, Some (record { id = c.self.inside.next; content = c.args.content })) ∷ []) c.reserve.ensures.entries in (
      subst (ArePlaces (c.self.inside.next + 1) c.self.inside.empty) (sym pushed) (pushed_places c.self.inside.next c.self.inside.empty c.self.inside.places.entries c.args.content c.self.invariant.0),
      subst (IsIndex c.put_key.new.index) (sym (ap standing pushed ∙ pushed_standing c.self.inside.places.entries c.self.inside.next c.args.content))
          (index_more (standing c.self.inside.places.entries) c.self.inside.next c.args.content c.self.inside.index c.put_key.new.index c.self.invariant.1
          (subst (λ (key : ℕ). PutsKey key c.self.inside.index c.put_key.new.index) c.key_of-key.ensures.key c.in_ok-put_key.ensures.put)),
      subst (AreFewEmpty c.self.inside.empty) (sym pushed) (pushed_few c.self.inside.empty c.self.inside.places.entries (c.self.inside.next, Some (record { id = c.self.inside.next; content = c.args.content })) c.self.invariant.2),
    )

pub returns-clause-appended : goal.returns-clause-appended
returns-clause-appended c =
    let pushed = c.push_place.ensures.appended
    ∙ ap (λ (l : List Place). l ++ (c.self.inside.next, Some (record { id = c.self.inside.next; content = c.args.content })) ∷ []) c.reserve.ensures.entries in
    ap (λ (rs : List Record). record { next = c.self.inside.next + 1; records = rs }) (ap standing pushed ∙ pushed_standing c.self.inside.places.entries c.self.inside.next c.args.content)
    ∙ ap (λ (live : LiveView). record { next = live.next + 1; records = live.records ++ record { id = live.next; content = c.args.content } ∷ [] }) c.self.view_is
