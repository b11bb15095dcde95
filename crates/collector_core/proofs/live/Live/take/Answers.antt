use Rattle.std.proofs.Common.{rules, ◌∙◌, ℕ, List, Option, Some, ap, sym, subst}
use Rattle.swima_model.specs.declared.record.Record.{Record}
use Rattle.swima_model.specs.Live.{record_of}
use Rattle.collector_core.specs.Index.{DropsKey, IsIndex}
use Rattle.collector_core.specs.Places.{AreFewEmpty, ArePlaces, LiveView, Place, Takes, standing}
use Rattle.collector_core.proofs.Keyed.{take_index}
use Rattle.collector_core.proofs.Placed.{nothing_put, stands_at}
use Rattle.collector_core.proofs.Slots.{take_at}
use Rattle.collector_core.proofs.live.Live.take.Goals as goal

pub returns-in_err-taken-clause-taken : goal.returns-in_err-taken-clause-taken
returns-in_err-taken-clause-taken c =
    c.from_residual.ensures ∙ c.in_err-taken.ensures.stood
    ∙ sym (stands_at c.self.inside.next c.self.inside.empty c.self.inside.places.entries c.self.invariant.0 c.args.id)
    ∙ ap (λ (live : LiveView). record_of c.args.id live.records) c.self.view_is

pub returns-in_err-taken-clause-others : goal.returns-in_err-taken-clause-others
returns-in_err-taken-clause-others c =
    let same = c.exchange.ensures.exchanged ∙ nothing_put c.args.id c.self.inside.places.entries (sym c.in_err-taken.ensures.stood) in
    subst (λ (taken : Option Record). Takes c.args.id c.args.self.now.records taken (standing c.exchange.new.places.entries)) (sym c.from_residual.ensures)
    (ap standing same ∙ ap (λ (live : LiveView). live.records) c.self.view_is)

pub invariant_of-self : goal.invariant_of-self
invariant_of-self c =
    let same = c.exchange.ensures.exchanged ∙ nothing_put c.args.id c.self.inside.places.entries (sym c.in_err-taken.ensures.stood) in (
      subst (ArePlaces c.self.inside.next c.self.inside.empty) (sym same) c.self.invariant.0,
      subst (λ (l : List Place). IsIndex c.self.inside.index (standing l)) (sym same) c.self.invariant.1,
      subst (AreFewEmpty c.self.inside.empty) (sym same) c.self.invariant.2,
    )

pub invariant_of-self-2 : goal.invariant_of-self-2
invariant_of-self-2 c =
    let left = take_at c.self.inside.next c.self.inside.empty c.args.id c.self.inside.places.entries c.in_ok-taken.taken c.self.invariant.0 (sym c.in_ok-taken.ensures.stood) c.exchange.new.places.entries c.exchange.ensures.exchanged in (
      c.close_up-self-inside.ensures.places c.self.inside.next left.0,
      subst (IsIndex c.drop_key.new.index) (sym c.close_up-self-inside.ensures.records)
          (take_index c.self.inside.next c.self.inside.empty c.self.inside.places.entries c.self.invariant.0 (search rules) c.self.inside.index c.drop_key.new.index c.self.invariant.1 c.args.id _ c.in_ok-taken.taken
          left.1 (subst (λ (key : ℕ). DropsKey key c.self.inside.index c.drop_key.new.index) c.key_of.ensures.key c.drop_key.ensures.dropped)),
      c.close_up-self-inside.ensures.few,
    )

pub returns-clause-taken : goal.returns-clause-taken
returns-clause-taken c =
    c.in_ok-taken.ensures.stood ∙ sym (stands_at c.self.inside.next c.self.inside.empty c.self.inside.places.entries c.self.invariant.0 c.args.id)
    ∙ ap (λ (live : LiveView). record_of c.args.id live.records) c.self.view_is

pub returns-clause-others : goal.returns-clause-others
returns-clause-others c =
    let left = take_at c.self.inside.next c.self.inside.empty c.args.id c.self.inside.places.entries c.in_ok-taken.taken c.self.invariant.0 (sym c.in_ok-taken.ensures.stood) c.exchange.new.places.entries c.exchange.ensures.exchanged in
    let closed = subst (Takes c.args.id (standing c.self.inside.places.entries) (Some c.in_ok-taken.taken)) (sym c.close_up-self-inside.ensures.records) left.1 in
    subst (λ (live : LiveView). Takes c.args.id live.records (Some c.in_ok-taken.taken) (standing c.close_up-self-inside.new.places.entries)) c.self.view_is closed
