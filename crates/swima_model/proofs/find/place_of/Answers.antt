use Rattle.std.proofs.Common.{rules, sym, subst, ℕ, Option}
use Rattle.std.proofs.lemmas.List.Sorted.{answers_always}
use Rattle.swima_model.specs.declared.record.Record.{Record}
use Rattle.swima_model.specs.Places.{IsPlaceOf}
use Rattle.swima_model.proofs.Places.{place_is}
use Rattle.swima_model.proofs.find.place_of.Goals as goal

pub returns : goal.returns
returns c =
    let is = c.binary_search_by_key.ensures.position (λ (r : Record). r.id) (answers_always _ _ _ (λ f a r g h. search rules)) in
    record { place = subst (λ (found : Option ℕ). IsPlaceOf c.args.records.now c.args.id found) (sym c.ok.ensures.value) (place_is c.args.records.now c.args.id _ c.requires.rising c.binary_search_by_key.ensures.bound is) }
