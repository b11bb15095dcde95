-- A record is put in its place where that is found, and else it comes after all others.
use Rattle.std.proofs.Common.{◌≡◌, ◌++◌, ◌∷◌, [], List, Some, None, rules, subst}
use Rattle.swima_model.specs.declared.record.Record.{Record}
use Rattle.swima_model.specs.Places.{IsPlaceOf}
use Rattle.validator_core.proofs.InPlace.{put_at, put_new}
use Rattle.validator_core.proofs.in_place.put.Goals as goal

pub returns-in-Some-clause-put : goal.returns-in-Some-clause-put
returns-in-Some-clause-put c =
    put_at c.args.records.now.items c.in-Some.place c.args.given c.requires.rising
    (subst (λ (rs : List Record). IsPlaceOf rs c.args.given.id (Some c.in-Some.place)) c.as_slice.ensures.value c.in-Some.ensures.place)

pub returns-in-None-clause-put : goal.returns-in-None-clause-put
returns-in-None-clause-put c =
    let records = c.args.records.now.items in
    let pushed : c.push.new.self.items ≡ records ++ c.args.given ∷ [] = search rules in
    put_new records c.push.new.self.items c.args.given
    (subst (λ (rs : List Record). IsPlaceOf rs c.args.given.id None) c.as_slice.ensures.value c.in-None.ensures.place) c.requires.fits pushed
