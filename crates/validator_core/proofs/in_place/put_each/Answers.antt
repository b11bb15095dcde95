-- The next of the given records is put, and those that are left come to the same.
use Rattle.std.proofs.Common.{◌∷◌, ◌∙◌, [], List, length, ap, sym, subst, arith}
use Rattle.std.proofs.lemmas.List.{nil_from_length}
use Rattle.std.specs.List.Sorted.{IsStrictlyIncreasing}
use Rattle.std.specs.Prelude.{vec_capacity, vec_len}
use Rattle.std.specs.Vec.Iter.{into_iter_items}
use Rattle.swima_model.specs.declared.record.Record.{Record}
use Rattle.swima_model.specs.InOrder.{ids}
use Rattle.swima_model.proofs.Living.{strict_rest}
use Rattle.validator_core.specs.Further.{IsFurther}
use Rattle.validator_core.specs.Merged.{merged}
use Rattle.validator_core.proofs.InPlace.{goes_on, merged_none, merged_twice, one_rises, put_fits}
use Rattle.validator_core.proofs.Merging.{merged_rises}
use Rattle.validator_core.proofs.in_place.put_each.Goals as goal

pub put-requires-clause-fits : goal.put-requires-clause-fits
put-requires-clause-fits c =
    let now = c.loop-record.records in
    let (count, further, room) = c.loop-record.invariant.room in
    put_fits now.items c.in-Some.record (into_iter_items c.next.new.self) count (vec_len now) (vec_capacity now)
    (subst (λ (rs : List Record). IsFurther now.items rs count) c.in-Some.ensures.steps.0 further) room

pub loop-record-preserved : goal.loop-record-preserved
loop-record-preserved c =
    let now = c.loop-record.records in
    let after = c.put.new.records in
    let next = c.in-Some.record in
    let rest = into_iter_items c.next.new.self in
    let is = c.in-Some.ensures.steps.0 in
    let (count, further, room) = c.loop-record.invariant.room in
    let rising = c.loop-record.invariant.rising in
    let up : IsStrictlyIncreasing (ids (next ∷ rest)) = subst (λ (rs : List Record). IsStrictlyIncreasing (ids rs)) is c.loop-record.invariant.given in
    record {
      rising = subst (λ (rs : List Record). IsStrictlyIncreasing (ids rs)) (sym c.put.ensures.put) (merged_rises now.items (next ∷ []) rising (one_rises next));
      given = strict_rest next.id (ids rest) up;
      room =
          goes_on now.items next rest count (vec_len now) (vec_capacity now) (subst (λ (rs : List Record). IsFurther now.items rs count) is further) room
          after.items (vec_len after) (vec_capacity after) rising up c.put.ensures.put c.put.ensures.held c.put.ensures.len c.put.ensures.capacity;
      len = omega (arith, ap (λ (rs : List Record). length rs) is, c.in-Some.ensures.steps.1, c.loop-record.invariant.len);
      merged =
          ap (λ (rs : List Record). merged rs rest) c.put.ensures.put ∙ merged_twice now.items next rest rising up ∙ ap (merged now.items) (sym is)
          ∙ c.loop-record.invariant.merged;
    }

pub returns : goal.returns
returns c =
    let now = c.loop-record.records.items in
    let none = nil_from_length (into_iter_items c.loop-record.record-iterator) (omega (arith, c.loop-record.invariant.len, c.in-None.ensures.steps.0)) in
    record { merged = sym (merged_none now) ∙ ap (merged now) (sym none) ∙ c.loop-record.invariant.merged }
