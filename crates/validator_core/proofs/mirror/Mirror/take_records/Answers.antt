-- A doubled identifier is found among those in order. Without one the records are too large, or fit
-- into the mirror in their order.
use Rattle.std.proofs.Common.{◌≡◌, ◌∙◌, ℕ, false, List, Some, None, ap, sym, length}
use Rattle.swima_model.specs.declared.record.Record.{Record}
use Rattle.swima_model.specs.Doubled.{doubled}
use Rattle.swima_model.specs.InOrder.{ids, in_order}
use Rattle.swima_model.specs.Size.{records_octets}
use Rattle.validator_core.specs.declared.mirror.Taken.TheVariants as taken
use Rattle.validator_core.specs.Held.{Held}
use Rattle.validator_core.specs.Judge.{marked}
use Rattle.validator_core.specs.MaybeOwned.{list_of}
use Rattle.validator_core.proofs.Judging.{adopted, doubled_in_order, too_large, twice, weighed_in_order}
use Rattle.validator_core.proofs.mirror.Mirror.take_records.Goals as goal

pub returns-in-Some-clause-judged : goal.returns-in-Some-clause-judged
returns-in-Some-clause-judged c =
    let records : List Record = list_of c.args.records in
    let found : doubled (ids records) ≡ Some c.in-Some.id =
    doubled_in_order records _ _ _ _ c.as_slice.ensures.items c.as_slice-2.ensures.value c.in_ok-places.ensures.order c.doubled.ensures.least ∙ c.in-Some.is in
    twice c.args.self.now c.args.point records c.in-Some.id found ∙ ap (λ (m : Held). (taken.Doubled c.in-Some.id, marked m)) (sym c.self.view_is)

pub returns-then-is_large-clause-judged : goal.returns-then-is_large-clause-judged
returns-then-is_large-clause-judged c =
    let records : List Record = list_of c.args.records in
    let count : ℕ = length c.as_slice-count.result.now in
    let octets : ℕ = c.in_ok-places.field-0.octets in
    let none : doubled (ids records) ≡ None =
    doubled_in_order records _ _ _ _ c.as_slice.ensures.items c.as_slice-2.ensures.value c.in_ok-places.ensures.order c.doubled.ensures.least ∙ c.in_default.is in
    too_large c.args.self.now c.args.point records count octets
    (ap (λ (rs : List Record). length rs) c.as_slice-count.ensures.items) (c.in_ok-places.ensures.octets ∙ ap (λ (rs : List Record). records_octets rs) c.as_slice.ensures.items)
    (sym c.is_large.ensures.large ∙ c.if-is_large.true) none
    ∙ ap (λ (m : Held). (taken.Large count octets, marked m)) (sym c.self.view_is)

pub returns-clause-judged : goal.returns-clause-judged
returns-clause-judged c =
    let records : List Record = list_of c.args.records in
    let made = c.in_order.result.items in
    let none : doubled (ids records) ≡ None =
    doubled_in_order records _ _ _ _ c.as_slice.ensures.items c.as_slice-2.ensures.value c.in_ok-places.ensures.order c.doubled.ensures.least ∙ c.in_default.is in
    let order =
    c.in_order.ensures.order (ap (λ (rs : List Record). doubled (ids rs)) c.in_ok-into_list.ensures.list ∙ none) ∙ ap (λ (rs : List Record). in_order rs) c.in_ok-into_list.ensures.list in
    adopted c.args.self.now c.args.point records _ (length c.as_slice-count.result.now) c.in_ok-places.field-0.octets
    (ap (λ (rs : List Record). length rs) c.as_slice-count.ensures.items) (c.in_ok-places.ensures.octets ∙ ap (λ (rs : List Record). records_octets rs) c.as_slice.ensures.items)
    (sym c.is_large.ensures.large ∙ c.if-is_large.false) none order
    ∙ ap (λ (m : Held). (taken.Adopted, record m { point = Some c.args.point; records = made; off = false })) (sym c.self.view_is)

pub invariant_of-self-2 : goal.invariant_of-self-2
invariant_of-self-2 c =
    let records : List Record = list_of c.args.records in
    let none : doubled (ids records) ≡ None =
    doubled_in_order records _ _ _ _ c.as_slice.ensures.items c.as_slice-2.ensures.value c.in_ok-places.ensures.order c.doubled.ensures.least ∙ c.in_default.is in
    let order =
    c.in_order.ensures.order (ap (λ (rs : List Record). doubled (ids rs)) c.in_ok-into_list.ensures.list ∙ none) ∙ ap (λ (rs : List Record). in_order rs) c.in_ok-into_list.ensures.list in
    weighed_in_order records _ (length c.as_slice-count.result.now) c.in_ok-places.field-0.octets (ap (λ (rs : List Record). length rs) c.as_slice-count.ensures.items)
    (c.in_ok-places.ensures.octets ∙ ap (λ (rs : List Record). records_octets rs) c.as_slice.ensures.items)
    (sym c.is_large.ensures.large ∙ c.if-is_large.false) none order
