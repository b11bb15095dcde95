-- The next of the given records comes after all that are held, or one of its identifier is held.
use Rattle.std.proofs.Common.{◌≡◌, ◌<◌, ◌≤◌, inl, inr, true, false, rules, arith}
use Rattle.std.specs.Prelude.{is_some}
use Rattle.std.proofs.lemmas.Bool.{le-leb, lt-leb}
use Rattle.validator_core.proofs.InPlace.{among_at, counted_on, others_on, place_none, place_some}
use Rattle.validator_core.proofs.in_place.further.Goals.{then-record-next, else-record-next+else-is_none}
use Rattle.validator_core.proofs.in_place.further.Goals as goal

pub loop-record-preserved : goal.loop-record-preserved
loop-record-preserved c =
    let held = c.args.records.now in
    let given = c.args.given.now in
    let next = c.next-next.result in
    let index = c.loop-record.record-index in
    let item = c.record-item.result in
    let within = c.loop-record-test.true in
    let is = c.record-item.is in
    let before = c.loop-record.invariant in
    elim c.if-record-next.branch [
      | then-record-next w ↦
          let le : next ≤ item.id = omega (arith, w.if-record-next.true) in
          record {
            others = others_on held given next index item within is before.others (inr le);
            count = omega (arith, w.count-is, before.count, counted_on held given next index item within is true (le-leb next item.id le));
            few = omega (arith, w.count-is, before.few);
          }
      | else-record-next+else-is_none w ↦
          let lt : item.id < next = omega (arith, w.if-record-next.false) in
          let there : is_some w.place_of.result ≡ true = search rules in
          record {
            others = others_on held given next index item within is before.others (inl (place_some held item.id w.place_of.result w.place_of.ensures.place there));
            count = omega (arith, w.count-is, before.count, counted_on held given next index item within is false (lt-leb next item.id lt));
            few = omega (arith, w.count-is, before.few);
          }
    ]

pub returns-then-is_none-clause-among : goal.returns-then-is_none-clause-among
returns-then-is_none-clause-among c =
    let item = c.record-item.result in
    let none : is_some c.place_of.result ≡ false = search rules in
    among_at c.args.records.now c.args.given.now c.loop-record.record-index item c.loop-record-test.true c.record-item.is
    (place_none c.args.records.now item.id c.place_of.result c.place_of.ensures.place none)
    (λ below. omega (arith, c.next-next.ensures.least item.id below, c.if-record-next.false))
