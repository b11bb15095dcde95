-- The pair stands at its place.
use Rattle.cbor_det.proofs.Adds.{pair_added, pair_proper}
use Rattle.cbor_det.proofs.item.Pairs.add.Goals as goal

pub returns-in_ok-insert-in-Some-clause-added : goal.returns-in_ok-insert-in-Some-clause-added
returns-in_ok-insert-in-Some-clause-added c =
    pair_added c.args.self.now c.insert.new.self c.as_slice.result.now c.in-Some.place c.args.key c.args.value c.in_ok-key.key.item c.into_item-key.result c.in_ok-key.ensures.key
    c.into_item-key.ensures.item c.as_slice.ensures.items (rw c.in-Some.is at c.in_ok-place_of.ensures.found) c.in_ok-insert-in-Some.ensures.inserted

pub returns-in_ok-insert-in-Some-clause-proper : goal.returns-in_ok-insert-in-Some-clause-proper
returns-in_ok-insert-in-Some-clause-proper c =
    pair_proper c.args.self.now c.insert.new.self c.as_slice.result.now c.in-Some.place c.args.key c.args.value c.in_ok-key.key.item c.into_item-key.result c.in_ok-key.ensures.key
    c.into_item-key.ensures.item c.as_slice.ensures.items (rw c.in-Some.is at c.in_ok-place_of.ensures.found) c.in_ok-insert-in-Some.ensures.inserted c.requires.pairs c.requires.key c.requires.value
