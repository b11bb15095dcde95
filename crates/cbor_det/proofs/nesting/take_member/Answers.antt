-- A key is held, or an item more stands in the map.
use Rattle.cbor_det.proofs.Closing.{member_held, member_open, member_ends}
use Rattle.cbor_det.proofs.nesting.take_member.Goals as goal

pub returns-then-not-branch : goal.returns-then-not-branch
returns-then-not-branch c = record { taken = λ p. member_held _ _ _ _ _ p c.args.began _ _ _ c.in_ok-take.ensures.taken c.if-not-branch.true }

pub returns-then-is_whole : goal.returns-then-is_whole
returns-then-is_whole c = record {
  taken = λ p. member_ends _ _ _ _ _ p c.args.began _ _ _ _ _ c.in_ok-take.ensures.taken c.if-not-branch.false c.is_whole.ensures.whole c.if-is_whole.true
      c.in_ok-take_pairs.ensures.pairs;
}

pub returns : goal.returns
returns c = record { taken = λ p. member_open _ _ _ _ _ p c.args.began _ _ _ _ c.in_ok-take.ensures.taken c.if-not-branch.false c.is_whole.ensures.whole c.if-is_whole.false }
