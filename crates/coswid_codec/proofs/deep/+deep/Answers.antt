-- A part that reaches the levels shows that the whole does.
use Rattle.std.proofs.Common.{ℕ, ◌≤◌, ◌<◌, Bool, nat_le, Option, sym, ap, ◌∙◌, subst, add-one, arith}
use Rattle.std.proofs.lemmas.Bool.{leb-false}
use Rattle.cbor_det.specs.Lookup.{key_at, value_at}
use Rattle.cbor_det.specs.Term.{Term, pair_count}
use Rattle.cbor_det.specs.View.{pairs_view}
use Rattle.coswid_codec.specs.Marked.{some_depth}
use Rattle.coswid_codec.proofs.Depths.{terms_reach, terms_more, front_depth, pairs_more, pairs_end, key_reaches, value_reaches}
use Rattle.coswid_codec.proofs.deep.+deep.Goals.{pairs_reach-then-part_reaches-via-then-part_reaches, pairs_reach-then-part_reaches-via-else-part_reaches+then-part_reaches-2}
use Rattle.coswid_codec.proofs.deep.+deep.Goals as goal

pub any_reaches-returns-then-reaches : goal.any_reaches-returns-then-reaches
any_reaches-returns-then-reaches t c = record {
  reaches = terms_reach c.args.items.now c.loop-item.item-index c.args.levels c.item-item.result c.loop-item-test.true c.item-item.is (sym c.reaches.ensures.reaches ∙ c.if-reaches.true);
}

pub any_reaches-loop-item-preserved : goal.any_reaches-loop-item-preserved
any_reaches-loop-item-preserved t c =
    terms_more c.args.items.now c.loop-item.item-index c.args.levels c.item-item.result c.loop-item-test.true c.item-item.is c.loop-item.invariant
    (sym c.reaches.ensures.reaches ∙ c.if-reaches.false)

pub pairs_reach-returns-then-part_reaches : goal.pairs_reach-returns-then-part_reaches
pairs_reach-returns-then-part_reaches t c =
    let test : Option Term → Bool = λ o. nat_le c.args.levels (some_depth o) in
    elim c.then-part_reaches.branch [
      | pairs_reach-then-part_reaches-via-then-part_reaches w ↦ record {
        reaches = key_reaches c.loop-place.place c.args.levels (pairs_view c.args.pairs.now)
            (sym (ap test c.key.ensures.key) ∙ sym c.part_reaches.ensures.reaches ∙ w.if-part_reaches.true);
      }
      | pairs_reach-then-part_reaches-via-else-part_reaches+then-part_reaches-2 w ↦ record {
        reaches = value_reaches c.loop-place.place c.args.levels (pairs_view c.args.pairs.now)
            (sym (ap test w.value.ensures.value) ∙ sym w.part_reaches-else-part_reaches.ensures.reaches ∙ w.if-part_reaches-2.true);
      }
    ]

pub pairs_reach-loop-place-preserved : goal.pairs_reach-loop-place-preserved
pairs_reach-loop-place-preserved t c =
    let ps = pairs_view c.args.pairs.now in
    let test : Option Term → Bool = λ o. nat_le c.args.levels (some_depth o) in
    let key : some_depth (key_at ps c.loop-place.place) < c.args.levels =
    leb-false c.args.levels (some_depth (key_at ps c.loop-place.place)) (sym (ap test c.key.ensures.key) ∙ sym c.part_reaches.ensures.reaches ∙ c.if-part_reaches.false) in
    let value : some_depth (value_at ps c.loop-place.place) < c.args.levels =
    leb-false c.args.levels (some_depth (value_at ps c.loop-place.place))
    (sym (ap test c.value.ensures.value) ∙ sym c.part_reaches-else-part_reaches.ensures.reaches ∙ c.if-part_reaches-2.false) in
    let P : ℕ → Type 0 = λ n. front_depth n ps < c.args.levels in
    subst P (sym (add-one c.loop-place.place)) (pairs_more c.loop-place.place c.args.levels ps c.loop-place.invariant key value)

pub pairs_reach-returns : goal.pairs_reach-returns
pairs_reach-returns t c =
    let all : pair_count (pairs_view c.args.pairs.now) ≤ c.loop-place.place = omega (arith, c.loop-place-test.false, c.len-place-end.ensures.len) in
    record { reaches = pairs_end c.loop-place.place c.args.levels (pairs_view c.args.pairs.now) all c.loop-place.invariant }
