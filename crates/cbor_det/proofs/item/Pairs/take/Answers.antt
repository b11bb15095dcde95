-- The first pair with the key goes, and all others with it.
use Rattle.std.proofs.Common.{[], ◌∷◌, ◌∙◌, rules}
use Rattle.std.proofs.lemmas.Fn.{filter_same}
use Rattle.cbor_det.proofs.Others.{is_other}
use Rattle.cbor_det.proofs.Takes.{taken_value, taken_left}
use Rattle.cbor_det.proofs.item.Pairs.take.Goals as goal

pub returns-in-Some-clause-value : goal.returns-in-Some-clause-value
returns-in-Some-clause-value c =
    taken_value c.args.self.now c.args.key c.as_slice.result.now c.into_vec-pairs.result.items c.in-Some.place c.as_slice.ensures.items (c.into_vec-pairs.ensures.items ∙ c.replace.ensures.value)
    (rw c.in-Some.is at c.place_under.ensures.found) c.remove-value.result c.remove-value.ensures.value

pub returns-in-Some-clause-left : goal.returns-in-Some-clause-left
returns-in-Some-clause-left c =
    let kept = filter_same _ (is_other (c.args.key ∷ [])) _ (λ x b f' k. search rules) _ _ c.retain.ensures.filtered in
    taken_left c.args.self.now c.args.key c.as_slice.result.now c.into_vec-pairs.result.items c.in-Some.place c.as_slice.ensures.items (c.into_vec-pairs.ensures.items ∙ c.replace.ensures.value)
    (rw c.in-Some.is at c.place_under.ensures.found) c.remove-value.new.self.items c.from_vec.result c.remove-value.ensures.items (c.from_vec.ensures.items ∙ kept)
