use Rattle.std.proofs.Common.{◌≡◌, ℕ, ◌++◌, ◌∷◌, [], List, Option, length, unwrap_or, append_assoc, ap, sym, ◌∙◌, arith}
use Rattle.std.specs.BTreeMap.{get}
use Rattle.std.specs.List.{position_or_len}
use Rattle.std.specs.Ordering.{eq_by_cmp}
use Rattle.std.specs.Vec.Iter.{into_iter_items}
use Rattle.std.proofs.lemmas.Cmp.{eq_by_cmp_equiv}
use Rattle.std.proofs.lemmas.List.{length-map}
use Rattle.coswid_links.proofs.Numbers.{place_or_len, places_more, known_more}
use Rattle.coswid_links.proofs.first_equal.first_places.Goals as goal

pub loop-value-preserved : goal.loop-value-preserved
loop-value-preserved g c =
    let eq = eq_by_cmp g.K.Ord.cmp in
    let laws = eq_by_cmp_equiv g.met.K.Ord.total in
    let values = c.args.values.items in
    let before = c.loop-value.yielded in
    let value = c.in-Some.value in
    let first = c.unwrap_or-first.result in
    let found = get g.K.Ord.cmp c.loop-value.known value in
    let rest = into_iter_items c.next.new.self in
    let all : before ++ value ∷ rest ≡ values = ap (λ xs. before ++ xs) (sym c.in-Some.ensures.steps.0) ∙ c.loop-value.invariant.all in
    let places_len : length c.loop-value.places.items ≡ length before = ap (λ (ns : List ℕ). length ns) c.loop-value.invariant.places ∙ length-map before (λ v. position_or_len (eq v) values) in
    let len : c.len-in-loop-value.result ≡ length before = omega (arith, c.loop-value.places.ok.0, c.len-in-loop-value.ensures) in
    let first_is : first ≡ position_or_len (eq value) before =
    place_or_len (eq value) before first c.len-in-loop-value.result found (c.loop-value.invariant.known value)
    (c.unwrap_or-first.ensures ∙ ap (λ (o : Option ℕ). unwrap_or o c.len-in-loop-value.result) (c.copied.ensures ∙ c.get.ensures.value)) len in
    record {
      all = append_assoc before (value ∷ []) rest ∙ all;
      places = c.in_ok-push.ensures.items ∙ places_more eq laws values before rest value first c.loop-value.places.items all c.loop-value.invariant.places first_is;
      known = λ q. known_more eq laws before value first (get g.K.Ord.cmp c.loop-value.known q) (get g.K.Ord.cmp c.insert.new.self q) q (c.loop-value.invariant.known q) first_is (c.in_ok-insert.ensures.updates.0 q);
    }
