use Rattle.std.proofs.Common.{◌≡◌, ℕ, ◌+◌, ◌-◌, ◌<◌, ◌≤◌, List, Option, IfSome, length, slice_index, slice_index_or, length-set, sym, ◌∙◌, subst, arith}
use Rattle.coswid_links.specs.declared.rival_chain.Following as declared
use Rattle.coswid_links.specs.RivalChains.{IsFollowing, IsFirst, has, of_release}
use Rattle.coswid_links.proofs.Walking.{latest_more, following_more, following_there}
use Rattle.coswid_links.proofs.rival_chain.following_places.Goals as goal

pub loop-place-preserved : goal.loop-place-preserved
loop-place-preserved c =
    let releases = c.args.releases.now in
    let contents = c.args.contents.now in
    let place = c.loop-place.place - 1 in
    let next = c.index-next.result.now in
    let lt : place < length releases = omega arith in
    let up : c.loop-place.place ≡ place + 1 = omega arith in
    let known : (at : ℕ) (d : declared.Following) → place + 1 ≤ at → at < length releases → IsFollowing releases contents at (slice_index_or c.loop-place.following.items at d) =
    λ at d ge below. c.loop-place.invariant.following at d (omega arith) below in
    let firsts : (number : ℕ) (d : Option ℕ) → number < length releases → IsFirst (has releases number) (place + 1) (length releases) (slice_index_or c.loop-place.latest.items number d) =
    λ number d below. subst (λ (from : ℕ). IsFirst (has releases number) from (length releases) (slice_index_or c.loop-place.latest.items number d)) up (c.loop-place.invariant.latest number d below) in
    let here : IsFirst (of_release releases place) (place + 1) (length releases) next =
    subst (λ (r : Option ℕ). IsFirst (of_release releases place) (place + 1) (length releases) r) (sym c.index-next.ensures) (firsts (slice_index releases place) next (c.requires.below place lt)) in
    let there = subst (λ (bs : List declared.Following). IfSome next (λ m. (d : declared.Following) → IsFollowing releases contents m (slice_index_or bs m d))) (sym c.as_slice.ensures.value)
    (following_there releases contents (of_release releases place) (place + 1) (length releases) c.loop-place.following.items next here known) in
    record {
      latest_len = length-set _ _ _ ∙ c.loop-place.invariant.latest_len;
      following_len = length-set _ _ _ ∙ c.loop-place.invariant.following_len;
      following = following_more releases contents place (length releases) c.loop-place.following.items _ (omega arith) (here, c.other_than-other.ensures.other releases here there) known;
      latest = latest_more releases place c.loop-place.latest.items lt (omega (arith, c.requires.below place lt)) firsts;
    }
