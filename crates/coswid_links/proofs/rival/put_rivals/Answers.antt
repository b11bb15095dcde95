use Rattle.std.proofs.Common.{ℕ, List, sym, subst}
use Rattle.coswid_links.specs.FirstEqual.{AreOwnPlaces, Tells}
use Rattle.coswid_links.specs.Releases.{claim, claim_of, content, content_of, same_claim, same_content}
use Rattle.coswid_links.specs.Rivals.{same_release}
use Rattle.coswid_links.proofs.Apart.{nothing_put}
use Rattle.coswid_links.proofs.Equal.{claims_equal, contents_equal}
use Rattle.coswid_links.proofs.Left.{all_pairs, one_content, put_as, same_lengths}
use Rattle.coswid_links.proofs.Numbers.{all_below, keys_equal, tells_through}
use Rattle.coswid_links.proofs.Ordered.{contents_agree, releases_agree}
use Rattle.coswid_links.proofs.rival.put_rivals.Goals as goal

pub returns-then-has_no_repeat : goal.returns-then-has_no_repeat
returns-then-has_no_repeat c =
    let tags = c.args.tags.now in
    let numbers = c.in_ok-releases-2.releases.items in
    let by_release : Tells same_release tags numbers =
    tells_through _ same_claim claim_of claim claims_equal releases_agree c.in_ok-releases.field-0.items tags numbers
    c.in_ok-releases.ensures.releases c.in_ok-releases-2.ensures.places in
    let own : AreOwnPlaces numbers =
    subst (λ (ns : List ℕ). AreOwnPlaces ns) c.as_slice.ensures.value (c.has_no_repeat.ensures.own.0 c.if-has_no_repeat.true) in
    record { appended = nothing_put tags numbers c.args.found.now by_release own }

pub new-requires-clause-alike : goal.new-requires-clause-alike
new-requires-clause-alike c =
    let tags = c.args.tags.now in
    same_lengths tags c.in_ok-releases-2.releases.items c.in_ok-contents-2.contents.items
    (tells_through _ same_claim claim_of claim claims_equal releases_agree c.in_ok-releases.field-0.items tags c.in_ok-releases-2.releases.items
    c.in_ok-releases.ensures.releases c.in_ok-releases-2.ensures.places)
    (tells_through _ same_content content_of content contents_equal contents_agree c.in_ok-contents.field-0.items tags c.in_ok-contents-2.contents.items
    c.in_ok-contents.ensures.contents c.in_ok-contents-2.ensures.places)

pub new-requires-clause-below : goal.new-requires-clause-below
new-requires-clause-below c =
    all_below _ (keys_equal _ same_claim claim_of claim claims_equal releases_agree) c.in_ok-releases.field-0.items c.in_ok-releases-2.releases.items c.in_ok-releases-2.ensures.places

pub returns : goal.returns
returns c =
    let tags = c.args.tags.now in
    let by_release : Tells same_release tags c.in_ok-releases-2.releases.items =
    tells_through _ same_claim claim_of claim claims_equal releases_agree c.in_ok-releases.field-0.items tags c.in_ok-releases-2.releases.items
    c.in_ok-releases.ensures.releases c.in_ok-releases-2.ensures.places in
    let by_content : Tells one_content tags c.in_ok-contents-2.contents.items =
    tells_through _ same_content content_of content contents_equal contents_agree c.in_ok-contents.field-0.items tags c.in_ok-contents-2.contents.items
    c.in_ok-contents.ensures.contents c.in_ok-contents-2.ensures.places in
    let told_release = subst (λ (ns : List ℕ). Tells same_release tags ns) (sym c.in_ok-places.ensures.releases) by_release in
    let told_content = subst (λ (ns : List ℕ). Tells one_content tags ns) (sym c.in_ok-places.ensures.contents) by_content in
    let all = all_pairs tags c.in_ok-places.places.releases.items c.in_ok-places.places.contents.items told_release told_content in
    record { appended = put_as c.put_all.result c.args.found.now _ _ c.put_all.new.found all c.put_all.ensures.appended }
