use Rattle.std.proofs.Common.{◌≡◌, ◌+◌, ℕ, List, Option, slice_index, refl, sym, ◌∙◌, subst, arith}
use Rattle.std.proofs.lemmas.List.{get_or_read}
use Rattle.coswid_links.specs.declared.rival_chain.Following.{Following}
use Rattle.coswid_links.specs.declared.finding.LinkFinding.{LinkFinding}
use Rattle.coswid_links.specs.RivalChains.{IsFollowing}
use Rattle.coswid_links.proofs.Walking.{Walks, walk_begins, walks_past, walks_over}
use Rattle.coswid_links.proofs.rival_chain.RivalChains.put_rivals_of.Goals as goal

pub loop-at-init : goal.loop-at-init
loop-at-init c =
    let places = c.args.self.now in
    let releases = places.releases.items in
    let contents = places.contents.items in
    let is = subst (λ (b : Following). IsFollowing releases contents c.args.first b) (sym c.index.ensures)
    (c.requires.following.1.1 c.args.first c.index.result.now (omega (arith, c.requires.following.1.0))) in
    walk_begins releases contents c.args.first c.args.found.now c.index.result.now.other c.requires.first is.1

pub loop-at-preserved-then-index : goal.loop-at-preserved-then-index
loop-at-preserved-then-index c =
    let places = c.args.self.now in
    let releases = places.releases.items in
    let contents = places.contents.items in
    let second = c.in-Some.second in
    let walks = subst (λ (o : Option ℕ). Walks releases contents c.args.first c.args.found.now c.loop-at.found o) c.in-Some.is c.loop-at.invariant in
    let there : c.index-in-Some.result.now ≡ slice_index contents second =
    get_or_read contents second _ (omega (arith, c.requires.following.0, walks.place.0)) c.index-in-Some.ensures 0 in
    let here : c.index-in-Some-2.result.now ≡ slice_index contents c.args.first =
    get_or_read contents c.args.first _ (omega (arith, c.requires.following.0)) c.index-in-Some-2.ensures 0 in
    let is = subst (λ (b : Following). IsFollowing releases contents second b) (sym c.index-then-index.ensures)
    (c.requires.following.1.1 second c.index-then-index.result.now (omega (arith, c.requires.following.1.0, walks.place.0))) in
    walks_past releases contents c.args.first c.args.found.now c.loop-at.found second walks c.index-then-index.result.now.other (sym there ∙ c.if-index.true ∙ here) is.1

pub loop-at-preserved : goal.loop-at-preserved
loop-at-preserved c =
    let places = c.args.self.now in
    let releases = places.releases.items in
    let contents = places.contents.items in
    let second = c.in-Some.second in
    let next = c.index-else-index.result.now.next in
    let walks = subst (λ (o : Option ℕ). Walks releases contents c.args.first c.args.found.now c.loop-at.found o) c.in-Some.is c.loop-at.invariant in
    let there : c.index-in-Some.result.now ≡ slice_index contents second =
    get_or_read contents second _ (omega (arith, c.requires.following.0, walks.place.0)) c.index-in-Some.ensures 0 in
    let here : c.index-in-Some-2.result.now ≡ slice_index contents c.args.first =
    get_or_read contents c.args.first _ (omega (arith, c.requires.following.0)) c.index-in-Some-2.ensures 0 in
    let is = subst (λ (b : Following). IsFollowing releases contents second b) (sym c.index-else-index.ensures)
    (c.requires.following.1.1 second c.index-else-index.result.now (omega (arith, c.requires.following.1.0, walks.place.0))) in
    let one : LinkFinding = record { kind = 4; first = c.args.first + 1; second = second + 1 } in
    subst (λ (found : List LinkFinding). Walks releases contents c.args.first c.args.found.now found next) (sym c.in_ok-push.ensures.appended)
    (walks_over releases contents c.args.first c.args.found.now c.loop-at.found second walks next one refl (λ q. c.if-index.false (there ∙ q ∙ sym here)) is.0)
