-- The orders of releases and of contents say which are equal.
use Rattle.std.proofs.Common.{◌≡◌, refl, is_eq}
use Rattle.std.specs.Ordering.{eq_by_cmp}
use Rattle.std.proofs.lemmas.Map.Text.{is_eq-slice_cmp}
use Rattle.coswid_links.specs.declared.release.Content.{Content}
use Rattle.coswid_links.specs.declared.release.Identifier.{Identifier}
use Rattle.coswid_links.specs.declared.release.Identifier.TheVariants as ordered
use Rattle.coswid_links.specs.declared.release.Release.{Release}
use Rattle.coswid_links.specs.contracts.release.ContentOrd.TheImpl as contents
use Rattle.coswid_links.specs.contracts.release.IdentifierOrd.TheImpl as identifiers
use Rattle.coswid_links.specs.contracts.release.ReleaseOrd.TheImpl as releases
use Rattle.coswid_links.specs.Releases.{claim_of, content_of, identifier_of, same_claim, same_content}
use Rattle.coswid_links.specs.Rivals.{same_identifier}
use Rattle.coswid_links.proofs.Equal.{both_agree, claims_agree}

identifiers_agree : (s t : Identifier) → is_eq (identifiers.ghosts.cmp s t) ≡ same_identifier (identifier_of s) (identifier_of t)
identifiers_agree (ordered.Text s) (ordered.Text t) = is_eq-slice_cmp s.items t.items
identifiers_agree (ordered.Text s) (ordered.Uuid t) = refl
identifiers_agree (ordered.Uuid s) (ordered.Text t) = refl
identifiers_agree (ordered.Uuid s) (ordered.Uuid t) = is_eq-slice_cmp s t

pub releases_agree : (x y : Release) → eq_by_cmp releases.ghosts.cmp x y ≡ same_claim (claim_of x) (claim_of y)
releases_agree x y = claims_agree identifiers.ghosts.cmp identifiers_agree x y

pub contents_agree : (x y : Content) → eq_by_cmp contents.ghosts.cmp x y ≡ same_content (content_of x) (content_of y)
contents_agree x y = both_agree (releases.ghosts.cmp x.release y.release) _ _ _ (releases_agree x.release y.release) (is_eq-slice_cmp x.octets.items y.octets.items)
