-- Releases and contents are equal by a law, and their order says so.
use Rattle.std.proofs.Common.{◌≡◌, Bool, true, ◌&&◌, int_eq, refl, ap, ◌∙◌}
use Rattle.std.proofs.Common.{Ordering, Less, Equal, Greater, is_eq, int_cmp}
use Rattle.std.specs.Cmp.{IsEquivalence}
use Rattle.std.specs.Ordering.{ordering_then}
use Rattle.std.proofs.lemmas.Cmp.{nat_list_eq_equiv, int_eq_equiv, on_equiv, and_equiv}
use Rattle.std.proofs.lemmas.Bool.{false≢true}
use Rattle.coswid_tag.specs.declared.value.TagId.{TagId}
use Rattle.coswid_tag.specs.declared.value.TagId.TheVariants as identifier
use Rattle.coswid_links.specs.declared.release.Identifier.{Identifier}
use Rattle.coswid_links.specs.declared.release.Release.{Release}
use Rattle.coswid_links.specs.Releases.{Claim, Written, claim_of, identifier_of, same_claim, same_content}
use Rattle.coswid_links.specs.Rivals.{same_identifier}

same_itself : (s : TagId) → same_identifier s s ≡ true
same_itself (identifier.Text s) = nat_list_eq_equiv.refl s
same_itself (identifier.Uuid s) = nat_list_eq_equiv.refl s

same_back : (s t : TagId) → same_identifier s t ≡ same_identifier t s
same_back (identifier.Text s) (identifier.Text t) = nat_list_eq_equiv.symm s t
same_back (identifier.Text s) (identifier.Uuid t) = refl
same_back (identifier.Uuid s) (identifier.Text t) = refl
same_back (identifier.Uuid s) (identifier.Uuid t) = nat_list_eq_equiv.symm s t

same_alike : (s t u : TagId) → same_identifier s t ≡ true → same_identifier s u ≡ same_identifier t u
same_alike (identifier.Text s) (identifier.Text t) (identifier.Text u) e = nat_list_eq_equiv.congr s t u e
same_alike (identifier.Text s) (identifier.Text t) (identifier.Uuid u) e = refl
same_alike (identifier.Text s) (identifier.Uuid t) u e = absurd (false≢true e)
same_alike (identifier.Uuid s) (identifier.Text t) u e = absurd (false≢true e)
same_alike (identifier.Uuid s) (identifier.Uuid t) (identifier.Text u) e = refl
same_alike (identifier.Uuid s) (identifier.Uuid t) (identifier.Uuid u) e = nat_list_eq_equiv.congr s t u e

identifiers_equal : IsEquivalence same_identifier
identifiers_equal = record { refl = same_itself; symm = same_back; congr = same_alike }

pub claims_equal : IsEquivalence same_claim
claims_equal = and_equiv (on_equiv (λ (c : Claim). c.0) identifiers_equal) (on_equiv (λ (c : Claim). c.1) int_eq_equiv)

pub contents_equal : IsEquivalence same_content
contents_equal = and_equiv (on_equiv (λ (c : Written). c.0) claims_equal) (on_equiv (λ (c : Written). c.1) nat_list_eq_equiv)

both_equal : (o p : Ordering) → is_eq (ordering_then o p) ≡ (is_eq o && is_eq p)
both_equal Less p = refl
both_equal Equal p = refl
both_equal Greater p = refl

-- An order by one thing and then another says so.
pub both_agree : (o p : Ordering) (a b : Bool) → is_eq o ≡ a → is_eq p ≡ b → is_eq (ordering_then o p) ≡ (a && b)
both_agree o p a b first second = both_equal o p ∙ ap (λ (c : Bool). c && is_eq p) first ∙ ap (λ (c : Bool). a && c) second

-- An order by the identifier and then the version says so.
pub claims_agree : (cmp : Identifier → Identifier → Ordering) → ((s t : Identifier) → is_eq (cmp s t) ≡ same_identifier (identifier_of s) (identifier_of t))
    → (x y : Release) → is_eq (ordering_then (cmp x.tag_id y.tag_id) (int_cmp x.tag_version y.tag_version)) ≡ same_claim (claim_of x) (claim_of y)
claims_agree cmp agree x y =
    both_equal (cmp x.tag_id y.tag_id) (int_cmp x.tag_version y.tag_version)
    ∙ ap (λ (b : Bool). b && int_eq x.tag_version y.tag_version) (agree x.tag_id y.tag_id)
