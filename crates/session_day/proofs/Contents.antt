-- The content of the record of a package, by its tag.
use Rattle.std.proofs.Common.{◌≡◌, ◌≤◌, ◌<◌, ◌^◌, ◌∙◌, ◌++◌, ℕ, List, [], Option, Some, codes, length, sym, ap, arith}
use Rattle.std.specs.Prelude.{unwrap_or}
use Rattle.cbor_det.specs.Canonical.{canon}
use Rattle.cbor_det.specs.Term.{Term}
use Rattle.coswid_codec.specs.Items.{tag_item}
use Rattle.coswid_tag.specs.Identifier.{identifier_of}
use Rattle.coswid_tag.specs.declared.tag.Tag.{Tag}
use Rattle.swima_model.specs.declared.record.Content.{Content}
use Rattle.session_day.specs.Package.{content_by, letters_of, package_item, package_name}
use Rattle.session_day.specs.Packages.{HasIdentifier, IsPackage}
use Rattle.session_day.proofs.Sizes.{body_within, identifier_within}

some_same : (x y : List ℕ) → Some x ≡ Some y → x ≡ y
some_same x y same = ap (λ (o : Option (List ℕ)). unwrap_or o []) same

abbrev content_with : List ℕ → List ℕ → List ℕ → Content
content_with ident locator body = record { model = record { pen = 0; kind = 2 }; source = 0; ident = ident; locator = locator; body = body }

module _ (place version number : ℕ) (g : Tag) (is : IsPackage place version (letters_of number) g) where
  pub has_identifier : place < 2 ^ 32 → HasIdentifier g
  has_identifier small = record { text = codes "example.com__" ++ package_name place; identifier = is.identifier; within = omega (arith, identifier_within place small) }

  octets_are : (octets : List ℕ) → octets ≡ canon (tag_item g) → octets ≡ canon (package_item place version (letters_of number))
  octets_are octets written = written ∙ ap (λ (t : Term). canon t) is.item

  pub short_body : (octets body : List ℕ) → place < 2 ^ 32 → octets ≡ canon (tag_item g) → body ≡ octets → length body ≤ 1048576
  short_body octets body small written same =
      let size : length body ≡ length (canon (package_item place version (letters_of number))) = ap (λ (o : List ℕ). length o) (same ∙ octets_are octets written) in
      omega (arith, size, body_within place version number small)

  pub content_is : (ident locator octets slice body : List ℕ) → identifier_of g ≡ Some ident → locator ≡ [] → octets ≡ canon (tag_item g) → slice ≡ octets → body ≡ slice → content_with ident locator body ≡ content_by place version number
  content_is ident locator octets slice body named none written same taken =
      ap (λ (i : List ℕ). content_with i locator body) (some_same ident (codes "example.com__" ++ package_name place) (sym named ∙ is.identifier))
      ∙ ap (λ (l : List ℕ). content_with (codes "example.com__" ++ package_name place) l body) none
      ∙ ap (λ (b : List ℕ). content_with (codes "example.com__" ++ package_name place) [] b) (taken ∙ same ∙ octets_are octets written)
