-- What is found of tags, and that it is one value.
use Rattle.std.proofs.Common.{◌≡◌, ◌<◌, ◌≤◌, ℕ, List, length, Option, Some, Result, sym, ap, ◌∙◌, subst, arith}
use Rattle.wire_base.specs.declared.values.memory.Memory.{Memory}
use Rattle.cbor_det.specs.Canonical.{canon}
use Rattle.coswid_tag.specs.declared.tag.Tag.{Tag}
use Rattle.coswid_tag.specs.Identifier.{identifier_of}
use Rattle.coswid_codec.specs.Answers.{BeginsTag, IsRefusal}
use Rattle.coswid_codec.specs.Items.{tag_item}
use Rattle.coswid_codec.specs.declared.read.TagRefused.{TagRefused}
use Rattle.coswid_codec.specs.declared.read.TagRefused.TheVariants as tag_refused
use Rattle.coswid_codec.proofs.Outcomes.{begins_one_tag, not_both}
use Rattle.line_words.specs.Reading.{Finds}
use Rattle.line_words.proofs.Finding.{finds_by}
use Rattle.source_lines.specs.Package.{FindsNoTag, IsPackage, IsPackageOf}
use Rattle.source_lines.specs.declared.package.Package.{Package}

some_same : (xs ys : List ℕ) → Some xs ≡ Some ys → xs ≡ ys
some_same xs ys e = cc

pub one_package : (octets : List ℕ) (one other : Package) → IsPackage octets one → IsPackage octets other → (one.ident ≡ other.ident) × (one.body ≡ other.body)
one_package octets one other a b =
    let same = (begins_one_tag octets a.tag b.tag _ _ a.whole b.whole).0 in (
      some_same one.ident other.ident (sym a.parts.ident.is ∙ ap identifier_of same ∙ b.parts.ident.is),
      a.parts.body.is ∙ ap (λ (tag : Tag). canon (tag_item tag)) same ∙ sym b.parts.body.is,
    )

-- ---- a tag

-- The octets begin with the tag and end with it.
pub finds_package : (octets : List ℕ) (tag : Tag) (used : ℕ) (result : Result (Option Package) Memory) → BeginsTag octets tag used → length octets ≤ used → Finds (IsPackageOf tag) result
    → Finds (IsPackage octets) result
finds_package octets tag used result begins all found =
    let same : used ≡ length octets = omega (arith, begins.begins.within, all) in
    let whole = subst (λ (n : ℕ). BeginsTag octets tag n) same begins in
    finds_by (IsPackageOf tag) (IsPackage octets) result
    (λ made parts. record { tag = tag; whole = whole; parts = parts })
    (λ made is. subst (λ (t : Tag). IsPackageOf t made) (begins_one_tag octets is.tag tag _ _ is.whole begins).0 is.parts)
    found

-- The octets end after the tag that they begin with.
pub no_package_behind : (octets : List ℕ) (tag : Tag) (used : ℕ) → BeginsTag octets tag used → used < length octets → (made : Package) → IsPackage octets made → ⊥
no_package_behind octets tag used begins less made is = omega (arith, (begins_one_tag octets tag is.tag used (length octets) begins is.whole).1, less)

-- They begin with no tag.
pub no_package : (octets : List ℕ) (why : TagRefused) → (why ≡ tag_refused.Memory → ⊥) → IsRefusal octets why → (made : Package) → IsPackage octets made → ⊥
no_package octets why not_memory refusal made is = not_both octets is.tag (length octets) why is.whole (not_memory, refusal)

-- A refusal is found of octets that are no tag.
pub no_tag_found : (octets : List ℕ) (why : TagRefused) (result : Result (Option Package) Memory) → IsRefusal octets why → FindsNoTag why result → Finds (IsPackage octets) result
no_tag_found octets (tag_refused.Cbor fault) result refusal none = subst (Finds (IsPackage octets)) (sym none) (no_package octets (tag_refused.Cbor fault) (λ e. absurd cc) refusal)
no_tag_found octets (tag_refused.Form fault) result refusal none = subst (Finds (IsPackage octets)) (sym none) (no_package octets (tag_refused.Form fault) (λ e. absurd cc) refusal)
no_tag_found octets tag_refused.Memory result refusal none = subst (Finds (IsPackage octets)) (sym none.1) tt
