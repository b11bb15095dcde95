-- The tag of a package: the item that it is written as, and its software identifier.
use Rattle.std.proofs.Common.{◌≡◌, ◌≤◌, ◌+◌, ◌∙◌, ℕ, ◌++◌, List, [], ◌∷◌, Some, None, refl, sym, ap, subst, codes, replicate, arith, pos, negsuc}
use Rattle.std.proofs.Common.{◌<◌, Bool, true, false, ℤ, SFits, w64, to_z, of_z, to_z-of_z, lt-ltb, le-ltb, le-leb}
use Rattle.std.specs.Int.Signed.{lt_z, le_z}
use Rattle.std.specs.Prelude.{if◌then◌else◌}
use Rattle.cbor_det.specs.Adding.{is_above, put}
use Rattle.cbor_det.specs.Term.{Pairs, Term, array, boolean, depth, integer, map, no_pairs, no_terms, octets, pair, tagged, term, text}
use Rattle.cbor_det.proofs.Integers.{above_from_zero}
use Rattle.coswid_codec.specs.Items.{entity_pairs, meta_pairs, tag_item}
use Rattle.coswid_codec.specs.SizesFit.{SizesFit}
use Rattle.coswid_tag.specs.Identifier.{identifier_of}
use Rattle.coswid_tag.specs.declared.entity.Entity.{Entity}
use Rattle.coswid_tag.specs.declared.meta.SoftwareMeta.{SoftwareMeta}
use Rattle.coswid_tag.specs.declared.tag.Tag.{Tag}
use Rattle.session_day.specs.Package.{description_item, keyed, maker_item, package_item, package_name}
use Rattle.session_day.specs.Packages.{AreDescribed, AreMakers, IsDescription, IsMaker, IsPackage, IsTagOf}

-- ---- pairs in order

fits : (n : ℕ) → n < 256 → SFits w64 (pos n)
fits n small = omega (arith)

-- A key is above another where its number is.
above : (a b : ℕ) → b < a → a < 256 → is_above (integer (pos a)) (integer (pos b)) ≡ true
above a b lt small =
    let fa : SFits w64 (pos a) = fits a small in
    let fb : SFits w64 (pos b) = fits b (omega arith) in
    let from_zero : lt_z (to_z w64 (of_z w64 (pos a))) (pos 0) ≡ false = ap (λ (z : ℤ). lt_z z (pos 0)) (to_z-of_z fa) ∙ le-ltb a 0 (omega arith) in
    let zero_to : le_z (pos 0) (to_z w64 (of_z w64 (pos b))) ≡ true = ap (λ (z : ℤ). le_z (pos 0) z) (to_z-of_z fb) ∙ le-leb 0 b (omega arith) in
    let less : lt_z (to_z w64 (of_z w64 (pos b))) (to_z w64 (of_z w64 (pos a))) ≡ true =
    ap (λ (z : ℤ). lt_z z (to_z w64 (of_z w64 (pos a)))) (to_z-of_z fb) ∙ ap (λ (z : ℤ). lt_z (pos b) z) (to_z-of_z fa) ∙ lt-ltb b a lt in
    sym (above_from_zero (pos a) (pos b) fa fb from_zero zero_to) ∙ less

-- The keys are numbers below this one.
abbrev AreBelow : ℕ → Pairs → Type 0
AreBelow a no_pairs = Unit {0}
AreBelow a (pair (integer (pos b)) v ps) = (b < a) × AreBelow a ps
AreBelow a (pair key v ps) = ⊥

abbrev at_end : Term → Term → Pairs → Pairs
at_end k v no_pairs = pair k v no_pairs
at_end k v (pair l w ps) = pair l w (at_end k v ps)

-- A pair is put after those with keys below its own.
put_last : (a : ℕ) → a < 256 → (v : Term) (ps : Pairs) → AreBelow a ps → put (integer (pos a)) v ps ≡ at_end (integer (pos a)) v ps
put_last a small v no_pairs below = refl
put_last a small v (pair (integer (pos b)) w ps) below =
    ap (λ (is : Bool). if is then pair (integer (pos b)) w (put (integer (pos a)) v ps) else pair (integer (pos a)) v (pair (integer (pos b)) w ps)) (above a b below.0 small)
    ∙ ap (λ (qs : Pairs). pair (integer (pos b)) w qs) (put_last a small v ps below.1)
put_last a small v (pair (integer (negsuc b)) w ps) below = absurd below
put_last a small v (pair (octets s) w ps) below = absurd below
put_last a small v (pair (text s) w ps) below = absurd below
put_last a small v (pair (array ts) w ps) below = absurd below
put_last a small v (pair (map qs) w ps) below = absurd below
put_last a small v (pair (tagged n t) w ps) below = absurd below
put_last a small v (pair (boolean b) w ps) below = absurd below

-- ---- maps

maker_is : (e : Entity) → IsMaker e → map (entity_pairs e) ≡ maker_item
maker_is e is =
    let name : Term = text (codes "make") in
    let registered : Term = tagged 32 (text (codes "example.com")) in
    let roles : Term = array (term (integer (pos 1)) (term (integer (pos 2)) no_terms)) in
    rw (is.entity_name, is.reg_id, is.role, is.thumbprint, is.extras)
    (ap (λ (ps : Pairs). map (put (integer (pos 33)) roles ps)) (put_last 32 (omega arith) registered (pair (integer (pos 31)) name no_pairs) (omega arith, tt))
    ∙ ap (λ (ps : Pairs). map ps) (put_last 33 (omega arith) roles (pair (integer (pos 31)) name (pair (integer (pos 32)) registered no_pairs)) (omega arith, (omega arith, tt))))

description_is : (letters : ℕ) (m : SoftwareMeta) → IsDescription (replicate letters 97) m → map (meta_pairs m) ≡ description_item letters
description_is letters m is =
    rw (
      is.activation_status,
      is.channel_type,
      is.colloquial_version,
      is.description,
      is.edition,
      is.entitlement_data_required,
      is.entitlement_key,
      is.generator,
      is.persistent_id,
      is.product,
      is.product_family,
      is.revision,
      is.summary,
      is.unspsc_code,
      is.unspsc_version,
      is.extras,
    ) refl

-- The pairs of the tag's map.
in_order : (name maker description version release : Term)
    → put (integer (pos 13)) release (put (integer (pos 12)) version (put (integer (pos 5)) description (put (integer (pos 2)) maker (put (integer (pos 1)) name (pair (integer (pos 0)) name no_pairs)))))
    ≡ keyed 0 name (keyed 1 name (keyed 2 maker (keyed 5 description (keyed 12 version (keyed 13 release no_pairs)))))
in_order name maker description version release =
    let one : Pairs = keyed 0 name (keyed 1 name no_pairs) in
    let two : Pairs = keyed 0 name (keyed 1 name (keyed 2 maker no_pairs)) in
    let five : Pairs = keyed 0 name (keyed 1 name (keyed 2 maker (keyed 5 description no_pairs))) in
    let twelve : Pairs = keyed 0 name (keyed 1 name (keyed 2 maker (keyed 5 description (keyed 12 version no_pairs)))) in
    ap (λ (ps : Pairs). put (integer (pos 13)) release (put (integer (pos 12)) version (put (integer (pos 5)) description (put (integer (pos 2)) maker ps))))
    (put_last 1 (omega arith) name (keyed 0 name no_pairs) (omega arith, tt))
    ∙ ap (λ (ps : Pairs). put (integer (pos 13)) release (put (integer (pos 12)) version (put (integer (pos 5)) description ps)))
    (put_last 2 (omega arith) maker one (omega arith, (omega arith, tt)))
    ∙ ap (λ (ps : Pairs). put (integer (pos 13)) release (put (integer (pos 12)) version ps))
    (put_last 5 (omega arith) description two (omega arith, (omega arith, (omega arith, tt))))
    ∙ ap (λ (ps : Pairs). put (integer (pos 13)) release ps)
    (put_last 12 (omega arith) version five (omega arith, (omega arith, (omega arith, (omega arith, tt)))))
    ∙ put_last 13 (omega arith) release twelve (omega arith, (omega arith, (omega arith, (omega arith, (omega arith, tt)))))

nothing : {A : Type 0} (x : A) → None ≡ Some x → ⊥
nothing x is = absurd cc

module _ (place version letters : ℕ) (g : Tag) (makers : List Entity) (metas : List SoftwareMeta) (are : AreMakers makers) (described : AreDescribed letters metas)
    (fields : IsTagOf (package_name place) (package_name place) makers metas (codes "1") version g) where
  item_is : tag_item g ≡ package_item place version letters
  item_is =
      rw (
        fields.tag_id,
        fields.software_name,
        fields.entity,
        fields.evidence,
        fields.link,
        fields.software_meta,
        fields.payload,
        fields.corpus,
        fields.patch,
        fields.media,
        fields.supplemental,
        fields.tag_version,
        fields.software_version,
        fields.version_scheme,
        fields.lang,
        fields.extras,
        are.one,
        described.one,
        maker_is are.maker are.is,
        description_is letters described.meta described.is,
      )
      (ap (λ (ps : Pairs). tagged 1398229316 (map ps)) (in_order (text (package_name place)) maker_item (description_item letters) (integer (pos version)) (text (codes "1"))))

  identifier_is : identifier_of g ≡ Some (codes "example.com__" ++ package_name place)
  identifier_is = rw (fields.entity, fields.tag_id, are.one, are.is.role, are.is.reg_id) refl

  sizes_fit : SizesFit g
  sizes_fit = record { payload = λ p is. absurd (nothing p (sym fields.payload ∙ is)); evidence = λ e is. absurd (nothing e (sym fields.evidence ∙ is)) }

  shallow : depth (package_item place version letters) ≤ 64
  shallow = omega (arith)

  pub packed : IsPackage place version letters g
  packed = record { item = item_is; depth = subst (λ (t : Term). depth t ≤ 64) (sym item_is) shallow; sizes = sizes_fit; identifier = identifier_is }

-- The tag with these fields is that of the package.
pub package_packed : (place version letters : ℕ) (g : Tag) (name software release : List ℕ) (makers : List Entity) (metas : List SoftwareMeta) → name ≡ package_name place → software ≡ package_name place → release ≡ codes "1"
    → AreMakers makers → AreDescribed letters metas → IsTagOf name software makers metas release version g → IsPackage place version letters g
package_packed place version letters g name software release makers metas one other is are described fields =
    packed place version letters g makers metas are described
    (subst (λ (n : List ℕ). IsTagOf n (package_name place) makers metas (codes "1") version g) one
    (subst (λ (s : List ℕ). IsTagOf name s makers metas (codes "1") version g) other
    (subst (λ (r : List ℕ). IsTagOf name software makers metas r version g) is fields)))

-- ---- lists of one

pub one_maker : (before makers : List Entity) (e : Entity) → before ≡ [] → makers ≡ before ++ e ∷ [] → IsMaker e → AreMakers makers
one_maker before makers e none more is = record { maker = e; one = more ∙ ap (λ (es : List Entity). es ++ e ∷ []) none; is = is }

pub one_description : (letters : ℕ) (before metas : List SoftwareMeta) (m : SoftwareMeta) (summary : List ℕ) → before ≡ [] → metas ≡ before ++ m ∷ [] → IsDescription summary m → summary ≡ replicate letters 97
    → AreDescribed letters metas
one_description letters before metas m summary none more is same =
    record { meta = m; one = more ∙ ap (λ (ms : List SoftwareMeta). ms ++ m ∷ []) none; is = subst (λ (t : List ℕ). IsDescription t m) same is }
