-- The tags of packages, as calls within the crate make them.
use Rattle.std.specs.Prelude.{◌≡◌, ◌≤◌, ◌++◌, ◌∷◌, [], ℕ, List, Some, None, codes, length, pos, replicate}
use Rattle.cbor_det.specs.Term.{depth, no_pairs}
use Rattle.cbor_det.specs.View.{pairs_view}
use Rattle.coswid_codec.specs.Items.{tag_item}
use Rattle.coswid_codec.specs.SizesFit.{SizesFit}
use Rattle.coswid_tag.specs.declared.entity.Entity.{Entity}
use Rattle.coswid_tag.specs.declared.meta.SoftwareMeta.{SoftwareMeta}
use Rattle.coswid_tag.specs.declared.tag.Tag.{Tag}
use Rattle.coswid_tag.specs.declared.value.CodeValue.TheVariants as code
use Rattle.coswid_tag.specs.declared.value.TagId.TheVariants as identifier
use Rattle.coswid_tag.specs.Identifier.{identifier_of}
use Rattle.session_day.specs.Package.{package_item, package_name}

-- A tag with these fields and no others.
pub record IsTagOf (name software : List ℕ) (makers : List Entity) (metas : List SoftwareMeta) (release : List ℕ) (version : ℕ) (g : Tag) : Type 0 where
  pub tag_id : g.tag_id ≡ identifier.Text name
  pub software_name : g.software_name ≡ software
  pub entity : g.entity ≡ makers
  pub evidence : g.evidence ≡ None
  pub link : g.link ≡ None
  pub software_meta : g.software_meta ≡ Some metas
  pub payload : g.payload ≡ None
  pub corpus : g.corpus ≡ None
  pub patch : g.patch ≡ None
  pub media : g.media ≡ None
  pub supplemental : g.supplemental ≡ None
  pub tag_version : g.tag_version ≡ pos version
  pub software_version : g.software_version ≡ Some release
  pub version_scheme : g.version_scheme ≡ None
  pub lang : g.lang ≡ None
  pub extras : pairs_view g.extras ≡ no_pairs

-- The entity that made tag and software.
pub record IsMaker (e : Entity) : Type 0 where
  pub entity_name : e.entity_name ≡ codes "make"
  pub reg_id : e.reg_id ≡ Some (codes "example.com")
  pub role : e.role ≡ code.Int (pos 1) ∷ code.Int (pos 2) ∷ []
  pub thumbprint : e.thumbprint ≡ None
  pub extras : pairs_view e.extras ≡ no_pairs

pub record AreMakers (makers : List Entity) : Type 0 where
  pub maker : Entity
  pub one : makers ≡ maker ∷ []
  pub is : IsMaker maker

-- A description with this summary and no other field.
pub record IsDescription (text : List ℕ) (meta : SoftwareMeta) : Type 0 where
  pub activation_status : meta.activation_status ≡ None
  pub channel_type : meta.channel_type ≡ None
  pub colloquial_version : meta.colloquial_version ≡ None
  pub description : meta.description ≡ None
  pub edition : meta.edition ≡ None
  pub entitlement_data_required : meta.entitlement_data_required ≡ None
  pub entitlement_key : meta.entitlement_key ≡ None
  pub generator : meta.generator ≡ None
  pub persistent_id : meta.persistent_id ≡ None
  pub product : meta.product ≡ None
  pub product_family : meta.product_family ≡ None
  pub revision : meta.revision ≡ None
  pub summary : meta.summary ≡ Some text
  pub unspsc_code : meta.unspsc_code ≡ None
  pub unspsc_version : meta.unspsc_version ≡ None
  pub extras : pairs_view meta.extras ≡ no_pairs

-- One description, whose summary is that many letters.
pub record AreDescribed (letters : ℕ) (metas : List SoftwareMeta) : Type 0 where
  pub meta : SoftwareMeta
  pub one : metas ≡ meta ∷ []
  pub is : IsDescription (replicate letters 97) meta

-- The tag has a software identifier, which a record holds.
pub record HasIdentifier (g : Tag) : Type 0 where
  pub text : List ℕ
  pub identifier : identifier_of g ≡ Some text
  pub within : length text ≤ 65535

-- The tag of a package: how it is written, and its software identifier.
pub record IsPackage (place version letters : ℕ) (g : Tag) : Type 0 where
  pub item : tag_item g ≡ package_item place version letters
  pub depth : depth (tag_item g) ≤ 64
  pub sizes : SizesFit g
  pub identifier : identifier_of g ≡ Some (codes "example.com__" ++ package_name place)
