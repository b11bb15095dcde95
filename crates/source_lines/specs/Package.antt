-- What is kept of a tag.
use Rattle.std.specs.Prelude.{◌≡◌, ◌≤◌, ℕ, List, Option, Some, None, Result, Ok, Err, length}
use Rattle.wire_base.specs.declared.values.memory.Memory.{Memory}
use Rattle.cbor_det.specs.Canonical.{canon}
use Rattle.coswid_tag.specs.Identifier.{identifier_of}
use Rattle.coswid_tag.specs.declared.tag.Tag.{Tag}
use Rattle.coswid_codec.specs.Answers.{BeginsTag}
use Rattle.coswid_codec.specs.Items.{tag_item}
use Rattle.coswid_codec.specs.declared.read.TagRefused.{TagRefused}
use Rattle.coswid_codec.specs.declared.read.TagRefused.TheVariants as refused
use Rattle.line_words.specs.Reading.{IsWithin}
use Rattle.source_lines.specs.declared.package.Package.{Package}

-- The tag's software identifier, which a creator gave (RFC 8412, section 3.4.1).
pub record IsIdentOf (tag : Tag) (ident : List ℕ) : Type 0 where
  pub is : identifier_of tag ≡ Some ident
  pub within : length ident ≤ 65535

-- What is kept of a tag: its software identifier, and its canonical octets (RFC 9393, section 2).
pub record IsPackageOf (tag : Tag) (made : Package) : Type 0 where
  pub ident : IsIdentOf tag made.ident
  pub body : IsWithin 1048576 (canon (tag_item tag)) made.body

-- The octets are a tag's, all of them, and this is kept of it.
pub record IsPackage (octets : List ℕ) (made : Package) : Type 0 where
  pub tag : Tag
  pub whole : BeginsTag octets tag (length octets)
  pub parts : IsPackageOf tag made

-- What is found where a tag was refused: none, or nothing, where memory ran out.
abbrev pub FindsNoTag : TagRefused → Result (Option Package) Memory → Type 0
FindsNoTag (refused.Cbor fault) result = result ≡ Ok None
FindsNoTag (refused.Form fault) result = result ≡ Ok None
FindsNoTag refused.Memory result = (memory : Memory) × (result ≡ Err memory)
