-- Laws of tags, and of payload and evidence by themselves: what is read, what is wrong, and what is
-- written.
use Rattle.std.specs.Prelude.{◌≡◌, ◌≢◌, ◌≤◌, ◌⊎◌, ◌↔◌, ℕ, max, List, ◌++◌, length, None}
use Rattle.wire_base.specs.Layout.{AreOctets}
use Rattle.cbor_det.specs.Canonical.{canon}
use Rattle.cbor_det.specs.Proper.{IsProper}
use Rattle.cbor_det.specs.Term.{Term, depth}
use Rattle.coswid_res.specs.Fault.{field_fault}
use Rattle.coswid_res.specs.Resources.{payload_item, evidence_item, PayloadMap, EvidenceMap}
use Rattle.coswid_res.specs.Schema.{Field, one, a_map, payload, evidence}
use Rattle.coswid_tag.specs.declared.tag.Tag.{Tag}
use Rattle.coswid_codec.specs.declared.read.TagRefused.{TagRefused}
use Rattle.coswid_codec.specs.declared.read.TagRefused.TheVariants as refused
use Rattle.coswid_codec.specs.Answers.{limits, BeginsTag, IsRefusal}
use Rattle.coswid_codec.specs.Forms.{TagForm}
use Rattle.coswid_codec.specs.HasItem.{IsItemOf, HasItem}
use Rattle.coswid_codec.specs.Items.{tag_item}
use Rattle.coswid_codec.specs.TagFault.{tag_fault}

-- An item has no form fault exactly where some tag is read from it.
abbrev pub NoFaultOrNoTag : Type 0
NoFaultOrNoTag = (t : Term) → (tag_fault t ≡ None) ↔ ((g : Tag) × TagForm g t)

-- An item is read as one tag at most.
abbrev pub OneTag : Type 0
OneTag = (g h : Tag) (t : Term) → TagForm g t → TagForm h t → g ≡ h

-- Some item is one of a tag exactly where what the tag is written as is one.
abbrev pub HasItemWhereSome : Type 0
HasItemWhereSome = (g : Tag) → ((t : Term) × IsItemOf g t) ↔ HasItem g

-- What is read has an item.
abbrev pub ReadHasItem : Type 0
ReadHasItem = (g : Tag) (n : ℕ) (input : List ℕ) → BeginsTag input g n → HasItem g

-- What has an item is read from its canonical spelling, whatever follows, where the reader's limit
-- holds it.
abbrev pub WrittenIsRead : Type 0
WrittenIsRead =
    (g : Tag) (tail : List ℕ) → HasItem g → length (canon (tag_item g)) ≤ limits.octets
    → BeginsTag (canon (tag_item g) ++ tail) g (length (canon (tag_item g)))

-- What is read is written, and read again as the same, whatever follows, where the reader's limit
-- holds it.
abbrev pub ReadIsWritten : Type 0
ReadIsWritten =
    (g : Tag) (n : ℕ) (input tail : List ℕ) → BeginsTag input g n → length (canon (tag_item g)) ≤ limits.octets
    → BeginsTag (canon (tag_item g) ++ tail) g (length (canon (tag_item g)))

-- Two inputs are read as one tag exactly where what is read of them is written as the same octets.
abbrev pub OneTagOneSpelling : Type 0
OneTagOneSpelling =
    (g h : Tag) (n m : ℕ) (input other : List ℕ) → BeginsTag input g n → BeginsTag other h m → (canon (tag_item g) ≡ canon (tag_item h)) ↔ (g ≡ h)

-- Octets begin with one tag at most, of that many octets.
abbrev pub BeginsOneTag : Type 0
BeginsOneTag = (input : List ℕ) (g h : Tag) (n m : ℕ) → BeginsTag input g n → BeginsTag input h m → (g ≡ h) × (n ≡ m)

-- Octets have a fault, of CBOR or of form. Running out of memory is none.
abbrev pub HasFault : List ℕ → TagRefused → Type 0
HasFault input why = (why ≢ refused.Memory) × IsRefusal input why

-- They have one fault at most, and none where they begin with a tag.
abbrev pub HasOneFault : Type 0
HasOneFault = (input : List ℕ) (why other : TagRefused) → HasFault input why → HasFault input other → why ≡ other

abbrev pub NotBoth : Type 0
NotBoth = (input : List ℕ) (g : Tag) (n : ℕ) (why : TagRefused) → BeginsTag input g n → ¬ HasFault input why

-- And one of both is there.
abbrev pub TagOrFault : Type 0
TagOrFault = (input : List ℕ) → AreOctets input → ((g : Tag) × (n : ℕ) × BeginsTag input g n) ⊎ ((why : TagRefused) × HasFault input why)

-- What holds of the values of a form. Some value is read exactly where there is no fault, and from
-- one item one value is read. From the item that a value is written as, it is read again. That
-- item is proper where what was read is, and it is at most `levels` levels deeper.
pub record FormLaw {A : Type 0} (field : Field) (Is : A → Term → Type 0) (item : A → Term) (levels : ℕ) : Type 0 where
  pub no_fault : (t : Term) → (field_fault field t ≡ None) ↔ ((v : A) × Is v t)
  pub one_item : (v w : A) (t : Term) → Is v t → Is w t → v ≡ w
  pub again : (v : A) (t : Term) → Is v t → Is v (item v)
  pub proper : (v : A) (t : Term) → Is v t → IsProper t → IsProper (item v)
  pub shallow : (v : A) (t : Term) → Is v t → depth (item v) ≤ max levels (depth t)

abbrev pub PayloadLaw : Type 0
PayloadLaw = FormLaw (one (a_map payload)) PayloadMap payload_item 0

-- A date is written with its tag, on the third level.
abbrev pub EvidenceLaw : Type 0
EvidenceLaw = FormLaw (one (a_map evidence)) EvidenceMap evidence_item 3
