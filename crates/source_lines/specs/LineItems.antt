-- The items that lines are.
use Rattle.std.specs.Prelude.{◌≡◌, ◌⊎◌, ℕ, List, [], ◌∷◌, codes}
use Rattle.line_words.specs.Reading.{IsHex, IsNumber, IsText, IsWithin}
use Rattle.line_words.specs.Words.{words}
use Rattle.source_lines.specs.Package.{IsPackage}
use Rattle.source_lines.specs.declared.line_item.Keyed.{Keyed}
use Rattle.source_set.specs.declared.told.Told.{Told}
use Rattle.source_set.specs.declared.told.Told.TheVariants as told

-- ---- what words say of a key

-- A key, a locator, and the octets of a tag. The record has the tag's software identifier and its
-- canonical octets, in the data model of CoSWID tags (RFC 8412, section 3.4.2).
pub record AreTagged (key locator digits : List ℕ) (keyed : Keyed) : Type 0 where
  pub number : IsNumber key keyed.key
  pub place : IsText 65535 locator keyed.content.locator
  pub octets : List ℕ
  pub hex : IsHex digits octets
  pub tag : IsPackage octets (record { ident = keyed.content.ident; body = keyed.content.body })
  pub model : keyed.content.model ≡ record { pen = 0; kind = 2 }
  pub source : keyed.content.source ≡ 0

-- The digits are those of octets within the limit of a body.
pub record IsBody (digits body : List ℕ) : Type 0 where
  pub octets : List ℕ
  pub hex : IsHex digits octets
  pub within : IsWithin 1048576 octets body

-- A key, a software identifier, a locator and a body.
pub record AreDescribed (key ident locator digits : List ℕ) (keyed : Keyed) : Type 0 where
  pub number : IsNumber key keyed.key
  pub name : IsText 65535 ident keyed.content.ident
  pub place : IsText 65535 locator keyed.content.locator
  pub octets : List ℕ
  pub hex : IsHex digits octets
  pub body : IsWithin 1048576 octets keyed.content.body
  pub model : keyed.content.model ≡ record { pen = 0; kind = 0 }
  pub source : keyed.content.source ≡ 0

-- The words after `add` and `change`, and those after `xml`.
abbrev pub IsTagged : List (List ℕ) → Keyed → Type 0
IsTagged (key ∷ locator ∷ digits ∷ []) keyed = AreTagged key locator digits keyed
IsTagged other keyed = ⊥

abbrev pub IsDescribed : List (List ℕ) → Keyed → Type 0
IsDescribed (key ∷ ident ∷ locator ∷ digits ∷ []) keyed = AreDescribed key ident locator digits keyed
IsDescribed other keyed = ⊥

-- ---- the items

abbrev pub added : Keyed → Told
added keyed = told.Add keyed.key keyed.content

abbrev pub changed : Keyed → Told
changed keyed = told.Change keyed.key keyed.content

-- The words after `gone` are a key.
abbrev pub IsKey : List (List ℕ) → ℕ → Type 0
IsKey (word ∷ []) key = IsNumber word key
IsKey other key = ⊥

-- The first word and those after it say the item.
abbrev pub SaysAfter : List ℕ → List (List ℕ) → Told → Type 0
SaysAfter verb rest (told.Add key content) = ((verb ≡ codes "add") × IsTagged rest (record { key = key; content = content }))
    ⊎ ((verb ≡ codes "xml") × IsDescribed rest (record { key = key; content = content }))
SaysAfter verb rest (told.Change key content) = (verb ≡ codes "change") × IsTagged rest (record { key = key; content = content })
SaysAfter verb rest (told.Gone key) = (verb ≡ codes "gone") × IsKey rest key
SaysAfter verb rest (told.Bad line) = ⊥
SaysAfter verb rest told.Quiet = (verb ≡ codes "quiet") × (rest ≡ [])
SaysAfter verb rest told.Ended = (verb ≡ codes "end") × (rest ≡ [])
SaysAfter verb rest told.Failed = ⊥
SaysAfter verb rest told.Memory = ⊥

-- The words say the item.
abbrev pub Say : List (List ℕ) → Told → Type 0
Say [] item = ⊥
Say (verb ∷ rest) item = SaysAfter verb rest item

-- The line says the item.
abbrev pub Says : List ℕ → Told → Type 0
Says line item = Say (words line) item

-- The item of the line of that number: the one that it says, or that it says none.
abbrev pub IsItem : ℕ → List ℕ → Told → Type 0
IsItem number line (told.Bad at) = (at ≡ number) × ((item : Told) → Says line item → ⊥)
IsItem number line item = Says line item

-- ---- what the readers of some words find

-- The words after `gone` say this item.
abbrev pub IsGone : List (List ℕ) → Told → Type 0
IsGone rest (told.Gone key) = IsKey rest key
IsGone rest item = ⊥

-- A word that is none of those before keys says this item.
abbrev pub IsAlone : List ℕ → List (List ℕ) → Told → Type 0
IsAlone verb rest told.Quiet = (verb ≡ codes "quiet") × (rest ≡ [])
IsAlone verb rest told.Ended = (verb ≡ codes "end") × (rest ≡ [])
IsAlone verb rest item = ⊥
