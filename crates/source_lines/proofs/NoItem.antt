-- A line that has a fault says no item.
use Rattle.std.proofs.Common.{◌≡◌, ◌≢◌, inl, inr, ℕ, List, [], ◌∷◌, arith, refl, subst, sym}
use Rattle.std.specs.Prelude.{codes}
use Rattle.line_words.proofs.Finding.{one_hex}
use Rattle.line_words.specs.Reading.{IsWithin}
use Rattle.line_words.specs.Words.{words}
use Rattle.source_lines.specs.LineFaults.{BodyFault, BodyFaultIn, FaultAfter, HasFault, HasNone, HaveFault, KeyFault, KeyFaultIn, TagFault, TagFaultIn}
use Rattle.source_lines.specs.LineItems.{AreDescribed, AreTagged, IsAlone, IsDescribed, IsItem, IsKey, IsTagged, Say, SaysAfter}
use Rattle.source_lines.specs.Package.{IsPackage}
use Rattle.source_lines.specs.declared.line_fault.LineFault.{LineFault}
use Rattle.source_lines.specs.declared.line_fault.LineFault.TheVariants as faults
use Rattle.source_lines.specs.declared.line_item.Keyed.{Keyed}
use Rattle.source_set.specs.declared.told.Told.{Told}
use Rattle.source_set.specs.declared.told.Told.TheVariants as told
use Rattle.source_lines.proofs.OneItem.{apart}

-- ---- words with a fault are those of no content

untagged_of : (key locator digits : List ℕ) (fault : LineFault) → TagFault key locator digits fault → (keyed : Keyed) → AreTagged key locator digits keyed → ⊥
untagged_of key locator digits faults.Key has keyed are = has keyed.key are.number
untagged_of key locator digits faults.Text has keyed are = has.1 keyed.content.locator are.place
untagged_of key locator digits faults.Digits has keyed are = has.2 are.octets are.hex
untagged_of key locator digits faults.Octets has keyed are =
    has.4 (record { ident = keyed.content.ident; body = keyed.content.body })
    (subst (λ (o : List ℕ). IsPackage o (record { ident = keyed.content.ident; body = keyed.content.body })) (one_hex digits are.octets has.2 are.hex has.3) are.tag)
untagged_of key locator digits faults.Words has keyed are = has
untagged_of key locator digits faults.Long has keyed are = has

untagged : (rest : List (List ℕ)) (fault : LineFault) → TagFaultIn rest fault → (keyed : Keyed) → IsTagged rest keyed → ⊥
untagged (key ∷ locator ∷ digits ∷ []) fault has keyed is = untagged_of key locator digits fault has keyed is
untagged [] fault has keyed is = is
untagged (k ∷ []) fault has keyed is = is
untagged (k ∷ l ∷ []) fault has keyed is = is
untagged (k ∷ l ∷ d ∷ more ∷ others) fault has keyed is = is

undescribed_of : (key ident locator digits : List ℕ) (fault : LineFault) → BodyFault key ident locator digits fault → (keyed : Keyed) → AreDescribed key ident locator digits keyed → ⊥
undescribed_of key ident locator digits faults.Key has keyed are = has keyed.key are.number
undescribed_of key ident locator digits faults.Text has keyed are =
    elim has.1 [ inl none ↦ none keyed.content.ident are.name | inr none ↦ none keyed.content.locator are.place ]
undescribed_of key ident locator digits faults.Digits has keyed are = has.3 are.octets are.hex
undescribed_of key ident locator digits faults.Octets has keyed are =
    has.5 keyed.content.body (subst (λ (o : List ℕ). IsWithin 1048576 o keyed.content.body) (one_hex digits are.octets has.3 are.hex has.4) are.body)
undescribed_of key ident locator digits faults.Words has keyed are = has
undescribed_of key ident locator digits faults.Long has keyed are = has

undescribed : (rest : List (List ℕ)) (fault : LineFault) → BodyFaultIn rest fault → (keyed : Keyed) → IsDescribed rest keyed → ⊥
undescribed (key ∷ ident ∷ locator ∷ digits ∷ []) fault has keyed is = undescribed_of key ident locator digits fault has keyed is
undescribed [] fault has keyed is = is
undescribed (k ∷ []) fault has keyed is = is
undescribed (k ∷ i ∷ []) fault has keyed is = is
undescribed (k ∷ i ∷ l ∷ []) fault has keyed is = is
undescribed (k ∷ i ∷ l ∷ d ∷ more ∷ others) fault has keyed is = is

unkeyed_of : (word : List ℕ) (fault : LineFault) → KeyFault word fault → HasNone (IsKey (word ∷ []))
unkeyed_of word faults.Key has key is = has key is
unkeyed_of word faults.Long has key is = has
unkeyed_of word faults.Words has key is = has
unkeyed_of word faults.Text has key is = has
unkeyed_of word faults.Digits has key is = has
unkeyed_of word faults.Octets has key is = has

unkeyed : (rest : List (List ℕ)) (fault : LineFault) → KeyFaultIn rest fault → HasNone (IsKey rest)
unkeyed (word ∷ []) fault has key is = unkeyed_of word fault has key is
unkeyed [] fault has key is = is
unkeyed (word ∷ more ∷ others) fault has key is = is

-- ---- nor of an item

tagged_alone : (verb : List ℕ) (rest : List (List ℕ)) → verb ≡ codes "add" → ((keyed : Keyed) → IsTagged rest keyed → ⊥) → (item : Told) → SaysAfter verb rest item → ⊥
tagged_alone verb rest is none (told.Add key content) (inl says) = none (record { key = key; content = content }) says.1
tagged_alone verb rest is none (told.Add key content) (inr says) = absurd (omega (arith, apart verb is says.0))
tagged_alone verb rest is none (told.Change key content) says = absurd (omega (arith, apart verb is says.0))
tagged_alone verb rest is none (told.Gone key) says = absurd (omega (arith, apart verb is says.0))
tagged_alone verb rest is none (told.Bad line) says = says
tagged_alone verb rest is none told.Quiet says = absurd (omega (arith, apart verb is says.0))
tagged_alone verb rest is none told.Ended says = absurd (omega (arith, apart verb is says.0))
tagged_alone verb rest is none told.Failed says = says
tagged_alone verb rest is none told.Memory says = says

changed_alone : (verb : List ℕ) (rest : List (List ℕ)) → verb ≡ codes "change" → ((keyed : Keyed) → IsTagged rest keyed → ⊥) → (item : Told) → SaysAfter verb rest item → ⊥
changed_alone verb rest is none (told.Add key content) (inl says) = absurd (omega (arith, apart verb is says.0))
changed_alone verb rest is none (told.Add key content) (inr says) = absurd (omega (arith, apart verb is says.0))
changed_alone verb rest is none (told.Change key content) says = none (record { key = key; content = content }) says.1
changed_alone verb rest is none (told.Gone key) says = absurd (omega (arith, apart verb is says.0))
changed_alone verb rest is none (told.Bad line) says = says
changed_alone verb rest is none told.Quiet says = absurd (omega (arith, apart verb is says.0))
changed_alone verb rest is none told.Ended says = absurd (omega (arith, apart verb is says.0))
changed_alone verb rest is none told.Failed says = says
changed_alone verb rest is none told.Memory says = says

described_alone : (verb : List ℕ) (rest : List (List ℕ)) → verb ≡ codes "xml" → ((keyed : Keyed) → IsDescribed rest keyed → ⊥) → (item : Told) → SaysAfter verb rest item → ⊥
described_alone verb rest is none (told.Add key content) (inl says) = absurd (omega (arith, apart verb is says.0))
described_alone verb rest is none (told.Add key content) (inr says) = none (record { key = key; content = content }) says.1
described_alone verb rest is none (told.Change key content) says = absurd (omega (arith, apart verb is says.0))
described_alone verb rest is none (told.Gone key) says = absurd (omega (arith, apart verb is says.0))
described_alone verb rest is none (told.Bad line) says = says
described_alone verb rest is none told.Quiet says = absurd (omega (arith, apart verb is says.0))
described_alone verb rest is none told.Ended says = absurd (omega (arith, apart verb is says.0))
described_alone verb rest is none told.Failed says = says
described_alone verb rest is none told.Memory says = says

gone_alone : (verb : List ℕ) (rest : List (List ℕ)) → verb ≡ codes "gone" → ((key : ℕ) → IsKey rest key → ⊥) → (item : Told) → SaysAfter verb rest item → ⊥
gone_alone verb rest is none (told.Add key content) (inl says) = absurd (omega (arith, apart verb is says.0))
gone_alone verb rest is none (told.Add key content) (inr says) = absurd (omega (arith, apart verb is says.0))
gone_alone verb rest is none (told.Change key content) says = absurd (omega (arith, apart verb is says.0))
gone_alone verb rest is none (told.Gone key) says = none key says.1
gone_alone verb rest is none (told.Bad line) says = says
gone_alone verb rest is none told.Quiet says = absurd (omega (arith, apart verb is says.0))
gone_alone verb rest is none told.Ended says = absurd (omega (arith, apart verb is says.0))
gone_alone verb rest is none told.Failed says = says
gone_alone verb rest is none told.Memory says = says

alone_only : (verb : List ℕ) (rest : List (List ℕ)) → verb ≢ codes "add" → verb ≢ codes "change" → verb ≢ codes "xml" → verb ≢ codes "gone" → ((item : Told) → IsAlone verb rest item → ⊥)
    → (item : Told) → SaysAfter verb rest item → ⊥
alone_only verb rest add change xml gone none (told.Add key content) (inl says) = add says.0
alone_only verb rest add change xml gone none (told.Add key content) (inr says) = xml says.0
alone_only verb rest add change xml gone none (told.Change key content) says = change says.0
alone_only verb rest add change xml gone none (told.Gone key) says = gone says.0
alone_only verb rest add change xml gone none (told.Bad line) says = says
alone_only verb rest add change xml gone none told.Quiet says = none told.Quiet says
alone_only verb rest add change xml gone none told.Ended says = none told.Ended says
alone_only verb rest add change xml gone none told.Failed says = says
alone_only verb rest add change xml gone none told.Memory says = says

no_item_after : (verb : List ℕ) (rest : List (List ℕ)) (fault : LineFault) → FaultAfter verb rest fault → (item : Told) → SaysAfter verb rest item → ⊥
no_item_after verb rest fault (inl add) = tagged_alone verb rest add.0 (untagged rest fault add.1)
no_item_after verb rest fault (inr (inl change)) = changed_alone verb rest change.0 (untagged rest fault change.1)
no_item_after verb rest fault (inr (inr (inl xml))) = described_alone verb rest xml.0 (undescribed rest fault xml.1)
no_item_after verb rest fault (inr (inr (inr (inl gone)))) = gone_alone verb rest gone.0 (unkeyed rest fault gone.1)
no_item_after verb rest fault (inr (inr (inr (inr none)))) = alone_only verb rest none.0.not_add none.0.not_change none.0.not_xml none.0.not_gone none.0.not_alone

no_item : (all : List (List ℕ)) (fault : LineFault) → HaveFault all fault → (item : Told) → Say all item → ⊥
no_item [] fault has item says = says
no_item (verb ∷ rest) fault has item says = no_item_after verb rest fault has item says

-- A line with a fault is a bad line.
pub is_bad : (number : ℕ) (line : List ℕ) (fault : LineFault) (item : Told) → HasFault line fault → item ≡ told.Bad number → IsItem number line item
is_bad number line fault item has bad = subst (IsItem number line) (sym bad) (refl, no_item (words line) fault has)
