-- What the reader of tags answers.
use Rattle.std.specs.Prelude.{◌≡◌, ℕ, List, Some, Result, Ok, Err}
use Rattle.cbor_det.specs.declared.fault.CborRefused.{CborRefused}
use Rattle.cbor_det.specs.declared.fault.CborRefused.TheVariants as cbor
use Rattle.cbor_det.specs.declared.limits.Limits.{Limits}
use Rattle.cbor_det.specs.Answers as items
use Rattle.cbor_det.specs.Faults.{Begins}
use Rattle.cbor_det.specs.Term.{Term}
use Rattle.coswid_res.specs.declared.fault.FormFault.{FormFault}
use Rattle.coswid_res.specs.declared.fault.FormRefused.{FormRefused}
use Rattle.coswid_res.specs.declared.fault.FormRefused.TheVariants as form
use Rattle.coswid_tag.specs.declared.tag.Tag.{Tag}
use Rattle.coswid_codec.specs.declared.read.TagRefused.{TagRefused}
use Rattle.coswid_codec.specs.declared.read.TagRefused.TheVariants as refused
use Rattle.coswid_codec.specs.Forms.{TagForm}
use Rattle.coswid_codec.specs.TagFault.{tag_fault}

-- what is looked at of one tag
abbrev pub limits : Limits
limits = record { octets = 8388608; depth = 64 }

-- The input begins with that many octets that spell an item from which this tag is read.
pub record BeginsTag (input : List ℕ) (g : Tag) (len : ℕ) : Type 0 where
  pub item : Term
  pub begins : Begins limits input item len
  pub form : TagForm g item

-- The input begins with an item that is no tag, and this is its first form fault.
pub record BeginsFaulty (input : List ℕ) (f : FormFault) : Type 0 where
  pub item : Term
  pub len : ℕ
  pub begins : Begins limits input item len
  pub fault : tag_fault item ≡ Some f

-- Why no tag is read.
abbrev pub IsRefusal : List ℕ → TagRefused → Type 0
IsRefusal input (refused.Cbor f) = items.IsRefusal limits input (cbor.Fault f)
IsRefusal input (refused.Form f) = BeginsFaulty input f
IsRefusal input refused.Memory = Unit {0}

-- The answer is this tag with that many octets, unless memory ran out.
abbrev pub GivesTag : Tag → ℕ → Result (Tag × ℕ) TagRefused → Type 0
GivesTag g n (Ok read) = (read.0 ≡ g) × (read.1 ≡ n)
GivesTag g n (Err (refused.Cbor f)) = ⊥
GivesTag g n (Err (refused.Form f)) = ⊥
GivesTag g n (Err refused.Memory) = Unit {0}

-- The answer is this form fault, unless memory ran out.
abbrev pub GivesForm : FormFault → Result (Tag × ℕ) TagRefused → Type 0
GivesForm f (Ok read) = ⊥
GivesForm f (Err (refused.Cbor c)) = ⊥
GivesForm f (Err (refused.Form g)) = g ≡ f
GivesForm f (Err refused.Memory) = Unit {0}

-- The answer is this fault of items, unless memory ran out.
abbrev pub GivesCbor : ℕ → ℕ → Result (Tag × ℕ) TagRefused → Type 0
GivesCbor kind at (Ok read) = ⊥
GivesCbor kind at (Err (refused.Cbor f)) = (f.kind ≡ kind) × (f.at ≡ at)
GivesCbor kind at (Err (refused.Form f)) = ⊥
GivesCbor kind at (Err refused.Memory) = Unit {0}

-- what the refusal of an item, and of a form, becomes
abbrev pub of_cbor : CborRefused → TagRefused
of_cbor (cbor.Fault f) = refused.Cbor f
of_cbor cbor.Memory = refused.Memory

abbrev pub of_form : FormRefused → TagRefused
of_form (form.Form f) = refused.Form f
of_form form.Memory = refused.Memory
