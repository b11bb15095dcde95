-- Octets begin with a tag or have a fault, and not both.
use Rattle.std.proofs.Common.{◌≡◌, ◌⊎◌, ℕ, inl, inr, List, length, Option, Some, None, refl, sym, ap, ◌∙◌, subst}
use Rattle.std.proofs.lemmas.Option.{none-some}
use Rattle.cbor_det.specs.Answers as items
use Rattle.cbor_det.specs.Faults.{Begins}
use Rattle.cbor_det.specs.Laws.{SomeOutcome}
use Rattle.cbor_det.specs.Term.{Term}
use Rattle.cbor_det.specs.declared.fault.CborFault.{CborFault}
use Rattle.cbor_det.specs.declared.fault.CborRefused.TheVariants as cbor
use Rattle.cbor_det.proofs.Outcome.{item_unique, fault_unique, item_no_fault}
use Rattle.cbor_det.proofs.Outcomes.{some_outcome}
use Rattle.coswid_res.specs.declared.fault.FormFault.{FormFault}
use Rattle.coswid_tag.specs.declared.tag.Tag.{Tag}
use Rattle.coswid_codec.specs.declared.read.TagRefused.{TagRefused}
use Rattle.coswid_codec.specs.declared.read.TagRefused.TheVariants as refused
use Rattle.coswid_codec.specs.Answers.{limits, BeginsTag, BeginsFaulty}
use Rattle.coswid_codec.specs.Forms.{TagForm}
use Rattle.coswid_codec.specs.Laws.{BeginsOneTag, HasFault, HasOneFault, NotBoth, TagOrFault}
use Rattle.coswid_codec.specs.TagFault.{tag_fault}
use Rattle.coswid_codec.proofs.Whole.{no_fault_or_no_tag, form_none, one_tag}

-- two of one kind

pub begins_one_tag : BeginsOneTag
begins_one_tag input g h n m a b =
    let one = item_unique limits input a.item b.item n m a.begins b.begins in
    let P : Term → Type 0 = λ t. TagForm h t in
    (one_tag g h a.item a.form (subst P (sym one.0) b.form), one.1)

pub fault_same : (input : List ℕ) (f e : CborFault) → items.IsRefusal limits input (cbor.Fault f) → items.IsRefusal limits input (cbor.Fault e) → (f.kind ≡ e.kind) × (f.at ≡ e.at)
fault_same input f e (inl a) (inl b) = fault_unique limits input f.kind f.at e.kind e.at a b
fault_same input f e (inr a) (inr b) = (a.0 ∙ sym b.0, a.1 ∙ sym b.1)
fault_same input f e (inl a) (inr b) = absurd (b.2.no_fault f.kind f.at a)
fault_same input f e (inr a) (inl b) = absurd (a.2.no_fault e.kind e.at b)

some_same : (f e : FormFault) → Some f ≡ Some e → f ≡ e
some_same f e is = cc

pub form_same : (input : List ℕ) (f e : FormFault) → BeginsFaulty input f → BeginsFaulty input e → f ≡ e
form_same input f e a b =
    let one = (item_unique limits input a.item b.item a.len b.len a.begins b.begins).0 in
    some_same f e (sym a.fault ∙ ap tag_fault one ∙ b.fault)

-- one of each

pub item_not_refused : (input : List ℕ) (f : CborFault) (t : Term) (n : ℕ) → items.IsRefusal limits input (cbor.Fault f) → Begins limits input t n → ⊥
item_not_refused input f t n (inl a) begins = item_no_fault limits input t n f.kind f.at begins a
item_not_refused input f t n (inr a) begins = a.2.no_item t n begins

pub tag_not_faulty : (input : List ℕ) (f : FormFault) (g : Tag) (n : ℕ) → BeginsFaulty input f → BeginsTag input g n → ⊥
tag_not_faulty input f g n a b =
    let one = (item_unique limits input a.item b.item a.len n a.begins b.begins).0 in
    none-some f (sym (form_none g b.item b.form) ∙ ap tag_fault (sym one) ∙ a.fault)

-- all

pub has_one_fault : HasOneFault
has_one_fault input (refused.Cbor f) (refused.Cbor e) a b =
    let same = fault_same input f e a.1 b.1 in
    ap (λ (k : ℕ). refused.Cbor (record { kind = k; at = f.at })) same.0 ∙ ap (λ (n : ℕ). refused.Cbor (record { kind = e.kind; at = n })) same.1
has_one_fault input (refused.Form f) (refused.Form e) a b = ap (λ (d : FormFault). refused.Form d) (form_same input f e a.1 b.1)
has_one_fault input (refused.Cbor f) (refused.Form e) a b = absurd (item_not_refused input f b.1.item b.1.len a.1 b.1.begins)
has_one_fault input (refused.Form f) (refused.Cbor e) a b = absurd (item_not_refused input e a.1.item a.1.len b.1 a.1.begins)
has_one_fault input refused.Memory other a b = absurd (a.0 refl)
has_one_fault input why refused.Memory a b = absurd (b.0 refl)

pub not_both : NotBoth
not_both input g n (refused.Cbor f) tag = λ is. item_not_refused input f tag.item n is.1 tag.begins
not_both input g n (refused.Form f) tag = λ is. tag_not_faulty input f g n is.1 tag
not_both input g n refused.Memory tag = λ is. is.0 refl

abbrev Answered : List ℕ → Type 0
Answered input = ((g : Tag) × (n : ℕ) × BeginsTag input g n) ⊎ ((why : TagRefused) × HasFault input why)

is_cbor : (input : List ℕ) (f : CborFault) → items.IsRefusal limits input (cbor.Fault f) → Answered input
is_cbor input f is = inr (refused.Cbor f, ((λ e. absurd cc), is))

by_fault : (input : List ℕ) (t : Term) (n : ℕ) (first : Option FormFault) → Begins limits input t n → tag_fault t ≡ first → Answered input
by_fault input t n None begins is = let found = (no_fault_or_no_tag t).0 is in inl (found.0, n, record { item = t; begins = begins; form = found.1 })
by_fault input t n (Some f) begins is = inr (refused.Form f, ((λ e. absurd cc), record { item = t; len = n; begins = begins; fault = is }))

by_outcome : (input : List ℕ) → SomeOutcome limits input → Answered input
by_outcome input (inl a) = by_fault input a.0 a.1 (tag_fault a.0) a.2 refl
by_outcome input (inr (inl a)) = is_cbor input (record { kind = a.0; at = a.1 }) (inl a.2)
by_outcome input (inr (inr a)) = is_cbor input (record { kind = 1; at = length input }) (inr (refl, refl, a))

pub tag_or_fault : TagOrFault
tag_or_fault input are = by_outcome input (some_outcome limits input are)
