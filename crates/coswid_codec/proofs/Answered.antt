-- What is answered, at each end of the reader.
use Rattle.std.proofs.Common.{◌≡◌, ◌≤◌, ℕ, List, length, Option, Some, None, Result, Ok, Err, sym, ap, ◌∙◌, subst}
use Rattle.std.proofs.lemmas.Option.{none-some}
use Rattle.std.specs.Prelude.{IfOk, IfErr}
use Rattle.cbor_det.specs.Faults.{Begins, IsFault, IsCut}
use Rattle.cbor_det.specs.Term.{Term, depth}
use Rattle.cbor_det.proofs.Outcome.{item_unique, item_no_fault}
use Rattle.coswid_res.specs.declared.fault.FormFault.{FormFault}
use Rattle.coswid_res.specs.declared.fault.FormRefused.{FormRefused}
use Rattle.coswid_res.specs.declared.fault.FormRefused.TheVariants as form
use Rattle.coswid_res.specs.Reading.{Tells}
use Rattle.coswid_tag.specs.declared.tag.Tag.{Tag}
use Rattle.coswid_codec.specs.declared.read.TagRefused.{TagRefused}
use Rattle.coswid_codec.specs.Answers.{limits, BeginsTag, BeginsFaulty, IsRefusal, GivesTag, GivesForm, GivesCbor, of_form}
use Rattle.coswid_codec.specs.Forms.{TagForm}
use Rattle.coswid_codec.specs.Items.{tag_item}
use Rattle.coswid_codec.specs.SizesFit.{SizesFit}
use Rattle.coswid_codec.specs.TagFault.{tag_fault}
use Rattle.coswid_codec.proofs.Whole.{form_none, one_tag, read_sizes, written_depth}

pub record Answered (input : List ℕ) (r : Result (Tag × ℕ) TagRefused) : Type 0 where
  pub found : IfOk r (λ read. BeginsTag input read.0 read.1)
  pub shallow : IfOk r (λ read. depth (tag_item read.0) ≤ 64)
  pub sizes : IfOk r (λ read. SizesFit read.0)
  pub refused : IfErr r (IsRefusal input)
  pub only : (g : Tag) (n : ℕ) → BeginsTag input g n → GivesTag g n r
  pub form : (f : FormFault) → BeginsFaulty input f → GivesForm f r
  pub fault : (kind at : ℕ) → IsFault limits input kind at → GivesCbor kind at r
  pub cut : IsCut limits input → GivesCbor 1 (length input) r

clash : {A : Type 0} (f : FormFault) (first : Option FormFault) → first ≡ Some f → first ≡ None → A
clash {A} f first some none = absurd (none-some f (sym none ∙ some))

-- The fault of the item is that of any item that the input begins with.
faulty : (input : List ℕ) (t : Term) (n : ℕ) (f : FormFault) → Begins limits input t n → BeginsFaulty input f → tag_fault t ≡ Some f
faulty input t n f begins is = ap (λ (u : Term). tag_fault u) (item_unique limits input t is.item n is.len begins is.begins).0 ∙ is.fault

-- and a tag that is read from one has no fault
clear : (input : List ℕ) (t : Term) (n m : ℕ) (g : Tag) → Begins limits input t n → BeginsTag input g m → tag_fault t ≡ None
clear input t n m g begins is =
    ap (λ (u : Term). tag_fault u) (item_unique limits input t is.item n m begins is.begins).0 ∙ form_none g is.item is.form

pub read_whole : (input : List ℕ) (t : Term) (g : Tag) (n : ℕ) → Begins limits input t n → tag_fault t ≡ None → TagForm g t → Answered input (Ok (g, n))
read_whole input t g n begins none form = record {
  found = record { item = t; begins = begins; form = form };
  shallow = written_depth g t begins.shallow form;
  sizes = read_sizes g t input n begins form;
  refused = tt;
  only = λ h m is.
      let one = item_unique limits input is.item t m n is.begins begins in
      let P : Term → Type 0 = λ u. TagForm h u in
      (one_tag g h t form (subst P one.0 is.form), sym one.1);
  form = λ f is. clash f (tag_fault t) (faulty input t n f begins is) none;
  fault = λ kind at is. item_no_fault limits input t n kind at begins is;
  cut = λ is. is.no_item t n begins;
}

pub form_refused : (input : List ℕ) (t : Term) (n : ℕ) (e : FormRefused) → Begins limits input t n → Tells (tag_fault t) e → Answered input (Err (of_form e))
form_refused input t n (form.Form f) begins told = record {
  found = tt;
  shallow = tt;
  sizes = tt;
  refused = record { item = t; len = n; begins = begins; fault = told };
  only = λ g m is. clash f (tag_fault t) told (clear input t n m g begins is);
  form = λ g is. let e : Some f ≡ Some g = sym told ∙ faulty input t n g begins is in cc;
  fault = λ kind at is. item_no_fault limits input t n kind at begins is;
  cut = λ is. is.no_item t n begins;
}
form_refused input t n form.Memory begins told = record {
  found = tt;
  shallow = tt;
  sizes = tt;
  refused = tt;
  only = λ g m is. tt;
  form = λ g is. tt;
  fault = λ kind at is. tt;
  cut = λ is. tt;
}
