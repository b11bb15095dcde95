-- What `links` reports of octets.
use Rattle.std.proofs.Common.{◌≡◌, ℕ, ◌<◌, inl, inr, min, Bool, true, false, cond, List, length, take, Result, Ok, Err, refl, sym, ap, subst, ◌∙◌}
use Rattle.std.specs.Prelude.{IfOk, nat_lt}
use Rattle.std.proofs.lemmas.Bool.{cases_lt, lt-ltb}
use Rattle.std.proofs.lemmas.List.{take_min}
use Rattle.wire_base.specs.declared.values.memory.Memory.{Memory}
use Rattle.coswid_tag.specs.declared.tag.Tag.{Tag}
use Rattle.command_text.specs.declared.answer.Answer.{Answer}
use Rattle.command_text.specs.declared.ending.Ending.TheVariants as ending
use Rattle.swid_cli.specs.declared.links.tag_list.Behind.{Behind}
use Rattle.swid_cli.specs.declared.links.tag_list.Behind.TheVariants as behind
use Rattle.swid_cli.specs.declared.links.tag_list.TagList.{TagList}
use Rattle.swid_cli.specs.Links.{LIST_OCTETS, LinksTells, answer_behind, is_cut, list_answer}
use Rattle.swid_cli.specs.TagList.{IsTagList}
use Rattle.swid_cli.proofs.Telling.{IsSound, IsWide}

-- Two inputs that are both longer than they may be.
same_answer : (list : TagList) (n m : ℕ) → LIST_OCTETS < n → LIST_OCTETS < m → list_answer list (nat_lt LIST_OCTETS n) ≡ list_answer list (nat_lt LIST_OCTETS m)
same_answer list n m over more = ap (λ (b : Bool). list_answer list b) (lt-ltb LIST_OCTETS n over ∙ sym (lt-ltb LIST_OCTETS m more))

pub links_wide : IsWide LIST_OCTETS LinksTells
links_wide held octets text how over more same tells = record {
  list = tells.list;
  read = subst (λ (o : List ℕ). IsTagList o tells.list) same tells.read;
  answer = same_answer tells.list (length octets) (length held) more over ∙ tells.answer;
}

-- ---- what may be looked at

-- Tags that were read of what may be looked at, and whether the input goes on.
pub list_tells : (octets within : List ℕ) (list : TagList) (goes_on : Bool) (made : Answer) → within ≡ take (min LIST_OCTETS (length octets)) octets → IsTagList within list
    → goes_on ≡ nat_lt LIST_OCTETS (length octets) → made ≡ list_answer list goes_on → LinksTells octets made.text made.ending
list_tells octets within list goes_on made front read same is = record {
  list = list;
  read = subst (λ (o : List ℕ). IsTagList o list) (front ∙ take_min LIST_OCTETS octets) read;
  answer = ap (λ (b : Bool). list_answer list b) (sym same) ∙ sym is;
}

-- whatever became of it
pub answer_tells : (octets within : List ℕ) (list : TagList) (result : Result Answer Memory) → within ≡ take (min LIST_OCTETS (length octets)) octets → IsTagList within list
    → IfOk result (λ (made : Answer). made ≡ list_answer list (nat_lt LIST_OCTETS (length octets))) → IfOk result (λ (made : Answer). LinksTells octets made.text made.ending)
answer_tells octets within list (Ok made) front read is = list_tells octets within list (nat_lt LIST_OCTETS (length octets)) made front read refl is
answer_tells octets within list (Err memory) front read is = tt

-- ---- more octets than may be looked at

refused_ending : (b : Bool) (x y : Answer) → x.ending ≡ ending.Refused → y.ending ≡ ending.Refused → (cond b x y).ending ≡ ending.Refused
refused_ending true x y first second = first
refused_ending false x y first second = second

-- What is longer than it may be is refused.
long_refused : (gs : List Tag) (b : Behind) → (answer_behind gs true b).ending ≡ ending.Refused
long_refused gs behind.Nothing = refl
long_refused gs behind.More = refl
long_refused gs (behind.NoItem fault) = refused_ending (is_cut fault) _ _ refl refl
long_refused gs (behind.NoTag fault) = refl

never : ending.Refused ≡ ending.Whole → ⊥
never e = absurd cc

pub links_sound : IsSound LIST_OCTETS LinksTells
links_sound octets text how tells whole = elim (cases_lt LIST_OCTETS (length octets)) [
  | inl over ↦ absurd (never (
      sym (long_refused tells.list.tags tells.list.behind)
      ∙ ap (λ (b : Bool). (list_answer tells.list b).ending) (sym (lt-ltb LIST_OCTETS (length octets) over))
      ∙ ap (λ (a : Answer). a.ending) tells.answer
      ∙ whole))
  | inr within ↦ within
]
