-- A pass as a desk: the laws.
use Rattle.std.proofs.Common.{◌≡◌, List, [], ◌++◌, refl, sym, ap, ◌∙◌, subst, append_assoc}
use Rattle.std.proofs.lemmas.List.{append-nil}
use Rattle.collector_core.specs.declared.chronicle.Mark.{Mark}
use Rattle.collector_core.specs.BookDesk.{entries_append, extended_more, own_append}
use Rattle.collector_core.specs.Chronicle.{Chronicle, extended}
use Rattle.collector_core.specs.Desks.{entries}
use Rattle.collector_core.specs.Legal.{IsLegal}
use Rattle.collector_core.specs.Standing.{BookView, Stands}
use Rattle.book_lock.specs.Passes.{PassStands, PassView, PassWent}

pub stays_pass : (pass : PassView) → PassWent pass [] pass
stays_pass pass = record {
  shelf = refl;
  start = refl;
  seen = sym (append-nil pass.seen);
  may_change = refl;
  sole = refl;
  alone = λ _. tt;
  lawful = λ lawful. lawful;
}

pub pass_went_on : (one two three : PassView) (first second : List Mark) → PassWent one first two → PassWent two second three
    → PassWent one (first ++ second) three
pass_went_on one two three first second a b = record {
  shelf = b.shelf ∙ a.shelf;
  start = b.start ∙ a.start;
  seen = b.seen ∙ ap (λ (seen : List Mark). seen ++ second) a.seen ∙ append_assoc one.seen first second;
  may_change = b.may_change ∙ a.may_change;
  sole = b.sole ∙ a.sole;
  alone = λ sole. own_append first second (a.alone sole) (b.alone (a.sole ∙ sole));
  lawful = λ lawful. b.lawful (a.lawful lawful);
}

pub pass_went_with : (before after : PassView) (marks : List Mark) (chronicle : Chronicle) → PassWent before marks after
    → PassStands before chronicle → PassStands after (extended chronicle (entries marks))
pass_went_with before after marks chronicle went stands = record {
  before = stands.before;
  stood = subst (λ (start : BookView). Stands start stands.before) (sym went.start) stands.stood;
  is = ap (λ (c : Chronicle). extended c (entries marks)) stands.is
      ∙ extended_more stands.before (entries before.seen) (entries marks)
      ∙ ap (extended stands.before) (sym (entries_append before.seen marks) ∙ ap entries (sym went.seen));
  lawful = went.lawful stands.lawful;
}

pub pass_takes_still : (before after : PassView) (marks : List Mark) → PassWent before marks after → after.may_change ≡ before.may_change
pass_takes_still before after marks went = went.may_change

pub pass_legal : (pass : PassView) (chronicle : Chronicle) → PassStands pass chronicle → IsLegal chronicle
pass_legal pass chronicle stands = subst IsLegal (sym stands.is) (stands.lawful stands.before stands.stood)
