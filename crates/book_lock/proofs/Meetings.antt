-- What is true of passes that come from one another, and meet.
use Rattle.std.proofs.Common.{◌≡◌, ◌&&◌, not, ℕ, Bool, true, false, List, [], ◌∷◌, refl, sym, ap, ◌∙◌, subst, Option, true≢false}
use Rattle.atomic_table.specs.Seated.{TableId}
use Rattle.collector_core.specs.declared.chronicle.Entry.{Entry}
use Rattle.collector_core.specs.declared.chronicle.Mark.{Mark}
use Rattle.collector_core.specs.Desks.{AreOthers, AreOwn, entries}
use Rattle.collector_core.specs.Standing.{BookView, StandsForSome}
use Rattle.book_lock.specs.declared.view.View.{View}
use Rattle.book_lock.specs.Logs.{LegalWith}
use Rattle.book_lock.specs.Passes.{Agree, IsSound, PassView, as_others, met, split_from}
use Rattle.book_lock.specs.Plays.{Rests, Seated, Settled, joined, other_of, pass_of, shared}
use Rattle.book_lock.proofs.Together.{merged_left, merged_right}

-- ---- split

entries_others : (seen : List Mark) → entries (as_others seen) ≡ entries seen
entries_others [] = refl
entries_others (m ∷ later) = ap (λ (es : List Entry). m.entry ∷ es) (entries_others later)

are_others : (seen : List Mark) → AreOthers (as_others seen)
are_others [] = tt
are_others (m ∷ later) = (refl, are_others later)

pub sound_other : (p : PassView) (changes : Bool) → IsSound p → IsSound (split_from p changes)
sound_other p changes sound = record {
  some = sound.some;
  lawful = subst (LegalWith p.start) (sym (entries_others p.seen)) sound.lawful;
  sole_may = λ sole. absurd (true≢false (sym sole));
  sole_own = λ sole. absurd (true≢false (sym sole));
  bare = λ none. are_others p.seen;
}

pub sound_shared : (p : PassView) → IsSound p → IsSound (record p { sole = false })
sound_shared p sound = record {
  some = sound.some;
  lawful = sound.lawful;
  sole_may = λ sole. absurd (true≢false (sym sole));
  sole_own = λ sole. absurd (true≢false (sym sole));
  bare = sound.bare;
}

-- The new pass.
pub other_is : (old new : TableId) (v : View) (m : Seated) (changes : Bool) → new ≡ old → m ≡ (other_of v changes, []) → pass_of new m.0 ≡ split_from (pass_of old v) changes
other_is old new v m changes same is = ap (λ (z : TableId). pass_of z m.0) same ∙ ap (λ (x : Seated). pass_of old x.0) is

pub rests_other : (old new : TableId) (v : View) (m : Seated) (changes : Bool) → new ≡ old → m ≡ (other_of v changes, []) → IsSound (pass_of old v) → Rests new m
rests_other old new v m changes same is sound = record {
  empty = ap (λ (x : Seated). x.1) is;
  idle = ap (λ (x : Seated). x.0.stage) is;
  live = ap (λ (x : Seated). x.0.spent) is;
  sound = subst IsSound (sym (other_is old new v m changes same is)) (sound_other (pass_of old v) changes sound);
}

-- The old one, where the new one may change.
pub shared_is : (old new : TableId) (me m : Seated) → new ≡ old → m ≡ (shared me.0, me.1) → pass_of new m.0 ≡ record (pass_of old me.0) { sole = false }
shared_is old new me m same is = ap (λ (z : TableId). pass_of z m.0) same ∙ ap (λ (x : Seated). pass_of old x.0) is

pub rests_shared : (old new : TableId) (me m : Seated) → new ≡ old → m ≡ (shared me.0, me.1) → Rests old me → Rests new m
rests_shared old new me m same is rests = record {
  empty = ap (λ (x : Seated). x.1) is ∙ rests.empty;
  idle = ap (λ (x : Seated). x.0.stage) is ∙ rests.idle;
  live = ap (λ (x : Seated). x.0.spent) is ∙ rests.live;
  sound = subst IsSound (sym (shared_is old new me m same is)) (sound_shared (pass_of old me.0) rests.sound);
}

-- Whether the old one is sole still, by whether the new one may change.
pub sole_no_more : (p q : PassView) (changes : Bool) → changes ≡ true → q ≡ record p { sole = false } → q ≡ record p { sole = p.sole && not changes }
sole_no_more p q changes asked is =
    is ∙ ap (λ (b : Bool). let x : PassView = record p { sole = b } in x) (sym (ap (λ (b : Bool). p.sole && not b) asked ∙ and_false p.sole))
  where
    and_false : (b : Bool) → (b && false) ≡ false
    and_false true = refl
    and_false false = refl

pub sole_still : (p q : PassView) (changes : Bool) → changes ≡ false → q ≡ p → q ≡ record p { sole = p.sole && not changes }
sole_still p q changes unasked is =
    is ∙ ap (λ (b : Bool). let x : PassView = record p { sole = b } in x) (sym (ap (λ (b : Bool). p.sole && not b) unasked ∙ and_true p.sole))
  where
    and_true : (b : Bool) → (b && true) ≡ b
    and_true true = refl
    and_true false = refl

-- The same seat, unchanged.
pub rests_same : (old new : TableId) (me m : Seated) → new ≡ old → m ≡ me → Rests old me → Rests new m
rests_same old new me m same is rests =
    subst (λ (z : TableId). Rests z m) (sym same) (subst (Rests old) (sym is) rests)

-- ---- meet

module _ (old new : TableId) (v w : View) (carried : List (ℕ × Option BookView)) (one two : Seated) (same : new ≡ old) (empty : carried ≡ []) (join : one ≡ (joined v w, carried))
    (settle : Settled one.0 one.1 two) where
  settled_so : Settled (joined v w) carried two
  settled_so = subst (λ (m : Seated). Settled m.0 m.1 two) join settle

  pub met_is : (z : TableId) → pass_of new two.0 ≡ met (pass_of old v) (pass_of z w)
  met_is z = ap (λ (y : TableId). pass_of y two.0) same ∙ ap (λ (m : Seated). pass_of old m.0) settled_so.is

  pub agree_seen : Agree v.seen w.seen
  agree_seen = settled_so.agree

  pub rests_met : v.spent ≡ false → StandsForSome v.start → Rests new two
  rests_met live begins = record {
    empty = ap (λ (m : Seated). m.1) settled_so.is ∙ empty;
    idle = ap (λ (m : Seated). m.0.stage) settled_so.is;
    live = ap (λ (m : Seated). m.0.spent) settled_so.is ∙ live;
    sound = subst IsSound (sym (met_is old)) (record {
      some = begins;
      lawful = settled_so.lawful;
      sole_may = settled_so.sole_may;
      sole_own = settled_so.sole_own;
      bare = settled_so.bare;
    });
  }

  -- After a meeting the pass has what the sole one had seen.
  pub sole_seen : (v.sole ≡ true → AreOwn v.seen) → v.sole ≡ true → two.0.seen ≡ v.seen
  sole_seen own sole = ap (λ (m : Seated). m.0.seen) settled_so.is ∙ merged_left v.seen w.seen (own sole) (settled_so.left_whole sole)

  pub other_sole_seen : (w.sole ≡ true → AreOwn w.seen) → w.sole ≡ true → two.0.seen ≡ w.seen
  other_sole_seen own sole = ap (λ (m : Seated). m.0.seen) settled_so.is ∙ merged_right v.seen w.seen (own sole) settled_so.agree (settled_so.right_whole sole)

  -- The same of the passes as callers see them.
  module _ (p q : PassView) (z : TableId) (is_p : pass_of old v ≡ p) (is_q : pass_of z w ≡ q) where
    pub met_as : pass_of new two.0 ≡ met p q
    met_as = met_is z ∙ ap (λ (x : PassView). met x (pass_of z w)) is_p ∙ ap (λ (x : PassView). met p x) is_q

    pub agree_as : Agree p.seen q.seen
    agree_as = subst (λ (x : PassView). Agree p.seen x.seen) is_q (subst (λ (x : PassView). Agree x.seen w.seen) is_p agree_seen)

    pub sole_as : IsSound (pass_of old v) → p.sole ≡ true → two.0.seen ≡ p.seen
    sole_as sound sole = sole_seen sound.sole_own (ap (λ (x : PassView). x.sole) is_p ∙ sole) ∙ ap (λ (x : PassView). x.seen) is_p

    pub other_sole_as : IsSound (pass_of z w) → q.sole ≡ true → two.0.seen ≡ q.seen
    other_sole_as sound sole = other_sole_seen sound.sole_own (ap (λ (x : PassView). x.sole) is_q ∙ sole) ∙ ap (λ (x : PassView). x.seen) is_q
