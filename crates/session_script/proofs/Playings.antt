-- What is made of a line that is played.
use Rattle.std.proofs.Common.{◌≡◌, ◌∙◌, ℕ, ◌+◌, ◌++◌, [], List, Result, Ok, Err, refl, ap, subst}
use Rattle.std.specs.Borrow.{Bor}
use Rattle.std.specs.Prelude.{IfOk}
use Rattle.std.specs.List.{flat_map}
use Rattle.wire_base.specs.Stamp.{IsStampAt}
use Rattle.wire_base.specs.declared.values.stamp.ClockRange.{ClockRange}
use Rattle.wire_base.specs.declared.values.memory.Memory.{Memory}
use Rattle.swima_model.specs.declared.record.Content.{Content}
use Rattle.collector_core.specs.declared.book.edit.Edit.{Edit}
use Rattle.collector_core.specs.declared.book.edit.Edit.TheVariants as edit
use Rattle.session_world.specs.declared.telling.Telling.{Telling}
use Rattle.session_world.specs.Lines.{Told, enters}
use Rattle.session_world.specs.Standing.{Does, WorldView}
use Rattle.session_world.specs.World.{World}
use Rattle.session_script.specs.declared.line.Line.{Line}
use Rattle.session_script.specs.declared.line.Line.TheVariants as line
use Rattle.session_script.specs.declared.playing.Playing.{Playing as PlayingView}
use Rattle.session_script.specs.Played.{Acts, PlaysSo, StandsFor}
use Rattle.session_script.specs.Replay.{Changes, Enters, IsPlayed, Playing, telling_line, told_in}

-- The stamp of a second.
pub stamp_is : (secs number : ℕ) (made : Result (List ℕ) ClockRange) (text : List ℕ) → secs ≡ number → made ≡ Ok text → IsStampAt secs made → IsStampAt number (Ok text)
stamp_is secs number made text same is at = subst (λ (k : ℕ). IsStampAt k (Ok text)) same (subst (λ (m : Result (List ℕ) ClockRange). IsStampAt secs m) is at)

-- What a call of the world reported is printed of a line that does what the call did.
pub played : (said : Line) (act : World → Told) (before : PlayingView) (world : WorldView) (told told_after : List Telling) (result : Result (List ℕ) Memory)
    → ((p : Playing) → IsPlayed p said (told_in p.changes (act p.world))) → told ≡ [] → Does act before.world told world told_after → IfOk result (λ (text : List ℕ). text ≡ flat_map telling_line told_after)
    → IfOk result (λ (text : List ℕ). (p : Playing) → StandsFor before p → PlaysSo p said text (record { world = world; changes = before.changes }))
played said act before world told told_after (Ok text) is none does text_is = λ p stands.
    let done = does p.world stands.world in
    record {
      made = told_in p.changes (act p.world);
      is = is p;
      stands = record { world = done.0; changes = stands.changes };
      text_is = text_is ∙ ap (λ (ts : List Telling). flat_map telling_line ts) (done.1 ∙ ap (λ (ts : List Telling). ts ++ (act p.world).1) none);
    }
played said act before world told told_after (Err memory) is none does text_is = tt

-- A change was entered, and what was reported of it is printed of its line.
entered_text : (said : Line) (stamp : List ℕ) (change : Edit) (before after : PlayingView) (text : List ℕ) → Acts (enters change) before.world after.world text → IsStampAt (before.changes + 1) (Ok stamp)
    → Changes said stamp change → ((p : Playing) → Enters p said (told_in (p.changes + 1) (enters change p.world)) → IsPlayed p said (told_in (p.changes + 1) (enters change p.world)))
    → after.changes ≡ before.changes + 1 → (p : Playing) → StandsFor before p → PlaysSo p said text after
entered_text said stamp change before after text acts stamped changes is counted p stands =
    let done = acts p.world stands.world in
    record {
      made = told_in (p.changes + 1) (enters change p.world);
      is = is p (
        enters change p.world,
        record { stamp = stamp; stamped = subst (λ (k : ℕ). IsStampAt (k + 1) (Ok stamp)) stands.changes stamped; change = change; changes = changes; does = refl },
        refl,
      );
      stands = record { world = done.0; changes = counted ∙ ap (λ (k : ℕ). k + 1) stands.changes };
      text_is = done.1;
    }

pub entered : (said : Line) (stamp : List ℕ) (change : Edit) (before after : PlayingView) (mid : WorldView) (result : Result (List ℕ) Memory)
    → IfOk result (λ (text : List ℕ). Acts (enters change) mid after.world text) → mid ≡ before.world → IsStampAt (before.changes + 1) (Ok stamp)
    → Changes said stamp change → ((p : Playing) → Enters p said (told_in (p.changes + 1) (enters change p.world)) → IsPlayed p said (told_in (p.changes + 1) (enters change p.world)))
    → after.changes ≡ before.changes + 1 → IfOk result (λ (text : List ℕ). (p : Playing) → StandsFor before p → PlaysSo p said text after)
entered said stamp change before after mid (Ok text) acts same stamped changes is counted =
    entered_text said stamp change before after text (subst (λ (w : WorldView). Acts (enters change) w after.world text) same acts) stamped changes is counted
entered said stamp change before after mid (Err memory) acts same stamped changes is counted = tt

module _ (stamp : List ℕ) (before after : PlayingView) (mid : WorldView) (result : Result (List ℕ) Memory) (same : mid ≡ before.world) (stamped : IsStampAt (before.changes + 1) (Ok stamp))
    (counted : after.changes ≡ before.changes + 1) where
  pub created : (content : Content) (moment : Bor (List ℕ)) (given : Bor Content) → IfOk result (λ (text : List ℕ). Acts (enters (edit.Create moment given)) mid after.world text)
      → moment.now ≡ stamp → given.now ≡ content → IfOk result (λ (text : List ℕ). (p : Playing) → StandsFor before p → PlaysSo p (line.Create content) text after)
  created content moment given acts one two = entered (line.Create content) stamp (edit.Create moment given) before after mid result acts same stamped (one, two) (λ p is. is) counted

  pub altered : (id : ℕ) (content : Content) (moment : Bor (List ℕ)) (given : Bor Content) → IfOk result (λ (text : List ℕ). Acts (enters (edit.Alter moment id given)) mid after.world text)
      → moment.now ≡ stamp → given.now ≡ content → IfOk result (λ (text : List ℕ). (p : Playing) → StandsFor before p → PlaysSo p (line.Alter id content) text after)
  altered id content moment given acts one two = entered (line.Alter id content) stamp (edit.Alter moment id given) before after mid result acts same stamped (one, refl, two) (λ p is. is) counted

  pub deleted : (id : ℕ) (moment : Bor (List ℕ)) → IfOk result (λ (text : List ℕ). Acts (enters (edit.Delete moment id)) mid after.world text)
      → moment.now ≡ stamp → IfOk result (λ (text : List ℕ). (p : Playing) → StandsFor before p → PlaysSo p (line.Delete id) text after)
  deleted id moment acts one = entered (line.Delete id) stamp (edit.Delete moment id) before after mid result acts same stamped (one, refl) (λ p is. is) counted
