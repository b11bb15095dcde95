-- One text fits each number of packages, change by change.
use Rattle.std.proofs.Common.{◌≡◌, ℕ, zero, suc, ◌+◌, ◌++◌, sym, ap, ap₂, subst, ◌∙◌}
use Rattle.session_world.specs.Lines.{Told}
use Rattle.session_world.specs.World.{World, carried_up}
use Rattle.session_script.proofs.OneText.{change_one}
use Rattle.session_day.specs.Day.{AreChanged, day_change, first_session, last_sessions, summary}
use Rattle.session_day.specs.OneText.{OneMakeText}

-- The changes do one thing to a world.
changes_one : (count left number : ℕ) (w : World) (told also : Told) → AreChanged count left number w told → AreChanged count left number w also → told ≡ also
unfolding AreChanged
changes_one count zero number w told also this that = this ∙ sym that
changes_one count (suc more) number w told also (one, is, (others, are, told_is)) (other, was, (rest, were, also_is)) =
    let same : one ≡ other = change_one (day_change count number) number w one other is was in
    let ends : others ≡ rest = changes_one count more (number + 1) other.0 others rest (subst (λ (t : Told). AreChanged count more (number + 1) t.0 others) same are) were in
    told_is ∙ ap₂ (λ (t u : Told). (u.0, t.1 ++ u.1)) same ends ∙ sym also_is

pub one_make_text : OneMakeText
one_make_text count text other this that =
    let same : this.changed ≡ that.changed = changes_one count 40 1 (first_session count).0 this.changed that.changed this.are that.are in
    this.text
    ∙ ap (λ (t : Told). summary count ((first_session count).1 ++ (t.1 ++ (last_sessions t.0).1)) (carried_up (first_session count).0) (last_sessions t.0).0.mirror) same
    ∙ sym that.text
