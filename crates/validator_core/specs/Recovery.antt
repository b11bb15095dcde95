-- The mark of a mirror, from a report that does not fit to the next inventory that is adopted. In
-- between the mirror wants an inventory (RFC 8412, section 3.7.6, of gaps and of other epochs). The
-- mark, and the other answers that set it, are our own.
use Rattle.std.specs.Prelude.{◌≡◌, ◌≢◌, Bool, true, false, List, [], ◌∷◌}
use Rattle.std.specs.List.{AllByRecursion}
use Rattle.swima_model.specs.declared.report.Report.{Report}
use Rattle.validator_core.specs.declared.mirror.Taken.{Taken}
use Rattle.validator_core.specs.declared.mirror.Taken.TheVariants as taken
use Rattle.validator_core.specs.declared.mirror.want.Want.TheVariants as wanted
use Rattle.validator_core.specs.Held.{Held}
use Rattle.validator_core.specs.Judge.{Judged, judge}
use Rattle.validator_core.specs.Want.{want}

-- The mark after an answer. Five answers set it, `Adopted` clears it, and every other leaves it as
-- it was.
abbrev pub mark_after : Bool → Taken → Bool
mark_after off (taken.Gap have got) = true
mark_after off (taken.OtherEpoch have got) = true
mark_after off (taken.Contradiction eid) = true
mark_after off (taken.Doubled id) = true
mark_after off (taken.Large count octets) = true
mark_after off taken.Adopted = false
mark_after off answer = off

-- The answer sets the mark: it is set afterwards, even where it was not before.
abbrev pub SetsMark : Taken → Type 0
SetsMark answer = mark_after false answer ≡ true

-- None of the answers is `Adopted`.
abbrev pub NoneAdopted : List Taken → Type 0
NoneAdopted answers = AllByRecursion (λ (answer : Taken). answer ≢ taken.Adopted) answers

-- A mirror took reports one after another, with these answers, and came to this.
abbrev pub TakesAll : Held → List Taken → Held → Type 0
TakesAll before [] after = after ≡ before
TakesAll before (answer ∷ later) after =
    (report : Report) × (next : Held) × Judged before (judge before report) answer next × TakesAll next later after

-- What the mark is after a report; and that a mirror wants an inventory after an answer that set
-- the mark, whatever it takes then, until it adopts one.
pub record MarkStaysUntilAdopted : Type 0 where
  pub mark : (before : Held) (report : Report) (answer : Taken) (after : Held) → Judged before (judge before report) answer after → after.off ≡ mark_after before.off answer
  pub wants : (before : Held) (answer : Taken) (later : List Taken) (after : Held) → TakesAll before (answer ∷ later) after → SetsMark answer → NoneAdopted later → want after ≡ wanted.Full
