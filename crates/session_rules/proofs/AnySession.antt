-- A mirror stays right in every session.
use Rattle.std.proofs.Common.{◌≡◌, ℕ, ◌==◌, Bool, true, false, cond, not, nat_le, length, List, [], Option, Some, None, refl, sym, ap, subst, ◌∙◌}
use Rattle.swima_model.specs.declared.record.Record.{Record}
use Rattle.swima_model.specs.declared.event.Event.{Event}
use Rattle.swima_model.specs.declared.report.Kind.{Kind}
use Rattle.swima_model.specs.declared.report.Kind.TheVariants.{Ids, Full}
use Rattle.swima_model.specs.declared.report.Point.{Point}
use Rattle.swima_model.specs.declared.report.Report.{Report}
use Rattle.swima_model.specs.declared.report.Report.TheVariants.{Inventory, Events}
use Rattle.swima_model.specs.History.{History, IsHonest, Answers}
use Rattle.swima_model.specs.Doubled.{doubled}
use Rattle.swima_model.specs.InOrder.{ids, in_order}
use Rattle.swima_model.specs.Size.{are_large, records_octets}
use Rattle.validator_core.specs.declared.mirror.Taken.{Taken}
use Rattle.validator_core.specs.declared.mirror.Taken.TheVariants as taken
use Rattle.validator_core.specs.Held.{Held}
use Rattle.validator_core.specs.Judge.{judge, judge_records, judge_above, judge_numbered, judge_events_at, is_stale, marked, same_kind}
use Rattle.validator_core.specs.Following.{events_above, gap, first_misfit}
use Rattle.validator_core.specs.Right.{IsRight}
use Rattle.validator_core.proofs.Righting.{judged_right}
use Rattle.session_talk.specs.Keeping.{BreaksWith, Keeps}
use Rattle.session_talk.proofs.Keeping.{breaks_with, keeps_breaks, keeps_gives}
use Rattle.session_rules.specs.declared.config.FollowConfig.{FollowConfig}
use Rattle.session_rules.specs.Following.{Notes, Stand, nothing_noted}
use Rattle.session_rules.specs.FollowRules as following
use Rattle.session_rules.specs.Taking.{with_mirror, answers}
use Rattle.session_rules.specs.Transcripts.{nobody}
use Rattle.wire_base.specs.Turns.{Turn}
use Rattle.session_rules.proofs.Kept.{session_keeps}
use Rattle.session_rules.specs.AnySession.{kind_in, NotesAnswer, StaysRightInSessions, StaysRightInParts}

-- ---- a report

-- Either way the mirror has the kind.
kind_if : (test : Bool) (one other : Taken × Held) (kind : Kind) → one.1.kind ≡ kind → other.1.kind ≡ kind → (cond test one other).1.kind ≡ kind
kind_if true one other kind first second = first
kind_if false one other kind first second = second

records_kind : (mirror : Held) (point : Point) (records : List Record) (twice : Option ℕ) → (judge_records mirror point records twice).1.kind ≡ mirror.kind
records_kind mirror point records (Some id) = refl
records_kind mirror point records None = kind_if (are_large records) (taken.Large (length records) (records_octets records), marked mirror) (taken.Adopted, record mirror { point = Some point; records = in_order records; off = false }) mirror.kind refl refl

above_kind : (mirror : Held) (held : Point) (consulted : ℕ) (above : List Event) (misfit : Option Taken) → (judge_above mirror held consulted above misfit).1.kind ≡ mirror.kind
above_kind mirror held consulted above (Some misfit) = refl
above_kind mirror held consulted above None = refl

numbered_kind : (mirror : Held) (held : Point) (consulted : ℕ) (events : List Event) (got : Option ℕ) → (judge_numbered mirror held consulted events got).1.kind ≡ mirror.kind
numbered_kind mirror held consulted events (Some got) = refl
numbered_kind mirror held consulted events None = above_kind mirror held consulted (events_above held.eid events) (first_misfit mirror.records (events_above held.eid events))

events_at_kind : (mirror : Held) (epoch consulted : ℕ) (events : List Event) (point : Option Point) → (judge_events_at mirror epoch consulted events point).1.kind ≡ mirror.kind
events_at_kind mirror epoch consulted events None = refl
events_at_kind mirror epoch consulted events (Some held) =
    kind_if (not (epoch == held.epoch)) (taken.OtherEpoch (Some held.epoch) epoch, marked mirror)
    (cond (nat_le consulted held.eid) (taken.Stale, mirror) (judge_numbered mirror held consulted events (gap held.eid consulted events))) mirror.kind refl
    (kind_if (nat_le consulted held.eid) (taken.Stale, mirror) (judge_numbered mirror held consulted events (gap held.eid consulted events)) mirror.kind refl (numbered_kind mirror held consulted events (gap held.eid consulted events)))

-- A mirror keeps its kind.
judge_kind : (mirror : Held) (report : Report) → (judge mirror report).1.kind ≡ mirror.kind
judge_kind mirror (Inventory kind fulfil id point records) =
    kind_if (not (same_kind kind mirror.kind)) (taken.WrongKind, mirror) (cond (is_stale mirror.point mirror.off point) (taken.Stale, mirror) (judge_records mirror point records (doubled (ids records)))) mirror.kind refl
    (kind_if (is_stale mirror.point mirror.off point) (taken.Stale, mirror) (judge_records mirror point records (doubled (ids records))) mirror.kind refl (records_kind mirror point records (doubled (ids records))))
judge_kind mirror (Events kind fulfil id point consulted events) =
    kind_if (not (same_kind kind mirror.kind)) (taken.WrongKind, mirror) (judge_events_at mirror point.epoch consulted events mirror.point) mirror.kind refl (events_at_kind mirror point.epoch consulted events mirror.point)

-- Two kinds are one, or not.
same_kind_is : (one other : Kind) → same_kind one other ≡ true → one ≡ other
same_kind_is Ids Ids same = refl
same_kind_is Ids Full same = absurd cc
same_kind_is Full Ids same = absurd cc
same_kind_is Full Full same = refl

-- A report of another kind is not taken.
wrong_kind : (mirror : Held) (report : Report) → same_kind (kind_in report) mirror.kind ≡ false → (judge mirror report).1 ≡ mirror
wrong_kind mirror (Inventory kind fulfil id point records) other =
    ap (λ (b : Bool). (cond (not b) (taken.WrongKind, mirror) (cond (is_stale mirror.point mirror.off point) (taken.Stale, mirror) (judge_records mirror point records (doubled (ids records))))).1) other
wrong_kind mirror (Events kind fulfil id point consulted events) other =
    ap (λ (b : Bool). (cond (not b) (taken.WrongKind, mirror) (judge_events_at mirror point.epoch consulted events mirror.point)).1) other

module _ (history : History) (kind : Kind) (honest : IsHonest history) where
  -- The mirror is right, and of the kind.
  abbrev Right : Notes → Type 0
  Right notes = IsRight history notes.mirror × (notes.mirror.kind ≡ kind)

  judged_by : (mirror : Held) (report : Report) (same : Bool) → same_kind (kind_in report) mirror.kind ≡ same → IsRight history mirror → (kind_in report ≡ mirror.kind → Answers history report) → IsRight history (judge mirror report).1
  judged_by mirror report true is right answers = (judged_right history mirror report honest right (answers (same_kind_is (kind_in report) mirror.kind is))).0
  judged_by mirror report false is right answers = subst (IsRight history) (sym (wrong_kind mirror report is)) right

  takes_right : (notes : Notes) (report : Report) → Right notes → NotesAnswer history kind (with_mirror notes report (judge notes.mirror report).1) → Right (with_mirror notes report (judge notes.mirror report).1)
  takes_right notes report right so = (
    judged_by notes.mirror report (same_kind (kind_in report) notes.mirror.kind) refl right.0 (λ of. so (of ∙ right.1)),
    judge_kind notes.mirror report ∙ right.1,
  )

  keeps_right : (c : FollowConfig) (mirror : Held) (turns : List Turn) → Right (nothing_noted mirror) → Keeps (NotesAnswer history kind) Right (λ (s : Stand). Right s.notes) (following.session c mirror turns)
  keeps_right c mirror turns right = session_keeps (NotesAnswer history kind) Right takes_right (λ notes report answer here. here) (λ notes codes here. here) c mirror turns right

pub stays_right_in_sessions : StaysRightInSessions
stays_right_in_sessions history mirror c turns octets stand honest right notes follows =
    (keeps_gives (NotesAnswer history mirror.kind) (Right history mirror.kind honest) (λ (s : Stand). Right history mirror.kind honest s.notes) nobody (following.session c mirror turns) [] octets stand
    (keeps_right history mirror.kind honest c mirror turns (right, refl)) notes follows).0

right_until : (history : History) (mirror : Held) (c : FollowConfig) (turns : List Turn) (octets : List ℕ) (notes : Notes) → IsHonest history → IsRight history mirror
    → BreaksWith nobody (NotesAnswer history mirror.kind) (nothing_noted mirror) (following.session c mirror turns) [] octets notes → IsRight history notes.mirror
right_until history mirror c turns octets notes honest right breaks =
    (keeps_breaks (NotesAnswer history mirror.kind) (Right history mirror.kind honest) (λ (s : Stand). Right history mirror.kind honest s.notes) nobody (nothing_noted mirror) (following.session c mirror turns) [] octets notes
    (right, refl) (keeps_right history mirror.kind honest c mirror turns (right, refl)) breaks).0

pub stays_right_in_parts : StaysRightInParts
stays_right_in_parts = record {
  until = right_until;
  whole = λ history mirror c turns octets notes honest right are breaks.
      right_until history mirror c turns octets notes honest right (breaks_with nobody (NotesAnswer history mirror.kind) (nothing_noted mirror) (following.session c mirror turns) [] octets notes are breaks);
}
