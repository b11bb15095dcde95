-- While an inventory is due, each request is for it.
use Rattle.std.proofs.Common.{◌≡◌, ℕ, Bool, true, List, [], ◌∷◌, ◌++◌, inl, inr, refl, sym, ap, ◌∙◌}
use Rattle.swima_model.specs.declared.report.Report.{Report}
use Rattle.swima_model.specs.Size.{report_count}
use Rattle.validator_core.specs.Held.{Held}
use Rattle.validator_core.specs.Judge.{judge}
use Rattle.validator_core.specs.Recovery.{mark_after}
use Rattle.validator_core.specs.Want.{want_at}
use Rattle.validator_core.proofs.Recovering.{judged_mark, mark_is_set, mark_stays}
use Rattle.session_rules.specs.declared.config.FollowConfig.{FollowConfig}
use Rattle.swima_model.specs.Reports.{point_in}
use Rattle.session_rules.specs.Following.{Notes, TakenReport, nothing_noted}
use Rattle.session_rules.specs.FollowRules as following
use Rattle.session_rules.specs.Recovery.{AsksWhileDue, IsDue, MarkedWhileDue, NoneAdopted, RecoversInSessions, SetSince}
use Rattle.session_rules.specs.Taking.{with_answer, with_mirror}
use Rattle.session_rules.specs.Wanted.{AsksOf}
use Rattle.session_rules.proofs.Meaning.{marked_is_full}
use Rattle.session_rules.proofs.Wanted.{AsksAnd, StandsAnd, session_writes, writes_weaker}

-- ---- the mark after all answers that are noted

abbrev mark_by : Bool → List TakenReport → Bool
mark_by off [] = off
mark_by off (report ∷ later) = mark_by (mark_after off report.answer) later

mark_by_then : (off : Bool) (reports later : List TakenReport) → mark_by off (reports ++ later) ≡ mark_by (mark_by off reports) later
mark_by_then off [] later = refl
mark_by_then off (report ∷ reports) later = mark_by_then (mark_after off report.answer) reports later

stays_marked : (reports : List TakenReport) → NoneAdopted reports → mark_by true reports ≡ true
stays_marked [] none = refl
stays_marked (report ∷ later) none = ap (λ (b : Bool). mark_by b later) (mark_stays report.answer none.0) ∙ stays_marked later none.1

is_marked : (off : Bool) (reports : List TakenReport) → SetSince reports → mark_by off reports ≡ true
is_marked off reports set =
    ap (mark_by off) set.are ∙ mark_by_then off set.earlier (set.report ∷ set.later)
    ∙ ap (λ (b : Bool). mark_by b set.later) (mark_is_set (mark_by off set.earlier) set.report.answer set.sets) ∙ stays_marked set.later set.none

module _ (mirror : Held) where
  -- The mirror has the mark that the answers give.
  abbrev Noted : Notes → Type 0
  Noted notes = mark_by mirror.off notes.taken_reports ≡ notes.mirror.off

  answered_noted : (notes : Notes) (report : Report) → Noted notes → Noted (with_answer (with_mirror notes report (judge notes.mirror report).1) report (judge notes.mirror report).0)
  answered_noted notes report here =
      mark_by_then mirror.off notes.taken_reports (record { point = point_in report; count = report_count report; answer = (judge notes.mirror report).0 } ∷ [])
      ∙ ap (λ (b : Bool). mark_after b (judge notes.mirror report).0) here ∙ sym (judged_mark notes.mirror report)

  due_off : (notes : Notes) → Noted notes → IsDue mirror notes → notes.mirror.off ≡ true
  due_off notes here (inl set) = sym here ∙ is_marked mirror.off notes.taken_reports set
  due_off notes here (inr (off, none)) = sym here ∙ ap (λ (b : Bool). mark_by b notes.taken_reports) off ∙ stays_marked notes.taken_reports none

  asks_for_all : (c : FollowConfig) (notes : Notes) (octets : List ℕ) → Noted notes → AsksOf c notes octets → AsksWhileDue c mirror notes octets
  asks_for_all c notes octets here (inl asked) due =
      inl (asked, asked.wants ∙ ap (λ (b : Bool). following.earliest_of (want_at notes.mirror.point b)) (due_off notes here due) ∙ marked_is_full notes.mirror.point)
  asks_for_all c notes octets here (inr not_asked) due = inr not_asked

pub recovers_in_sessions : RecoversInSessions
recovers_in_sessions c mirror turns =
    writes_weaker (AsksAnd c (Noted mirror)) (AsksWhileDue c mirror) (StandsAnd (Noted mirror)) (MarkedWhileDue mirror) (λ notes octets so. asks_for_all mirror c notes octets so.1 so.0)
    (λ notes stand so due. sym (ap (λ (held : Held). held.off) so.0.0) ∙ due_off mirror notes so.1 due) (nothing_noted mirror) (following.session c mirror turns)
    (session_writes c (Noted mirror) (answered_noted mirror) (λ notes codes here. here) mirror turns refl)
