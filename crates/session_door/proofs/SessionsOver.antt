-- The sessions of a worker, over the one history.
use Rattle.std.proofs.Common.{◌≡◌, ◌+◌, ◌++◌, ◌∙◌, ℕ, zero, suc, List, [], ◌∷◌, Option, length, length-append, refl, sym, ap, subst, append_assoc, add-zero, add_assoc, arith}
use Rattle.wire_base.specs.Turns.{Turn}
use Rattle.collector_core.specs.declared.chronicle.Entry.{Entry}
use Rattle.collector_core.specs.declared.chronicle.Mark.{Mark}
use Rattle.collector_core.specs.BookDesk.{entries_append, extended_more}
use Rattle.collector_core.specs.Chronicle.{Chronicle, extended}
use Rattle.collector_core.specs.Desks.{AreOthers, Rise, Within, behind, entries}
use Rattle.book_lock.specs.Passes.{PassStands, PassView, PassWent}
use Rattle.book_lock.specs.PassDesk.{pass_went_on, pass_went_with, stays_pass}
use Rattle.session_rules.specs.declared.config.ServeConfig.{ServeConfig}
use Rattle.session_rules.specs.declared.end.SessionEnd.{SessionEnd}
use Rattle.session_rules.specs.declared.end.SessionEnd.TheVariants as end
use Rattle.session_rules.specs.declared.record.SessionRecord.{SessionRecord}
use Rattle.session_rules.proofs.Meaning.{later_entries_change_no_part, later_entries_change_nothing}
use Rattle.session_core.specs.Served.{Ended, ServedAt}
use Rattle.session_door.specs.Serving.{EachOver, ServedOn, ServedOver, Serves, SessionsOver}
use Rattle.session_door.specs.declared.work.Work.{Work}
use Rattle.session_door.specs.Visits.{DoorState, Visit, VisitsEach, Works}

-- ---- others

others_append : (xs ys : List Mark) → AreOthers xs → AreOthers ys → AreOthers (xs ++ ys)
others_append [] ys none others = others
others_append (x ∷ xs) ys some others = (some.0, others_append xs ys some.1 others)

-- ---- places

-- Places that rise are within what they rise to.
rise_within : (low high : ℕ) (places : List ℕ) → Rise low high places → Within high places
rise_within low high [] rise = tt
rise_within low high (place ∷ places) rise = (rise.1, rise_within place high places rise.2)

-- Places of questions among further entries, as places of the longer chronicle.
rise_behind : (chronicle : Chronicle) (low high : ℕ) (steps : List ℕ) → Rise low high steps → Rise (length chronicle.entries + low) (length chronicle.entries + high) (behind chronicle steps)
rise_behind chronicle low high [] rise = tt
rise_behind chronicle low high (step ∷ steps) rise = (
  omega (arith, rise.0),
  omega (arith, rise.1),
  rise_behind chronicle step high steps rise.2,
)

entries_length : (marks : List Mark) → length (entries marks) ≡ length marks
entries_length [] = refl
entries_length (mark ∷ marks) = ap suc (entries_length marks)

-- ---- further entries

-- Further entries change nothing of a session, however it ended.
module _ (chronicle : Chronicle) (further : List Entry) (c : ServeConfig) (turns : List Turn) (places octets : List ℕ) (kept : SessionRecord) (within : Within (length chronicle.entries) places) where
  ended_further : (by : SessionEnd) → Ended chronicle c turns places octets kept by → Ended (extended chronicle further) c turns places octets kept by
  ended_further by so = record { stand = so.stand; serves = later_entries_change_nothing chronicle further c turns places octets so.stand within so.serves; over = so.over; noted = so.noted }

  pub served_further : (by : SessionEnd) → ServedAt chronicle c turns places octets kept by → ServedAt (extended chronicle further) c turns places octets kept by
  served_further end.Memory so = record { rest = so.rest; notes = so.notes; serves = later_entries_change_no_part chronicle further c turns places (octets ++ so.rest) so.notes within so.serves; noted = so.noted }
  served_further end.LinkFault so = record { rest = so.rest; stand = so.stand; serves = later_entries_change_nothing chronicle further c turns places (octets ++ so.rest) so.stand within so.serves; noted = so.noted }
  served_further end.Closed so = ended_further end.Closed so
  served_further end.PeerClosed so = ended_further end.PeerClosed so
  served_further (end.PeerError vendor code) so = ended_further (end.PeerError vendor code) so
  served_further (end.Refused code offset) so = ended_further (end.Refused code offset) so
  served_further end.Ended so = ended_further end.Ended so
  served_further (end.Torn have) so = ended_further (end.Torn have) so
  served_further (end.IdleOut idle) so = ended_further (end.IdleOut idle) so
  served_further end.Enough so = ended_further end.Enough so

-- ---- one session after another

module _ {L : Type 0} (taken : L → Option (List Turn)) (given : L → Option (List ℕ)) (faults : L → ℕ) (c : ServeConfig) where
  -- The first session, over all entries.
  first_over : (before middle : PassView) (visit : Visit L) (served : ServedOn taken given c before middle visit.came visit.went visit.noted.0 visit.noted.1) (chronicle : Chronicle) (further : List Entry)
      → PassStands before chronicle → ServedOver taken given (extended (extended chronicle (entries served.others)) further) c (length chronicle.entries) (length chronicle.entries + length served.others) visit
  first_over before middle visit served chronicle further stands =
      let rises : Rise (length chronicle.entries + 0) (length chronicle.entries + length served.others) (behind chronicle served.steps) = rise_behind chronicle 0 (length served.others) served.steps served.rise in
      let grown : length (extended chronicle (entries served.others)).entries ≡ length chronicle.entries + length served.others = length-append chronicle.entries (entries served.others) ∙ ap (λ (n : ℕ). length chronicle.entries + n) (entries_length served.others) in record {
        forward = omega arith;
        places = behind chronicle served.steps;
        rise = subst (λ (n : ℕ). Rise n (length chronicle.entries + length served.others) (behind chronicle served.steps)) (add-zero (length chronicle.entries)) rises;
        turns = served.turns;
        octets = served.octets;
        took = served.took;
        gave = served.gave;
        served = served_further (extended chronicle (entries served.others)) further c served.turns (behind chronicle served.steps) served.octets visit.noted.0
            (subst (λ (n : ℕ). Within n (behind chronicle served.steps)) (sym grown) (rise_within (length chronicle.entries + 0) (length chronicle.entries + length served.others) (behind chronicle served.steps) rises))
            visit.noted.1 (served.serves chronicle stands);
      }

  pub sessions_over : (before after : PassView) (visits : List (Visit L)) → VisitsEach (ServedOn taken given c) faults before visits after → SessionsOver taken given c before after visits
  sessions_over before after [] same = record {
    others = [];
    theirs = tt;
    went = subst (PassWent before []) (sym same) (stays_pass before);
    each = λ chronicle further stands. omega arith;
  }
  sessions_over before after (visit ∷ visits) each =
      let first = each.1.session in
      let later = sessions_over each.0 after visits each.2 in record {
        others = first.others ++ later.others;
        theirs = others_append first.others later.others first.theirs later.theirs;
        went = pass_went_on before each.0 after first.others later.others first.grows later.went;
        each = λ chronicle further stands.
            let longer : Chronicle = extended chronicle (entries first.others) in
            let grown : length longer.entries ≡ length chronicle.entries + length first.others = length-append chronicle.entries (entries first.others) ∙ ap (λ (n : ℕ). length chronicle.entries + n) (entries_length first.others) in
            let whole : extended longer (entries later.others ++ further) ≡ extended chronicle (entries (first.others ++ later.others) ++ further) =
            extended_more chronicle (entries first.others) (entries later.others ++ further)
            ∙ ap (extended chronicle) (sym (append_assoc (entries first.others) (entries later.others) further) ∙ ap (λ (es : List Entry). es ++ further) (sym (entries_append first.others later.others))) in
            let end-is : length longer.entries + length later.others ≡ length chronicle.entries + length (first.others ++ later.others) =
            ap (λ (n : ℕ). n + length later.others) grown ∙ add_assoc (length chronicle.entries) (length first.others) (length later.others)
            ∙ ap (λ (n : ℕ). length chronicle.entries + n) (sym (length-append first.others later.others)) in (
              length chronicle.entries + length first.others,
              subst (λ (k : Chronicle). ServedOver taken given k c (length chronicle.entries) (length chronicle.entries + length first.others) visit) whole
                  (first_over before each.0 visit first chronicle (entries later.others ++ further) stands),
              subst (λ (k : Chronicle). EachOver taken given k c (length chronicle.entries + length first.others) (length chronicle.entries + length (first.others ++ later.others)) visits) whole
                  (subst (λ (n : ℕ). EachOver taken given (extended longer (entries later.others ++ further)) c n (length chronicle.entries + length (first.others ++ later.others)) visits) grown
                  (subst (λ (n : ℕ). EachOver taken given (extended longer (entries later.others ++ further)) c (length longer.entries) n visits) end-is
                  (later.each longer further (pass_went_with before each.0 first.others chronicle first.grows stands)))),
            );
      }

  -- So of a worker, from the pass to what its clerk has seen then.
  pub served_door : (sessions : ℕ) (before after : PassView) (door later : DoorState L) (work : Work) → Works (ServedOn taken given c) faults sessions before door after later work
      → Serves taken given faults c sessions before door after later work
  served_door sessions before after door later work works = record { works = works; over = sessions_over before after works.visits works.each }
