-- What the definitions of chronicles mean.
use Rattle.std.specs.Prelude.{◌≡◌, ◌≢◌, ◌<◌, ◌≤◌, ◌↔◌, ℕ, true, Some, Ok, List, [], ◌∷◌, ◌++◌, All, AllPairs, length, drop}
use Rattle.swima_model.specs.declared.event.Event.{Event as EventValue}
use Rattle.swima_model.specs.declared.report.Point.{Point}
use Rattle.swima_model.specs.declared.report.Report.{Report}
use Rattle.swima_model.specs.History.{Epoch, History, IsHonest, Answers}
use Rattle.swima_model.specs.Reports.{ConsultsWithin, HasStamps}
use Rattle.swima_model.specs.Size.{MOST_RECORDS, report_count, report_size}
use Rattle.swima_request.specs.declared.request.Request.{Request}
use Rattle.collector_core.specs.declared.chronicle.Entry.{Entry}
use Rattle.collector_core.specs.declared.chronicle.Mark.{Mark}
use Rattle.collector_core.specs.declared.answer.Answer.{Answer}
use Rattle.collector_core.specs.declared.answer.Answer.TheVariants as answer
use Rattle.collector_core.specs.declared.book.edit.Changed.{Changed}
use Rattle.collector_core.specs.declared.book.edit.Edit.{Edit}
use Rattle.collector_core.specs.BookDesk.{book_state}
use Rattle.collector_core.specs.Chronicle.{Chronicle, current, extended, front, history, last_eid}
use Rattle.collector_core.specs.Desks.{AreOthers, AreOwn, State, entries, owned, state_of}
use Rattle.collector_core.specs.Edits.{Makes, book_entry, edit_refusal, entry_of}
use Rattle.collector_core.specs.Legal.{IsLegal}
use Rattle.collector_core.specs.Standing.{BookView, Enters, Stands}
use Rattle.collector_core.specs.Answering.{answer_at, events_report, moved_at, told}

-- The histories of chronicles, one after another.
abbrev pub histories : List Chronicle → History
histories [] = []
histories (chronicle ∷ later) = history chronicle ++ histories later

-- The histories of legal chronicles one after another are honest where no number of an epoch is
-- used twice.
abbrev pub ChroniclesJoin : Type 0
ChroniclesJoin = (chronicles : List Chronicle) → All IsLegal chronicles
    → AllPairs (λ (one other : Epoch). one.number ≢ other.number) (histories chronicles) → IsHonest (histories chronicles)

-- An answer to a request without targets, if it is a report, answers from the history.
abbrev pub AnswersAreOfTheHistory : Type 0
AnswersAreOfTheHistory = (chronicle : Chronicle) (request : Request) (most : ℕ) (report : Report) → IsLegal chronicle
    → request.targets ≡ [] → answer_at chronicle request most ≡ answer.Report report → Answers (history chronicle) report

-- What was legal was so at each earlier time.
abbrev pub FrontsAreLegal : Type 0
FrontsAreLegal = (chronicle : Chronicle) (count : ℕ) → IsLegal chronicle → IsLegal (front chronicle count)

-- ---- prefixes

-- A prefix of a chronicle stays the same when further entries are appended.
abbrev pub PrefixesStay : Type 0
PrefixesStay = (chronicle : Chronicle) (further : List Entry) (count : ℕ) → count ≤ length chronicle.entries
    → front (extended chronicle further) count ≡ front chronicle count

-- A prefix with the entries after it is the whole chronicle.
abbrev pub PrefixesExtend : Type 0
PrefixesExtend = (chronicle : Chronicle) (count : ℕ) → extended (front chronicle count) (drop count chronicle.entries) ≡ chronicle

-- ---- what answers say

-- An answer is a report of at most this many octets, or the size of one that has more. It is never
-- that memory ran out.
abbrev pub IsReportOrSize : ℕ → Answer → Type 0
IsReportOrSize most (answer.Report report) = report_size report ≤ most
IsReportOrSize most (answer.TooLarge size limit) = (most < size) × (limit ≡ most)
IsReportOrSize most answer.Memory = ⊥

abbrev pub AnswersAreReportsOrSizes : Type 0
AnswersAreReportsOrSizes = (chronicle : Chronicle) (request : Request) (most : ℕ) → IsReportOrSize most (answer_at chronicle request most)

-- The report has at most that many octets, and no more than 65,536 records or events; and it may be
-- written.
pub record CanBeTold (most : ℕ) (report : Report) : Type 0 where
  pub size : report_size report ≤ most
  pub count : report_count report ≤ MOST_RECORDS
  pub stamps : HasStamps report
  pub consulted : ConsultsWithin report

-- At a legal chronicle, each report that is an answer can be reported: it meets `CanBeTold`.
abbrev pub AnswersCanBeTold : Type 0
AnswersCanBeTold = (chronicle : Chronicle) (request : Request) (most : ℕ) (report : Report) → IsLegal chronicle
    → answer_at chronicle request most ≡ answer.Report report → CanBeTold most report

-- ---- the longest prefix of events

-- Of the events a prefix is reported that fits, or the first alone, or none where there is none;
-- and no longer prefix fits (section 3.7.5).
pub record TellsLongest (request : Request) (point : Point) (events : List EventValue) (most : ℕ) : Type 0 where
  pub count : ℕ
  pub within : count ≤ length events
  pub some : 0 < length events → 0 < count
  pub is : told request point events most ≡ events_report request point events count
  pub fits : 1 < count → report_size (events_report request point events count) ≤ most
  pub longer : (more : ℕ) → count < more → more ≤ length events → most < report_size (events_report request point events more)

abbrev pub LongestFrontIsTold : Type 0
LongestFrontIsTold = (request : Request) (point : Point) (events : List EventValue) (most : ℕ) → TellsLongest request point events most

-- ---- points of one epoch

-- Where something has moved since a point of the current epoch, the point is below the last event
-- identifier.
abbrev pub MovedIsLater : Type 0
MovedIsLater = (chronicle : Chronicle) (after : Point) (targets : List (List ℕ)) → IsLegal chronicle
    → after.epoch ≡ (current chronicle).number → moved_at chronicle after targets ≡ true → after.eid < last_eid chronicle

-- While an epoch lasts, its last event identifier does not fall.
abbrev pub LastRises : Type 0
LastRises = (chronicle : Chronicle) (further : List Entry) → IsLegal (extended chronicle further)
    → (current (extended chronicle further)).number ≡ (current chronicle).number
    → last_eid chronicle ≤ last_eid (extended chronicle further)

-- ---- growth

-- A report that answered from a chronicle's history still does so after further entries.
abbrev pub AnswersStay : Type 0
AnswersStay = (chronicle : Chronicle) (further : List Entry) (report : Report) → IsLegal (extended chronicle further)
    → Answers (history chronicle) report → Answers (history (extended chronicle further)) report

-- ---- changes as values

-- An entry is the one that a change makes exactly where it is the one that the function gives.
abbrev pub EntryOfIsMade : Type 0
EntryOfIsMade = (edit : Edit) (state : State) (made : Entry) → Makes edit state made ↔ (entry_of edit state ≡ Some made)

-- The entry that a change makes of what a book holds is the one that the book before it gives.
abbrev pub BookEntryIsMade : Type 0
BookEntryIsMade = (edit : Edit) (book : BookView) (made : Entry) → Makes edit (book_state book) made → made ≡ book_entry edit book

-- So it is at each chronicle that the book before the change represented. The book after it
-- represents that chronicle with this entry appended.
abbrev pub BookEntryIsEntered : Type 0
BookEntryIsEntered = (edit : Edit) (old new : BookView) (changed : Changed) (chronicle : Chronicle) → Stands old chronicle
    → Enters (Makes edit (state_of chronicle)) (edit_refusal edit (state_of chronicle)) chronicle (Ok changed) new
    → Makes edit (state_of chronicle) (book_entry edit old) × Stands new (extended chronicle (book_entry edit old ∷ []))

-- ---- entries that came

-- What is one's own of two stretches is that of the first, followed by that of the second.
abbrev pub OwnedJoins : Type 0
OwnedJoins = (marks further : List Mark) → owned (marks ++ further) ≡ owned marks ++ owned further

-- Of others' entries nothing is one's own, and of one's own entries each is.
abbrev pub OwnedIsOwn : Type 0
OwnedIsOwn = (marks : List Mark) → (AreOthers marks → owned marks ≡ []) × (AreOwn marks → owned marks ≡ entries marks)
