-- What a book answers, in terms of what it holds. At each chronicle that it stands for, this is the
-- answer.
use Rattle.std.specs.Prelude.{◌==◌, ◌||◌, ◌+◌, ℕ, Bool, false, List, not, nat_lt, if◌then◌else◌}
use Rattle.std.specs.List.{list_any}
use Rattle.swima_model.specs.declared.record.Record.{Record}
use Rattle.swima_model.specs.declared.report.Point.{Point}
use Rattle.swima_model.specs.declared.report.Report.{Report}
use Rattle.swima_model.specs.declared.report.Report.TheVariants.{Inventory}
use Rattle.swima_model.specs.Kinds.{records_of_kind}
use Rattle.swima_request.specs.declared.request.Request.{Request}
use Rattle.event_log.specs.Log.{events_from}
use Rattle.collector_core.specs.declared.answer.Answer.{Answer}
use Rattle.collector_core.specs.Answering.{if_fits, is_later, told, wanted_events, wanted_records}
use Rattle.collector_core.specs.Standing.{BookView}

-- The point of the book.
abbrev pub book_point : BookView → Point
book_point book = record { epoch = book.epoch; eid = book.log.last }

-- The report of these records.
abbrev pub inventory_of : Request → Point → List Record → Report
inventory_of request point records = Inventory request.kind false request.id point (records_of_kind request.kind records)

-- The answer.
abbrev pub book_answer : BookView → Request → ℕ → Answer
book_answer book request most =
    if request.earliest == 0 || nat_lt request.earliest book.log.first
    then if_fits most (inventory_of request (book_point book) (wanted_records request.targets book.records))
    else if_fits most (told request (book_point book) (wanted_events request.targets (events_from request.earliest book.log.events)) most)

-- Whether something has changed since a point.
abbrev pub book_moved : BookView → Point → List (List ℕ) → Bool
book_moved book after targets =
    not (after.epoch == book.epoch) || nat_lt (after.eid + 1) book.log.first || list_any (is_later after.eid targets) book.log.events
