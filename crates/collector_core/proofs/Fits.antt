-- An answer is a report that fits, or the size of one that does not.
use Rattle.std.proofs.Common.{◌≡◌, ℕ, ◌||◌, Bool, true, false, leb, eqb, ltb, cond, refl}
use Rattle.std.proofs.lemmas.Bool.{leb-true, leb-false}
use Rattle.swima_model.specs.declared.report.Report.{Report}
use Rattle.swima_model.specs.Size.{report_size}
use Rattle.collector_core.specs.declared.answer.Answer.TheVariants as answer
use Rattle.collector_core.specs.Answering.{if_fits, inventory_at, told_at}
use Rattle.collector_core.specs.Chronicle.{first_kept}
use Rattle.collector_core.specs.Meaning.{AnswersAreReportsOrSizes, IsReportOrSize}

fits_or_not : (most : ℕ) (one : Report) → IsReportOrSize most (if_fits most one)
fits_or_not most one = by_test (leb (report_size one) most) refl
  where
    by_test : (test : Bool) → leb (report_size one) most ≡ test
        → IsReportOrSize most (cond test (answer.Report one) (answer.TooLarge (report_size one) most))
    by_test true is = leb-true (report_size one) most is
    by_test false is = (leb-false (report_size one) most is, refl)

pub answers_are_reports_or_sizes : AnswersAreReportsOrSizes
answers_are_reports_or_sizes chronicle request most = by_test (eqb request.earliest 0 || ltb request.earliest (first_kept chronicle))
  where
    by_test : (test : Bool) → IsReportOrSize most (cond test (if_fits most (inventory_at chronicle request)) (if_fits most (told_at chronicle request most)))
    by_test true = fits_or_not most (inventory_at chronicle request)
    by_test false = fits_or_not most (told_at chronicle request most)
