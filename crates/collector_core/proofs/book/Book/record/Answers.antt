use Rattle.std.proofs.Common.{◌∙◌, ap}
use Rattle.swima_model.specs.Live.{record_of}
use Rattle.collector_core.specs.Standing.{BookView}
use Rattle.collector_core.proofs.book.Book.record.Goals as goal

pub returns-clause-live : goal.returns-clause-live
returns-clause-live c = c.get.ensures.held ∙ ap (λ (book : BookView). record_of c.args.id book.records) c.self.view_is

pub returns-clause-stands : goal.returns-clause-stands
returns-clause-stands c chronicle stands = returns-clause-live c ∙ ap (record_of c.args.id) stands.records
