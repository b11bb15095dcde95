use Rattle.std.proofs.Common.{◌≡◌, None, subst}
use Rattle.swima_model.specs.Live.{record_of}
use Rattle.collector_core.specs.Standing.{BookView, StandsForSome}
use Rattle.collector_core.proofs.Changing.{fresh}
use Rattle.collector_core.proofs.book.Book.is_sound.Goals as goal

pub returns-clause-some : goal.returns-clause-some
returns-clause-some c = subst StandsForSome c.self.view_is c.self.invariant.1

pub returns-clause-fresh : goal.returns-clause-fresh
returns-clause-fresh c = subst (λ (book : BookView). record_of book.next book.records ≡ None) c.self.view_is (fresh _ _ _ c.self.invariant.0)
