use Rattle.collector_core.proofs.Editing.{book_entry_is_made}
use Rattle.collector_core.proofs.laws.book_entry_is_made.Goals as goal

pub returns : goal.returns
returns c = record { law = book_entry_is_made }
