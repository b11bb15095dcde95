-- A refused change says the same whatever it would have answered.
use Rattle.std.proofs.Common.{Err, List, Option}
use Rattle.collector_core.specs.declared.chronicle.Entry.{Entry}
use Rattle.collector_core.specs.declared.chronicle.Mark.{Mark}
use Rattle.collector_core.specs.declared.error.BookError.{BookError}
use Rattle.collector_core.specs.declared.error.BookError.TheVariants as refused
use Rattle.collector_core.specs.Desks.{Does, Edits, State}
use Rattle.book_lock.specs.Passes.{PassStands, PassView, PassWent}

module _ {S T : Type 0} (says : S → State → Entry → Type 0) (says-so : T → State → Entry → Type 0) (refusal : State → Option BookError) (before after : PassView) where
  refused_alike : (error : BookError) (others : List Mark) → Does PassStands PassWent says refusal before others after (Err error)
      → Does PassStands PassWent says-so refusal before others after (Err error)
  refused_alike refused.Memory others done = done
  refused_alike (refused.EidsSpent n) others done = done
  refused_alike (refused.IdsSpent n) others done = done
  refused_alike (refused.UnknownRecord n) others done = done
  refused_alike (refused.RecordsFull n) others done = done
  refused_alike (refused.BytesFull n m) others done = done
  refused_alike (refused.EpochNotNew n m) others done = done
  refused_alike (refused.TrimPast n m) others done = done

  pub refused_so : (error : BookError) → Edits PassStands PassWent says refusal before after (Err error) → Edits PassStands PassWent says-so refusal before after (Err error)
  refused_so error e = record { some = e.some; others = e.others; theirs = e.theirs; done = refused_alike error e.others e.done }
