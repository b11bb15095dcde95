use Rattle.std.proofs.Common.{rules}
use Rattle.book_lock.proofs.Joining.{settles}
use Rattle.book_lock.proofs.steps.settle.Goals as goal

pub load-requires : goal.load-requires
load-requires c = (search rules, search rules, settles _ _ _ _ c.requires.idle c.requires.live)
