use Rattle.collector_core.specs.Desks.{Alters, alters_not}
use Rattle.book_lock.proofs.Clerking.{refused_so}
use Rattle.book_lock.proofs.clerk.ClerkDesk.alter.Goals as goal
use Rattle.book_lock.proofs.clerk.ClerkDesk.alter.Goals.{in-Ok, in-Err}

pub returns : goal.returns
returns g c =
    elim c.match-change.branch [
      | in-Ok w ↦ rw w.result-is (let e = w.in-Ok.ensures.edits in record {
        edits = record {
          some = rw (← c.self.view_is) e.some;
          others = e.others;
          theirs = e.theirs;
          done = rw (← c.self.view_is) (e.done.0, e.done.1, λ chronicle stands. let h = e.done.2 chronicle stands in (h.0, h.1.0));
        };
      })
      | in-Err w ↦ rw w.result-is (record { edits = rw (← c.self.view_is) (refused_so _ (Alters c.args.stamp.now c.args.id c.args.content.now) (alters_not c.args.id c.args.content.now) _ _ w.in-Err.error w.in-Err.ensures.edits) })
    ]
