use Rattle.std.proofs.Common.{◌∙◌}
use Rattle.session_world.proofs.Following.{told_all}
use Rattle.session_world.proofs.joined.Joined.tell_taken.Goals as goal

pub returns : goal.returns
returns c = record {
  told = told_all c.loop-one.told c.args.told.now c.loop-one.one-index c.min.result c.args.before c.split_at.result.1.now c.as_slice-reports.result.now c.args.self.now.follow.end.standing.notes.reports
      c.loop-one.invariant c.loop-one-test.false c.split_at.ensures.back c.min.ensures (c.as_slice-reports.ensures.items ∙ c.reports.ensures.reports);
}
