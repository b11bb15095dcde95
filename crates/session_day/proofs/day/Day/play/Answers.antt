-- One part after another.
use Rattle.session_day.proofs.Daily.{played}
use Rattle.session_day.proofs.day.Day.play.Goals as goal

pub returns : goal.returns
returns c = record {
  day = played c.args.count c.args.self.now c.follow_first.new.self c.change_all.new.self c.end.new.self c.requires.morning c.in_ok-follow_first.ensures.first c.in_ok-change_all.ensures.changes c.in_ok-end.ensures.ends;
}
