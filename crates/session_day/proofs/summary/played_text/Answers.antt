-- The summary of the day that was played.
use Rattle.session_day.proofs.Daily.{summarized}
use Rattle.session_day.proofs.summary.played_text.Goals as goal

pub returns : goal.returns
returns c = record { told = summarized c.args.count c.play.new.self c.summary.result c.in_ok-play.ensures.day c.summary.ensures.summary }
