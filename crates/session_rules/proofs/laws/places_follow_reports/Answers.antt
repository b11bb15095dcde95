use Rattle.session_rules.proofs.Placing.{places_follow_reports}
use Rattle.session_rules.proofs.laws.places_follow_reports.Goals as goal

pub returns : goal.returns
returns c = record { law = places_follow_reports }
