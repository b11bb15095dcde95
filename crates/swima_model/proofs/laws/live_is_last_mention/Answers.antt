use Rattle.swima_model.proofs.Living.{live_is_last_mention}
use Rattle.swima_model.proofs.laws.live_is_last_mention.Goals as goal

pub returns : goal.returns
returns c = record { law = live_is_last_mention }
