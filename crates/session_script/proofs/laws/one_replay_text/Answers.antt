use Rattle.session_script.proofs.OneText.{one_replay_text}
use Rattle.session_script.proofs.laws.one_replay_text.Goals as goal

pub returns : goal.returns
returns c = record { law = one_replay_text }
