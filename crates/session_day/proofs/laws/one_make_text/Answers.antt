use Rattle.session_day.proofs.OneText.{one_make_text}
use Rattle.session_day.proofs.laws.one_make_text.Goals as goal

pub returns : goal.returns
returns c = record { law = one_make_text }
