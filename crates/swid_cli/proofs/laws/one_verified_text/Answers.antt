use Rattle.swid_cli.proofs.OneText.{one_verified_text}
use Rattle.swid_cli.proofs.laws.one_verified_text.Goals as goal

pub returns : goal.returns
returns c = record { law = one_verified_text }
