use Rattle.swid_cli.proofs.OneText.{one_tag_text}
use Rattle.swid_cli.proofs.laws.one_tag_text.Goals as goal

pub returns : goal.returns
returns c = record { law = one_tag_text }
