use Rattle.swid_cli.proofs.OneText.{some_tag_text}
use Rattle.swid_cli.proofs.laws.some_tag_text.Goals as goal

pub returns : goal.returns
returns c = record { law = some_tag_text }
