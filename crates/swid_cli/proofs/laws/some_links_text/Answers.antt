use Rattle.swid_cli.proofs.OneList.{some_links_text}
use Rattle.swid_cli.proofs.laws.some_links_text.Goals as goal

pub returns : goal.returns
returns c = record { law = some_links_text }
