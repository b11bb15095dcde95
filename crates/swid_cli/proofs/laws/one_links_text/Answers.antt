use Rattle.swid_cli.proofs.OneList.{one_links_text}
use Rattle.swid_cli.proofs.laws.one_links_text.Goals as goal

pub returns : goal.returns
returns c = record { law = one_links_text }
