use Rattle.swid_cli.proofs.Streaming.{stream_goes_on}
use Rattle.swid_cli.proofs.laws.stream_goes_on.Goals as goal

pub returns : goal.returns
returns c = record { law = stream_goes_on }
