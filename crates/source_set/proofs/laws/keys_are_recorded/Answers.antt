use Rattle.source_set.proofs.KeysRecorded.{keys_are_recorded}
use Rattle.source_set.proofs.laws.keys_are_recorded.Goals as goal

pub returns : goal.returns
returns c = record { law = keys_are_recorded }
