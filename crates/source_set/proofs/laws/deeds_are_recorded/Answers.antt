use Rattle.source_set.proofs.Recording.{deeds_are_recorded}
use Rattle.source_set.proofs.laws.deeds_are_recorded.Goals as goal

pub returns : goal.returns
returns c = record { law = deeds_are_recorded }
