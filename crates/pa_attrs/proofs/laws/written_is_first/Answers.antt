use Rattle.pa_attrs.proofs.AttrLaws.{written_is_first}
use Rattle.pa_attrs.proofs.laws.written_is_first.Goals as goal

pub returns : goal.returns
returns c = record { law = written_is_first }
