-- By the laws of the tag's map.
use Rattle.coswid_codec.proofs.Whole.{read_is_written}
use Rattle.coswid_codec.proofs.laws.read_is_written.Goals as goal

pub returns : goal.returns
returns c = record { again = read_is_written }
