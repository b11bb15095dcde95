-- By the laws of the tag's map.
use Rattle.coswid_codec.proofs.Whole.{written_is_read}
use Rattle.coswid_codec.proofs.laws.written_is_read.Goals as goal

pub returns : goal.returns
returns c = record { again = written_is_read }
