-- A map is read by its pairs.
use Rattle.coswid_res.proofs.MapRead.{map_read}
use Rattle.coswid_res.proofs.tables.map_form.MapFormForm.read.Goals as goal

pub returns-in-Map : goal.returns-in-Map
returns-in-Map g c = record { told = map_read g.M.Mapped.name g.M.Mapped.keys c.args.item c.in-Map.pairs c.read.result c.in-Map.is c.read.ensures.told }
