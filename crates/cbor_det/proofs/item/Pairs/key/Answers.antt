-- The pair at the place.
use Rattle.cbor_det.proofs.Views.{key_there}
use Rattle.cbor_det.proofs.item.Pairs.key.Goals as goal

pub returns-in-None : goal.returns-in-None
returns-in-None c = record { key = key_there c.args.self.now c.args.place c.in-None.ensures.item }

pub returns-in-Some : goal.returns-in-Some
returns-in-Some c = record { key = key_there c.args.self.now c.args.place c.in-Some.ensures.item }
