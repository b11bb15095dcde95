use Rattle.swima_model.proofs.Places.{found_item}
use Rattle.swima_model.proofs.find.record_of.Goals as goal

pub returns : goal.returns
returns c = record {
  found = found_item c.args.id c.in_ok-place.place c.args.records.now c.index-records-place.result c.requires.rising c.in_ok-place.ensures.place c.index-records-place.is;
}
