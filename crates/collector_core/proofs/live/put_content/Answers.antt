use Rattle.collector_core.proofs.Slots.{put_at}
use Rattle.collector_core.proofs.live.put_content.Goals as goal

pub returns : goal.returns
returns c = record {
  put = λ next empty is. put_at next empty c.args.id c.args.places.now.entries c.exchange.new.places.entries c.args.content is c.requires.held c.exchange.ensures.exchanged;
}
