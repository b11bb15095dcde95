use Rattle.collector_core.proofs.InTurn.{in_turn}
use Rattle.collector_core.proofs.desk.answers_in_turn.Goals as goal

pub returns : goal.returns
returns g c = record {
  in_turn = in_turn g.D.Desk.stands g.D.Desk.went g.met.D.Desk.follows g.met.D.Desk.carries c.args.desk.now c.answer-first.new.self c.answer-second.new.self c.args.one.now c.args.two.now c.args.max
      c.answer-first.result c.answer-second.result c.answer-first.ensures.reads c.answer-second.ensures.reads;
}
