use Rattle.collector_session.proofs.Answering.{applies_so}
use Rattle.collector_session.proofs.draft.Draft.apply.Goals as goal

pub returns : goal.returns
returns c = record { applied = applies_so c.args.self.now c.args.request.now c.apply.result c.apply.new.self c.earlier_left-self.result c.apply.ensures.applied c.earlier_left-self.ensures.left }
