use Rattle.std.proofs.Common.{refl}
use Rattle.session_hear.specs.Step.{Came}
use Rattle.validator_session.specs.Standing.{stand_of}
use Rattle.validator_session.proofs.Stepping.{on_ok, step_so}
use Rattle.validator_session.proofs.end.FollowEndEndMirror.come.Goals as goal

pub returns-clause-did : goal.returns-clause-did
returns-clause-did c = record {
  config = refl;
  sent = c.hear.ensures.sent;
  received = c.hear.ensures.received;
  noted = λ noted. c.hear.ensures.noted;
  talks = step_so c.args.self.now.config (stand_of c.args.self.now.standing c.args.beside.now) (stand_of c.hear.new.standing c.hear.new.mirror) c.args.self.now.out c.hear.new.out (Came c.args.batch.now) c.hear.result c.requires.live c.hear.ensures.goes;
}

pub returns-clause-ready : goal.returns-clause-ready
returns-clause-ready c = on_ok c.hear.result (λ so on. record { goes_on = so on; noted = c.hear.ensures.noted }) c.hear.ensures.ready
