use Rattle.std.proofs.Common.{refl}
use Rattle.session_hear.specs.Step.{Faulty}
use Rattle.validator_session.specs.Standing.{stand_of}
use Rattle.validator_session.proofs.Stepping.{step_so}
use Rattle.validator_session.proofs.end.FollowEndEndMirror.refuse.Goals as goal

pub returns-clause-did : goal.returns-clause-did
returns-clause-did c = record {
  config = refl;
  sent = c.refuse.ensures.sent;
  received = c.refuse.ensures.received;
  noted = λ noted. c.refuse.ensures.noted;
  talks = step_so c.args.self.now.config (stand_of c.args.self.now.standing c.args._beside.now) (stand_of c.refuse.new.standing c.args._beside.now) c.args.self.now.out c.refuse.new.out (Faulty c.args.fault) c.refuse.result c.requires.live (c.refuse.ensures.goes c.args._beside.now);
}
