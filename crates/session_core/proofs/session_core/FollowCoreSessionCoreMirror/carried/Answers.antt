use Rattle.std.proofs.Common.{List, ◌++◌, inl, take, sym, subst, append-nil}
use Rattle.wire_base.specs.Turns.{Turn}
use Rattle.validator_session.specs.Core.{Stood}
use Rattle.session_core.proofs.session_core.FollowCoreSessionCoreMirror.carried.Goals as goal

pub returns-clause-ran : goal.returns-clause-ran
returns-clause-ran c now = record {
  config = c.carried.ensures.config;
  stands = λ mirror begun carried s. inl (
      subst (λ (ts : List Turn). Stood c.args.self.now.end.config mirror ts (carried ++ take c.args.count c.args.self.now.end.out) c.carried.new.self now) (sym (append-nil begun))
      (c.carried.ensures.stands c.args.self.now.end.config mirror begun carried now s)
      );
}
