use Rattle.std.proofs.Common.{[], ◌∷◌, ap, inl}
use Rattle.std.specs.Prelude.{is_some}
use Rattle.wire_base.specs.Turns.{Ended}
use Rattle.session_core.specs.RanLaws.{follow_turned}
use Rattle.session_core.proofs.session_core.FollowCoreSessionCoreMirror.link_ended.Goals as goal

pub returns-clause-ran : goal.returns-clause-ran
returns-clause-ran c mirror =
    follow_turned mirror mirror c.args.self.now c.link_ended.new.self (Ended ∷ []) c.link_ended.ensures.config (λ opened turns carried stood. inl (c.link_ended.ensures.stood mirror (ap is_some c.requires.live) opened turns carried stood))
