use Rattle.std.proofs.Common.{ap}
use Rattle.std.specs.Prelude.{is_some}
use Rattle.session_core.proofs.session_core.FollowCoreSessionCoreMirror.allowed.Goals as goal

pub allowed-requires : goal.allowed-requires
allowed-requires c = record { live = ap is_some c.requires.live }
