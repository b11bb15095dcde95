use Rattle.clap.proofs.WalkLemmas.{both}
use Rattle.command_options.proofs.given.found.Goals as goal

pub returns-in-Ok : goal.returns-in-Ok
returns-in-Ok c = record { found = (c.in-Ok.ensures.kinds c.requires.simple, (c.in-Ok.ensures.matches (both _ _ c.requires.simple).0).0) }
