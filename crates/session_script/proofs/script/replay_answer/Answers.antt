use Rattle.std.proofs.Common.{ℕ, ◌∙◌, ap, refl, take}
use Rattle.session_script.proofs.ReplayTelling.{script_tells}
use Rattle.session_script.proofs.script.replay_answer.Goals as goal

pub returns : goal.returns
returns c = record { told = script_tells c.args.octets.now c.split_at.result.0.now _ c.play.result (c.split_at.ensures.front ∙ ap (λ (n : ℕ). take n c.args.octets.now) c.min.ensures) refl c.play.ensures.plays }
