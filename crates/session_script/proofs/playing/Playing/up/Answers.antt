use Rattle.std.proofs.Common.{refl}
use Rattle.session_world.specs.Lines.{ups}
use Rattle.session_script.specs.declared.line.Line.TheVariants as line
use Rattle.session_script.proofs.Playings.{played}
use Rattle.session_script.proofs.playing.Playing.up.Goals as goal

pub returns-clause-plays : goal.returns-clause-plays
returns-clause-plays c =
    played (line.Up c.args.most) (ups c.args.most) c.args.self.now c.up.new.self _ c.up.new.told c.told_text.result (λ p. refl) c.new-told.ensures.empty c.in_ok-up.ensures.does c.told_text.ensures.text
