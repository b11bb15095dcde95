use Rattle.std.proofs.Common.{refl, ◌∙◌}
use Rattle.session_script.proofs.Playings.{altered}
use Rattle.session_script.proofs.playing.Playing.alter.Goals as goal

pub returns-clause-plays : goal.returns-clause-plays
returns-clause-plays c =
    altered c.next_stamp-stamp.result c.args.self.now c.enter.new.self c.next_stamp-stamp.new.self.world c.enter.result c.next_stamp-stamp.ensures.world c.next_stamp-stamp.ensures.stamp
    (c.enter.ensures.changes ∙ c.next_stamp-stamp.ensures.changes) c.args.id c.args.content.now (record { ref_ptr = c.args.self.ref_ptr; now = c.next_stamp-stamp.result }) c.args.content c.enter.ensures.enters refl refl
