use Rattle.std.proofs.Common.{refl, ◌∙◌}
use Rattle.session_script.proofs.Playings.{deleted}
use Rattle.session_script.proofs.playing.Playing.delete.Goals as goal

pub returns-clause-plays : goal.returns-clause-plays
returns-clause-plays c =
    deleted c.next_stamp-stamp.result c.args.self.now c.enter.new.self c.next_stamp-stamp.new.self.world c.enter.result c.next_stamp-stamp.ensures.world c.next_stamp-stamp.ensures.stamp
    (c.enter.ensures.changes ∙ c.next_stamp-stamp.ensures.changes) c.args.id (record { ref_ptr = c.args.self.ref_ptr; now = c.next_stamp-stamp.result }) c.enter.ensures.enters refl
