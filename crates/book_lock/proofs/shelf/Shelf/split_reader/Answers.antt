use Rattle.std.proofs.Common.{arith, false, sym, ap, ◌∙◌}
use Rattle.atomic_table.specs.Seated.{TableId}
use Rattle.book_lock.specs.Passes.{PassView, split_from}
use Rattle.book_lock.specs.Plays.{Seated, pass_of}
use Rattle.book_lock.proofs.Calls.{is_at}
use Rattle.book_lock.proofs.Meetings.{other_is, rests_other, rests_same}
use Rattle.book_lock.proofs.Parting.{splits_reader}
use Rattle.book_lock.proofs.shelf.Shelf.split_reader.Goals as goal

pub split_seat-seat-requires : goal.split_seat-seat-requires
split_seat-seat-requires c =
    let at = is_at _ _ _ c.pass.inside.seat.me.0 _ c.pass.view_is c.self.view_is c.requires.here c.self.invariant in
    (at.0, omega (arith, at.1), splits_reader _ _ _ c.pass.invariant.0.live)

pub invariant_of-result : goal.invariant_of-result
invariant_of-result c =
    let did = c.split_seat-seat.ensures in
    (rests_other c.pass.inside.seat.table_id _ c.pass.inside.seat.me.0 _ false did.3 did.4 c.pass.invariant.0.sound, sym (ap (λ (m : Seated). m.0.may_change) did.4))

pub invariant_of-pass : goal.invariant_of-pass
invariant_of-pass c =
    let did = c.split_seat-seat.ensures in
    (rests_same _ _ _ _ did.0 did.2 c.pass.invariant.0, c.pass.invariant.1 ∙ sym (ap (λ (m : Seated). m.0.may_change) did.2))

pub returns : goal.returns
returns c =
    let did = c.split_seat-seat.ensures in
    let same = other_is c.pass.inside.seat.table_id _ c.pass.inside.seat.me.0 _ false did.3 did.4 in record {
      kept = ap (λ (z : TableId). pass_of z c.split_seat-seat.new.seat.me.0) did.0 ∙ (ap (λ (m : Seated). pass_of c.pass.inside.seat.table_id m.0) did.2 ∙ c.pass.view_is);
      made = same ∙ ap (λ (p : PassView). split_from p false) c.pass.view_is;
      sound = (rests_same _ _ _ _ did.0 did.2 c.pass.invariant.0).sound;
      made_sound = (rests_other c.pass.inside.seat.table_id _ c.pass.inside.seat.me.0 _ false did.3 did.4 c.pass.invariant.0.sound).sound;
    }
