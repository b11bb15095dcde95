use Rattle.std.proofs.Common.{arith, Bool, ◌||◌, sym, ap, ◌∙◌, subst}
use Rattle.book_lock.specs.Passes.{IsSound, PassView}
use Rattle.book_lock.specs.Plays.{Seated}
use Rattle.book_lock.proofs.Calls.{is_at}
use Rattle.book_lock.proofs.Joining.{joins}
use Rattle.book_lock.proofs.Meetings.{agree_as, met_as, met_is, other_sole_as, rests_met, sole_as}
use Rattle.book_lock.proofs.Together.{met_reader}
use Rattle.book_lock.proofs.shelf.Shelf.meet.Goals as goal

pub join_seat-requires : goal.join_seat-requires
join_seat-requires c =
    let at = is_at _ _ _ c.pass.inside.seat.me.0 _ c.pass.view_is c.self.view_is c.requires.here c.self.invariant in
    let other_at = is_at _ _ _ c.other.inside.seat.me.0 _ c.other.view_is c.self.view_is c.requires.other_here c.self.invariant in
    (at.0, other_at.0, c.other.invariant.0.empty, omega (arith, at.1), joins _ _ _ _ _ c.pass.invariant.0.idle c.other.invariant.0.idle c.pass.invariant.0.live)

pub settle-requires : goal.settle-requires
settle-requires c =
    let at = is_at _ _ _ c.pass.inside.seat.me.0 _ c.pass.view_is c.self.view_is c.requires.here c.self.invariant in
    let did = c.join_seat.ensures in record {
      here = (did.0 ∙ at.0, at.1, at.2);
      idle = ap (λ (m : Seated). m.0.stage) did.2;
      live = ap (λ (m : Seated). m.0.spent) did.2 ∙ c.pass.invariant.0.live;
    }

pub invariant_of-pass : goal.invariant_of-pass
invariant_of-pass c =
    let did = c.join_seat.ensures in
    let same = c.settle.ensures.here.0 ∙ did.0 in (
      rests_met _ _ c.pass.inside.seat.me.0 c.other.inside.seat.me.0 _ _ _ same c.pass.invariant.0.empty did.2 c.settle.ensures.settled c.pass.invariant.0.live c.pass.invariant.0.sound.some,
      ap (λ (b : Bool). b || c.other.inside.changes) c.pass.invariant.1 ∙ ap (λ (b : Bool). c.pass.inside.seat.me.0.may_change || b) c.other.invariant.1
          ∙ sym (ap (λ (p : PassView). p.may_change) (met_is _ _ c.pass.inside.seat.me.0 c.other.inside.seat.me.0 _ _ _ same c.pass.invariant.0.empty did.2 c.settle.ensures.settled c.other.inside.seat.table_id)),
    )

pub returns : goal.returns
returns c =
    let did = c.join_seat.ensures in
    let same = c.settle.ensures.here.0 ∙ did.0 in
    let all = met_as _ _ c.pass.inside.seat.me.0 c.other.inside.seat.me.0 _ _ _ same c.pass.invariant.0.empty did.2 c.settle.ensures.settled _ _ _ c.pass.view_is c.other.view_is in
    let agree = agree_as _ _ c.pass.inside.seat.me.0 c.other.inside.seat.me.0 _ _ _ same c.pass.invariant.0.empty did.2 c.settle.ensures.settled _ _ _ c.pass.view_is c.other.view_is in
    let sole = sole_as _ _ c.pass.inside.seat.me.0 c.other.inside.seat.me.0 _ _ _ same c.pass.invariant.0.empty did.2 c.settle.ensures.settled _ _ _ c.pass.view_is c.other.view_is c.pass.invariant.0.sound in
    let sound = (rests_met _ _ c.pass.inside.seat.me.0 c.other.inside.seat.me.0 _ _ _ same c.pass.invariant.0.empty did.2 c.settle.ensures.settled c.pass.invariant.0.live c.pass.invariant.0.sound.some).sound in record {
      joined = all;
      agree = agree;
      sole = sole;
      other_sole = other_sole_as _ _ c.pass.inside.seat.me.0 c.other.inside.seat.me.0 _ _ _ same c.pass.invariant.0.empty did.2 c.settle.ensures.settled _ _ _ c.pass.view_is c.other.view_is c.other.invariant.0.sound;
      reader = met_reader _ _ _ all agree sole (subst IsSound c.other.view_is c.other.invariant.0.sound) sound;
      here = same ∙ (ap (λ (p : PassView). p.shelf) c.pass.view_is ∙ c.requires.here);
      may = ap (λ (p : PassView). p.may_change) all;
      sound = sound;
    }
