use Rattle.std.proofs.Common.{◌<◌, ◌≤◌, ◌∙◌, length, set, arith, subst}
use Rattle.std.proofs.lemmas.List.{get_or-set_other, get_or-set_same, get_or_default}
use Rattle.validator_core.specs.Held.{Held}
use Rattle.session_door.specs.declared.work.Work.{Work}
use Rattle.session_pool.specs.Rooms.{GivesMirror}
use Rattle.session_pool.specs.declared.stand.Stand.{Stand}
use Rattle.session_pool.proofs.Clearing.{cleared_more, mirrors_cleared}
use Rattle.session_pool.proofs.Following.{any_more}
use Rattle.session_pool.proofs.follow_pool.clear.Goals as goal

pub loop-place-preserved : goal.loop-place-preserved
loop-place-preserved g c =
    let k = c.loop-place.place in
    let all = c.loop-place.invariant in
    let mirror = c.clear_one-work.new.mirror in
    let inside : c.loop-place.place < length c.args.doors.now = c.loop-place-test.true in
    let within : c.loop-place.place < length c.args.mirrors.now = omega (arith, inside, c.requires.many) in
    let lent : c.loop-place.place < length c.loop-place.mirrors = omega (arith, within, all.mirrors.count) in
    let there : c.loop-place.place < length c.loop-place.doors = omega (arith, inside, all.cleared.doors_count) in
    record {
      mirrors = any_more k c.args.mirrors.now c.loop-place.mirrors mirror within all.mirrors;
      cleared =
          cleared_more (λ (one : Stand g.row.D.Denot) (mirror : Held) (other : Stand g.row.D.Denot) (work : Work). GivesMirror one mirror other work) k c.args.doors.now c.loop-place.mirrors (set c.loop-place.mirrors k mirror)
          c.loop-place.doors c.loop-place.outcome c.add.new.self c.clear_one-work.new.stand mirror c.clear_one-work.result inside all.cleared
          (λ stand. subst (λ (s : Stand g.row.D.Denot). GivesMirror s mirror c.clear_one-work.new.stand c.clear_one-work.result) (get_or_default c.loop-place.doors k _ stand there ∙ all.cleared.rest k stand (omega arith)) c.clear_one-work.ensures.gives)
          (λ place other soon. get_or-set_other c.loop-place.mirrors k place mirror other (λ same. absurd (omega (arith, soon, same)))) (λ other. get_or-set_same c.loop-place.mirrors k mirror other lent)
          c.add.ensures.ends c.add.ensures.failed c.add.ensures.ran_out c.add.ensures.len.0 c.add.ensures.len.1 c.add.ensures.room.0 c.add.ensures.room.1;
    }

pub returns-clause-gives : goal.returns-clause-gives
returns-clause-gives g c =
    let end : length c.args.doors.now ≤ c.loop-place.place = c.loop-place-test.false in
    mirrors_cleared c.loop-place.place c.args.doors.now c.loop-place.doors c.loop-place.outcome end c.loop-place.mirrors c.loop-place.invariant.cleared
