use Rattle.std.proofs.Common.{◌≡◌, ◌<◌, ◌≤◌, ◌+◌, ◌++◌, ◌∷◌, ◌∙◌, ℕ, List, [], get_or, length, ap, arith, subst}
use Rattle.std.proofs.lemmas.List.{get_or_append_left, get_or_default, get_or_push, length_push}
use Rattle.book_lock.specs.Passes.{PassView}
use Rattle.session_door.specs.declared.work.Work.{Work}
use Rattle.session_pool.specs.Rooms.{GivesPass}
use Rattle.session_pool.specs.declared.stand.Stand.{Stand}
use Rattle.session_pool.proofs.Clearing.{cleared_more, passes_cleared}
use Rattle.session_pool.proofs.pool.clear.Goals as goal

pub loop-place-preserved : goal.loop-place-preserved
loop-place-preserved g c =
    let k = c.loop-place.place in
    let all = c.loop-place.invariant in
    let passes = c.loop-place.passes.items in
    let pass = c.clear_one-pass.result.0 in
    let put : c.put.new.passes.items ≡ c.loop-place.passes.items ++ c.clear_one-pass.result.0 ∷ [] = c.put.ensures.appended in
    let inside : c.loop-place.place < length c.args.doors.now = c.loop-place-test.true in
    let there : c.loop-place.place < length c.loop-place.doors = omega (arith, inside, all.cleared.doors_count) in
    record {
      cleared =
          cleared_more (λ (one : Stand g.row.D.Denot) (pass : PassView) (other : Stand g.row.D.Denot) (work : Work). GivesPass one pass other work) k c.args.doors.now passes c.put.new.passes.items
          c.loop-place.doors c.loop-place.outcome c.add.new.self c.clear_one-pass.new.stand pass c.clear_one-pass.result.1 inside all.cleared
          (λ stand. subst (λ (s : Stand g.row.D.Denot). GivesPass s pass c.clear_one-pass.new.stand c.clear_one-pass.result.1) (get_or_default c.loop-place.doors k _ stand there ∙ all.cleared.rest k stand (omega arith)) c.clear_one-pass.ensures.gives)
          (λ place other soon. ap (λ (ps : List PassView). get_or ps place other) put ∙ get_or_append_left passes (pass ∷ []) other place (omega (arith, soon, all.count)))
          (λ other. ap (λ (ps : List PassView). get_or ps k other) put ∙ get_or_push passes pass other k all.count)
          c.add.ensures.ends c.add.ensures.failed c.add.ensures.ran_out c.add.ensures.len.0 c.add.ensures.len.1 c.add.ensures.room.0 c.add.ensures.room.1;
      count = ap length put ∙ length_push passes pass ∙ ap (λ (n : ℕ). n + 1) all.count;
      spare = omega (arith, all.spare, c.put.ensures.len, c.put.ensures.room, inside);
    }

pub returns : goal.returns
returns g c =
    let end : length c.args.doors.now ≤ c.loop-place.place = c.loop-place-test.false in
    record { gives = passes_cleared c.loop-place.place c.args.doors.now c.loop-place.doors c.loop-place.outcome end c.loop-place.passes.items c.loop-place.invariant.count c.loop-place.invariant.cleared }
