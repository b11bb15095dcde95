-- Each way out of the loop over a piece, by the laws of the end.
use Rattle.std.proofs.Common.{◌≡◌, refl, sym, ap, subst, ◌∙◌}
use Rattle.wire_base.specs.Feeding.{More, Feeding}
use Rattle.pb_batch.specs.declared.feed.BatchFed.TheVariants as fed
use Rattle.pb_batch.specs.declared.fault.PbFault.{PbFault}
use Rattle.pb_batch.specs.Front.{front_of}
use Rattle.session_hear.proofs.Feeding.{takes_piece}
use Rattle.session_hear.proofs.Reaching.{reached_none, broke_off, all_heard, all_hears, err_is_not_ok, goes_on, is_lost, is_over, more_hears, none_left, shows, some_left, wants_more}
use Rattle.session_hear.proofs.Reported.{bad_is_told}
use Rattle.session_hear.proofs.hear.hear_octets.Goals as goal

pub loop-rest-init : goal.loop-rest-init
loop-rest-init g c = record {
  reached = λ quiet count. reached_none g.met.E.End.none quiet count c.args.end.now c.args.beside.now c.args.feed.now.feeding.octets c.args.piece.now c.requires.some;
  live = c.requires.live;
  ready = c.requires.ready;
  feeding = c.requires.feeding;
  torn = c.requires.torn;
  direction = refl;
}

pub returns-in-More-clause-did : goal.returns-in-More-clause-did
returns-in-More-clause-did g c quiet count =
    let at = c.loop-rest.invariant in
    let more = takes_piece c.args.feed.now.from_server c.loop-rest.feed c.feed.new.self c.loop-rest.rest.now fed.More at.direction at.feeding c.in-More.ensures.fed in
    wants_more (at.reached quiet count) g.met.E.End.none g.met.E.End.then (some_left c.loop-rest.rest.now c.loop-rest-test.ensures) more.0

pub returns-in-More-clause-hears : goal.returns-in-More-clause-hears
returns-in-More-clause-hears g c live quiet count =
    let at = c.loop-rest.invariant in
    let more = takes_piece c.args.feed.now.from_server c.loop-rest.feed c.feed.new.self c.loop-rest.rest.now fed.More at.direction at.feeding c.in-More.ensures.fed in
    rw more.1 (more_hears (at.reached quiet count) (some_left c.loop-rest.rest.now c.loop-rest-test.ensures) more.0)

pub returns-in_err-come-in-Done-clause-did : goal.returns-in_err-come-in-Done-clause-did
returns-in_err-come-in-Done-clause-did g c quiet count =
    let at = c.loop-rest.invariant in
    let came = takes_piece c.args.feed.now.from_server c.loop-rest.feed c.feed.new.self c.loop-rest.rest.now (fed.Done c.in-Done.batch c.in-Done.used) at.direction at.feeding c.in-Done.ensures.fed in
    let torn = subst (λ side. front_of side c.loop-rest.feed.feeding.octets ≡ More) at.direction at.torn in
    rw (err_is_not_ok c.from_residual.result c.from_residual.ensures.0) (is_lost (at.reached quiet count) c.in-Done.batch c.in-Done.used torn came.0 g.met.E.End.then g.met.E.End.broke c.come.new.self c.come.new.beside c.in_err-come-in-Done.ensures.did)

pub returns-then-is_over-clause-did : goal.returns-then-is_over-clause-did
returns-then-is_over-clause-did g c quiet count =
    let at = c.loop-rest.invariant in
    let came = takes_piece c.args.feed.now.from_server c.loop-rest.feed c.feed.new.self c.loop-rest.rest.now (fed.Done c.in-Done.batch c.in-Done.used) at.direction at.feeding c.in-Done.ensures.fed in
    let torn = subst (λ side. front_of side c.loop-rest.feed.feeding.octets ≡ More) at.direction at.torn in
    is_over (at.reached quiet count) c.in-Done.batch c.in-Done.used torn came.0 {over = g.E.End.over} g.met.E.End.then g.met.E.End.rests c.come.new.self c.come.new.beside (sym c.if-is_over.ensures.over) c.in_ok-come-in-Done.ensures.did

pub loop-rest-preserved : goal.loop-rest-preserved
loop-rest-preserved g c =
    let at = c.loop-rest.invariant in
    let came = takes_piece c.args.feed.now.from_server c.loop-rest.feed c.feed.new.self c.loop-rest.rest.now (fed.Done c.in-Done.batch c.in-Done.used) at.direction at.feeding c.in-Done.ensures.fed in
    let torn = subst (λ side. front_of side c.loop-rest.feed.feeding.octets ≡ More) at.direction at.torn in
    record {
      reached = λ quiet count. rw (ap (λ (f : Feeding PbFault). f.octets) came.3, c.split_at.ensures.back)
          (goes_on (at.reached quiet count) c.in-Done.batch c.in-Done.used torn came.0 g.met.E.End.then c.come.new.self c.come.new.beside came.2 c.in_ok-come-in-Done.ensures.did);
      live = sym c.if-is_over.ensures.over;
      ready = c.in_ok-come-in-Done.ensures.ready (sym c.if-is_over.ensures.over);
      feeding = ap (λ (f : Feeding PbFault). f.stopped) came.3;
      torn = c.feed.ensures.torn;
      direction = c.feed.ensures.fed.direction ∙ at.direction;
    }

pub refuse-requires-clause-told : goal.refuse-requires-clause-told
refuse-requires-clause-told g c =
    let at = c.loop-rest.invariant in
    let bad = takes_piece c.args.feed.now.from_server c.loop-rest.feed c.feed.new.self c.loop-rest.rest.now (fed.Fault c.in-Fault.fault) at.direction at.feeding c.in-Fault.ensures.fed in
    bad_is_told c.args.feed.now.from_server _ c.in-Fault.fault bad.0

pub returns-in-Fault-clause-did : goal.returns-in-Fault-clause-did
returns-in-Fault-clause-did g c quiet count =
    let at = c.loop-rest.invariant in
    let bad = takes_piece c.args.feed.now.from_server c.loop-rest.feed c.feed.new.self c.loop-rest.rest.now (fed.Fault c.in-Fault.fault) at.direction at.feeding c.in-Fault.ensures.fed in
    let torn = subst (λ side. front_of side c.loop-rest.feed.feeding.octets ≡ More) at.direction at.torn in
    shows (at.reached quiet count) g.met.E.End.then c.refuse.new.self c.refuse.new.beside c.in-Fault.fault _ torn bad.0 c.refuse.ensures.did

pub returns-in-Memory-clause-did : goal.returns-in-Memory-clause-did
returns-in-Memory-clause-did g c quiet count = broke_off (c.loop-rest.invariant.reached quiet count) g.met.E.End.stops

pub returns-clause-did : goal.returns-clause-did
returns-clause-did g c quiet count =
    all_heard (c.loop-rest.invariant.reached quiet count) g.met.E.End.none g.met.E.End.then (none_left c.loop-rest.rest.now c.loop-rest-test.ensures)

pub returns-clause-hears : goal.returns-clause-hears
returns-clause-hears g c live quiet count =
    all_hears (c.loop-rest.invariant.reached quiet count) (none_left c.loop-rest.rest.now c.loop-rest-test.ensures)
