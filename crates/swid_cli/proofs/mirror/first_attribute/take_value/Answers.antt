use Rattle.std.proofs.Common.{ℕ, ◌+◌, ◌<◌, ◌≤◌, min, List, length, take, drop, ap, subst, ◌∙◌, arith, length-take}
use Rattle.pa_attrs.specs.declared.feed.AttrFed.TheVariants as fed
use Rattle.pa_attrs.specs.Stream.{Feeds}
use Rattle.swid_cli.specs.declared.mirror.first_attribute.Front.TheVariants as front
use Rattle.swid_cli.proofs.Wanting.{ended_torn, found_whole, moved_on, no_fault, none_moved, piece_is, still_begun, takes_of, wanting, went_beyond, whole_len}
use Rattle.swid_cli.proofs.mirror.first_attribute.take_value.Goals as goal

pub overflow_sub-wanting : goal.overflow_sub-wanting
overflow_sub-wanting g c =
    let begun = c.loop-count.invariant.begun in
    let w = wanting c.args.room c.args.len c.loop-count.feed begun in
    omega (arith, c.have-have.ensures.have, c.min.ensures, begun.within, w.3)

pub read-requires : goal.read-requires
read-requires g c =
    let begun = c.loop-count.invariant.begun in
    let w = wanting c.args.room c.args.len c.loop-count.feed begun in
    omega (arith, c.have-have.ensures.have, c.min.ensures, c.min-in-loop-count.ensures, length-take c.min-in-loop-count.result c.loop-count.buf, begun.within, w.3)

pub returns-then-count-eq0-clause-front : goal.returns-then-count-eq0-clause-front
returns-then-count-eq0-clause-front g c = λ octets told.
    let kept = c.loop-count.invariant in
    let reads = c.in_ok-count.ensures.reads in
    let torn = ended_torn c.args.room c.args.len c.args.feed.now c.loop-count.feed kept.begun _ _ _ kept.moved.0 kept.moved.1 kept.moved.2 octets told
    (none_moved _ _ c.in_ok-count.count c.read.new.buf c.if-count-eq0.true reads.0) (reads.1 c.if-count-eq0.true) in
    (ap (λ (n : ℕ). front.Torn n) c.have-have.ensures.have ∙ torn.0, torn.1)

pub returns-then-room-have-clause-front : goal.returns-then-room-have-clause-front
returns-then-room-have-clause-front g c = λ octets told.
    let kept = c.loop-count.invariant in
    let taken = length-take c.in_ok-count.count c.read.new.buf in
    let asked = length-take c.min-in-loop-count.result c.loop-count.buf in
    let over : c.args.room < length c.loop-count.feed.octets + length (take c.in_ok-count.count c.read.new.buf) = omega (arith, taken, c.in_ok-count.ensures.within, c.have-have.ensures.have, c.if-room-have.true) in
    let most : length c.loop-count.feed.octets + length (take c.in_ok-count.count c.read.new.buf) ≤ min c.args.len (c.args.room + 1) =
    omega (arith, taken, asked, c.in_ok-count.ensures.within, c.read.auto.buf, c.have-have.ensures.have, c.min.ensures, c.min-in-loop-count.ensures, kept.begun.within, (wanting c.args.room c.args.len c.loop-count.feed kept.begun).3) in
    went_beyond c.args.room c.args.len c.args.feed.now c.loop-count.feed kept.begun _ _ _ kept.moved.0 kept.moved.1 kept.moved.2 octets told
    (take c.in_ok-count.count c.read.new.buf) c.in_ok-count.ensures.reads.0 over most

pub loop-count-preserved : goal.loop-count-preserved
loop-count-preserved g c =
    let kept = c.loop-count.invariant in
    let count = c.in_ok-count.count in
    let buffer = c.read.new.buf in
    let feeds = subst (λ (o : List ℕ). Feeds c.loop-count.feed o fed.More c.feed.new.self) (piece_is count buffer (drop c.min-in-loop-count.result c.loop-count.buf) c.in_ok-count.ensures.within) c.in-More.ensures.fed in
    let takes = takes_of c.loop-count.feed (take count buffer) fed.More c.feed.new.self kept.begun.goes feeds in
    let within : length c.loop-count.feed.octets + length (take count buffer) ≤ c.args.room = omega (arith, length-take count buffer, c.have-have.ensures.have, c.if-room-have.false) in
    record {
      begun = still_begun c.args.room c.args.len c.loop-count.feed kept.begun (take count buffer) c.feed.new.self takes within;
      moved = moved_on c.args.feed.now.octets c.loop-count.feed.octets (take count buffer) kept.moved.0 _ _ _ c.feed.new.self kept.moved.1 kept.moved.2 c.in_ok-count.ensures.reads.0 takes;
      calm = c.in_ok-count.ensures.cause.cause ∙ kept.calm;
    }

pub returns-in-Done-clause-front : goal.returns-in-Done-clause-front
returns-in-Done-clause-front g c = λ octets told.
    let kept = c.loop-count.invariant in
    let count = c.in_ok-count.count in
    let buffer = c.read.new.buf in
    let feeds = subst (λ (o : List ℕ). Feeds c.loop-count.feed o (fed.Done c.in-Done.attr c.in-Done.field-1) c.feed.new.self) (piece_is count buffer (drop c.min-in-loop-count.result c.loop-count.buf) c.in_ok-count.ensures.within) c.in-Done.ensures.fed in
    let takes = takes_of c.loop-count.feed (take count buffer) (fed.Done c.in-Done.attr c.in-Done.field-1) c.feed.new.self kept.begun.goes feeds in
    let taken = length-take count buffer in
    let asked = length-take c.min-in-loop-count.result c.loop-count.buf in
    let within : length c.loop-count.feed.octets + length (take count buffer) ≤ c.args.room = omega (arith, taken, c.have-have.ensures.have, c.if-room-have.false) in
    let most : length c.loop-count.feed.octets + length (take count buffer) ≤ c.args.len =
    omega (arith, taken, asked, c.in_ok-count.ensures.within, c.read.auto.buf, c.have-have.ensures.have, c.min.ensures, c.min-in-loop-count.ensures, kept.begun.within, (wanting c.args.room c.args.len c.loop-count.feed kept.begun).3) in
    found_whole c.args.room c.args.len c.args.feed.now c.loop-count.feed kept.begun _ _ _ kept.moved.0 kept.moved.1 kept.moved.2 octets told
    (take count buffer) c.in_ok-count.ensures.reads.0 c.in-Done.attr c.in-Done.field-1 within most takes.2 takes.0

pub returns-in-Done-clause-within : goal.returns-in-Done-clause-within
returns-in-Done-clause-within g c =
    let kept = c.loop-count.invariant in
    let count = c.in_ok-count.count in
    let buffer = c.read.new.buf in
    let feeds = subst (λ (o : List ℕ). Feeds c.loop-count.feed o (fed.Done c.in-Done.attr c.in-Done.field-1) c.feed.new.self) (piece_is count buffer (drop c.min-in-loop-count.result c.loop-count.buf) c.in_ok-count.ensures.within) c.in-Done.ensures.fed in
    let takes = takes_of c.loop-count.feed (take count buffer) (fed.Done c.in-Done.attr c.in-Done.field-1) c.feed.new.self kept.begun.goes feeds in
    let all = whole_len c.args.room c.args.len c.loop-count.feed kept.begun (take count buffer) c.in-Done.attr c.in-Done.field-1 takes.0 in
    (all.1, omega (arith, all.0, takes.2, length-take count buffer, c.have-have.ensures.have, c.if-room-have.false, (wanting c.args.room c.args.len c.loop-count.feed kept.begun).4))

pub returns-in-Fault-clause-front : goal.returns-in-Fault-clause-front
returns-in-Fault-clause-front g c = λ octets told.
    let begun = c.loop-count.invariant.begun in
    let takes = takes_of c.loop-count.feed _ (fed.Fault c.in-Fault.fault) c.feed.new.self begun.goes c.in-Fault.ensures.fed in
    absurd (no_fault c.args.room c.args.len c.loop-count.feed begun _ c.in-Fault.fault takes.0)

pub returns-in-Fault-clause-within : goal.returns-in-Fault-clause-within
returns-in-Fault-clause-within g c =
    let begun = c.loop-count.invariant.begun in
    let takes = takes_of c.loop-count.feed _ (fed.Fault c.in-Fault.fault) c.feed.new.self begun.goes c.in-Fault.ensures.fed in
    absurd (no_fault c.args.room c.args.len c.loop-count.feed begun _ c.in-Fault.fault takes.0)
