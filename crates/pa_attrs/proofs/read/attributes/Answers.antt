use Rattle.std.proofs.Common.{◌≡◌, true, false, eqb, length, Err, sym, ap, ◌∙◌, arith}
use Rattle.pa_attrs.specs.declared.fault.PaFault.{PaFault}
use Rattle.pa_attrs.proofs.Walking.{message_good, fault_place, went_on, ended, broke}
use Rattle.pa_attrs.proofs.read.attributes.Goals as goal

pub fault_of-requires : goal.fault_of-requires
fault_of-requires c =
    let place = fault_place _ _ _ _ (sym c.in-Err.ensures.header) in
    omega (arith, place, c.loop-rest.invariant.places, c.requires.most)

pub returns-in-Err : goal.returns-in-Err
returns-in-Err c =
    let more : eqb (length c.loop-rest.rest.now) 0 ≡ false = sym c.is_empty.ensures ∙ c.loop-rest-test.true in
    record { attrs = broke _ c.args.bytes.now _ _ _ _ _ _ _ more (sym c.in-Err.ensures.header) c.loop-rest.invariant.so_far ∙ ap (λ (f : PaFault). Err f) (sym c.fault_of.ensures.fault) }

pub keep-requires-clause-least : goal.keep-requires-clause-least
keep-requires-clause-least c = (message_good _ _ _ _ (sym c.in-Ok.ensures.header)).good.least

pub keep-requires-clause-within : goal.keep-requires-clause-within
keep-requires-clause-within c = (message_good _ _ _ _ (sym c.in-Ok.ensures.header)).good.within

pub split_at-requires-in-loop-rest : goal.split_at-requires-in-loop-rest
split_at-requires-in-loop-rest c = (message_good _ _ _ _ (sym c.in-Ok.ensures.header)).good.within

pub overflow_sub-room : goal.overflow_sub-room
overflow_sub-room c = let m = message_good _ _ _ _ (sym c.in-Ok.ensures.header) in omega (arith, m.room-left)

pub loop-rest-smaller : goal.loop-rest-smaller
loop-rest-smaller c =
    let m = message_good _ _ _ _ (sym c.in-Ok.ensures.header) in
    omega (arith, m.good.least, m.good.within, c.split_at-in-loop-rest.ensures.back_len)

pub loop-rest-preserved : goal.loop-rest-preserved
loop-rest-preserved c =
    let m = message_good _ _ _ _ (sym c.in-Ok.ensures.header) in
    record {
      so_far = rw c.split_at-in-loop-rest.ensures.back (went_on _ _ _ _ _ _ _ _ _ _ (sym c.in-Ok.ensures.header) c.in_ok-keep.ensures.appended c.is_still_answered-answer.ensures.answer c.loop-rest.invariant.so_far);
      places = omega (arith, c.loop-rest.invariant.places, m.good.within, c.split_at-in-loop-rest.ensures.back_len);
    }

pub returns : goal.returns
returns c =
    let none : eqb (length c.loop-rest.rest.now) 0 ≡ true = sym c.is_empty.ensures ∙ c.loop-rest-test.false in
    record { attrs = ended _ c.args.bytes.now _ _ _ _ _ _ none c.loop-rest.invariant.so_far }
