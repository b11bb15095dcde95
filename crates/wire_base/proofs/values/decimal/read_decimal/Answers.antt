-- Each digit makes a longer number, or is the first fault.
use Rattle.std.proofs.Common.{◌≡◌, ℕ, Option, Some, None, get_or, length, sym, ap, subst, arith}
use Rattle.std.specs.Fmt.{decimal}
use Rattle.std.specs.Option.{option_map}
use Rattle.wire_base.specs.Spelling.{with_digit}
use Rattle.wire_base.specs.Texts.{IsU32, StopsAt}
use Rattle.wire_base.proofs.Decimals.{steps}
use Rattle.wire_base.proofs.TextFaults.{goes_on, stops_at_end, stops_within}
use Rattle.wire_base.proofs.values.decimal.read_decimal.Goals as goal

pub returns-in_default : goal.returns-in_default
returns-in_default c =
    let at = c.loop-character.invariant.place in
    let none : with_digit c.loop-character.number (get_or c.args.text.now c.loop-character.character-index 0) ≡ None = sym c.in_default.ensures.longer in
    record {
      number = subst (λ (k : ℕ). StopsAt decimal IsU32 c.args.text.now k) (sym at)
          (stops_within steps c.args.text.now c.loop-character.character-index c.loop-character.number c.loop-character.invariant.read c.loop-character.invariant.digits c.loop-character-test.true
          (ap (λ (t : Option ℕ). option_map (λ (n : ℕ). Some n) t) none));
    }

pub loop-character-preserved : goal.loop-character-preserved
loop-character-preserved c =
    let some : with_digit c.loop-character.number (get_or c.args.text.now c.loop-character.character-index 0) ≡ Some c.in-Some.longer = sym c.in-Some.ensures.longer in
    let g = goes_on steps c.args.text.now c.loop-character.character-index c.loop-character.number (Some c.in-Some.longer) c.loop-character.invariant.read c.loop-character.invariant.digits c.loop-character-test.true
    (ap (λ (t : Option ℕ). option_map (λ (n : ℕ). Some n) t) some) in
    record { place = omega (arith, c.loop-character.invariant.place); read = g.0; digits = g.1 }

pub returns-in-None : goal.returns-in-None
returns-in-None c =
    let at = c.loop-character.invariant.place in
    let end : c.loop-character.character-index ≡ length c.args.text.now = omega (arith, c.loop-character-test.false, c.loop-character.auto.character-index-end) in
    record {
      number = subst (λ (k : ℕ). StopsAt decimal IsU32 c.args.text.now k) (sym at)
          (stops_at_end steps c.args.text.now c.loop-character.character-index c.loop-character.number c.loop-character.invariant.read c.loop-character.invariant.digits end c.in-None.is);
    }
