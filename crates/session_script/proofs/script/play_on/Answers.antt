-- The lines before this one were played and printed.
use Rattle.std.proofs.Common.{◌≡◌, ◌-◌, ◌+◌, ◌∙◌, ℕ, Bool, List, suc, sym, ap, subst, arith}
use Rattle.session_script.specs.Played.{PlaysOne}
use Rattle.session_script.specs.Replay.{Plays, after_text, at_end, bad, past_lines}
use Rattle.session_script.proofs.Scripting.{all_played, reached_bad, reached_end, reached_next, reached_past}
use Rattle.session_script.proofs.script.play_on.Goals as goal

pub returns-in_default : goal.returns-in_default
returns-in_default c =
    let number = c.loop-number.number in
    let one : 100001 - number ≡ suc (100001 - (number + 1)) = omega (arith, c.loop-number-test.true) in
    record {
      plays = all_played c.args.goes_on c.args.octets.now c.args.playing.now c.loop-number.out c.out.inside.items.items c.in_ok-at_end.field-0 (at_end number c.args.goes_on c.loop-number.rest.now) c.ended.result c.ended.ensures.after c.out.view_is c.in_ok-at_end.ensures.answer
          (λ p stands.
          reached_end c.args.goes_on p c.args.octets.now c.loop-number.playing _ _ number c.loop-number.rest.now c.loop-number.out one (c.loop-number.invariant.reached p stands) c.in_default.ensures.parts);
    }

pub returns-then-not-is_line : goal.returns-then-not-is_line
returns-then-not-is_line c =
    let number = c.loop-number.number in
    let one : 100001 - number ≡ suc (100001 - (number + 1)) = omega (arith, c.loop-number-test.true) in
    record {
      plays = all_played c.args.goes_on c.args.octets.now c.args.playing.now c.play_line.new.out c.out-in-loop-number.inside.items.items c.in_ok-bad.field-0 (bad number) c.ended-then-not-is_line.result c.ended-then-not-is_line.ensures.after c.out-in-loop-number.view_is c.in_ok-bad.ensures.answer
          (λ p stands.
          let reached = c.loop-number.invariant.reached p stands in
          let none = subst (λ (b : Bool). PlaysOne reached.p c.in-Some.line.now c.loop-number.out b c.play_line.new.playing c.play_line.new.out) c.if-not-is_line.true
          (c.in_ok-is_line.ensures.plays reached.p reached.stands) in
          subst (λ (text : List ℕ). Plays 99999 2 c.args.goes_on p c.args.octets.now (after_text text (bad number))) (sym none.1)
          (reached_bad c.args.goes_on p c.args.octets.now c.loop-number.playing _ _ number c.loop-number.rest.now c.loop-number.out one reached c.in-Some.line.now c.in-Some.after.now c.in-Some.ensures.parts none.0));
    }

pub loop-number-preserved : goal.loop-number-preserved
loop-number-preserved c =
    let number = c.loop-number.number in
    let one : 100001 - number ≡ suc (100001 - (number + 1)) = omega (arith, c.loop-number-test.true) in
    record {
      reached = λ p stands.
          let reached = c.loop-number.invariant.reached p stands in
          reached_next c.args.goes_on p c.args.octets.now c.loop-number.playing _ _ number c.loop-number.rest.now c.loop-number.out one reached c.in-Some.line.now c.in-Some.after.now c.play_line.new.playing c.play_line.new.out c.in-Some.ensures.parts
          (subst (λ (b : Bool). PlaysOne reached.p c.in-Some.line.now c.loop-number.out b c.play_line.new.playing c.play_line.new.out) c.if-not-is_line.false (c.in_ok-is_line.ensures.plays reached.p reached.stands));
      changes = omega (arith, c.play_line.ensures.changes, c.loop-number.invariant.changes);
    }

pub returns : goal.returns
returns c =
    let number = c.loop-number.number in
    let none : 100001 - number ≡ 0 = omega (arith, c.loop-number-test.false) in
    let last : number ≡ 100001 = omega (arith, c.loop-number-test.false, c.loop-number.auto.number-end) in
    record {
      plays = all_played c.args.goes_on c.args.octets.now c.args.playing.now c.loop-number.out c.out-2.inside.items.items c.in_ok-past_lines.field-0 (past_lines number c.args.goes_on c.loop-number.rest.now) c.ended-2.result c.ended-2.ensures.after c.out-2.view_is
          (c.in_ok-past_lines.ensures.answer ∙ ap (λ (k : ℕ). past_lines k c.args.goes_on c.loop-number.rest.now) (sym last))
          (λ p stands. reached_past c.args.goes_on p c.args.octets.now c.loop-number.playing _ number c.loop-number.rest.now c.loop-number.out none (c.loop-number.invariant.reached p stands));
    }
