-- The words so far, and those that are left, are those of the line.
use Rattle.std.proofs.Common.{◌++◌, ◌∙◌, [], ◌∷◌, ap, arith, length, length-append}
use Rattle.session_script.proofs.Wording.{no_more, seven_put, texts, word_put}
use Rattle.session_script.proofs.words.words_of.Goals as goal

pub returns-in_default : goal.returns-in_default
returns-in_default c = record { words = no_more _ _ _ c.loop.invariant.0 c.in_default.ensures.word.0 (omega (arith, c.loop.invariant.1, c.loop-test.true)) }

pub loop-preserved : goal.loop-preserved
loop-preserved c = (
  ap (λ found. texts found ++ c.next.new.self) c.in_ok-push.ensures.items ∙ word_put _ _ _ c.loop.invariant.0 c.in-Some.word _ c.in-Some.ensures.word,
  omega (arith, ap length c.in_ok-push.ensures.items, length-append c.loop.found.items (c.in-Some.word ∷ []), c.loop.invariant.1),
)

pub returns : goal.returns
returns c = record { words = seven_put _ _ _ c.loop.invariant.0 (omega (arith, c.loop.invariant.1, c.loop-test.false)) }
