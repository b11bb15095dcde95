use Rattle.std.proofs.Common.{ap, ◌∙◌, arith, length}
use Rattle.std.specs.Vec.Iter.{into_iter_items}
use Rattle.session_rules.specs.Taking.{speaks}
use Rattle.validator_session.specs.Drafting.{draft_of}
use Rattle.validator_session.specs.Standing.{notes_of}
use Rattle.validator_session.proofs.Speaking.{failed}
use Rattle.validator_session.proofs.Tidy.{goes_on, is_lost, tidy_speaks}
use Rattle.validator_session.proofs.take.take_words.Goals as goal

pub loop-word-preserved : goal.loop-word-preserved
loop-word-preserved c =
    let left = into_iter_items c.loop-word.word-iterator in
    let fewer = into_iter_items c.next.new.self in
    let shorter = ap length c.in-Some.ensures.steps.0 in
    let was = c.loop-word.invariant.len in
    record {
      reached = goes_on speaks (draft_of c.args.draft.now c.args.notes.now c.args.mirror.now) c.args.words (draft_of c.loop-word.draft c.loop-word.notes c.loop-word.mirror) (draft_of c.take_word.new.draft c.take_word.new.notes c.take_word.new.mirror) left fewer c.in-Some.word
          tidy_speaks c.in-Some.ensures.steps.0 c.loop-word.invariant.reached c.in_ok-take_word.ensures.drafted;
      len = omega arith;
      fits = c.in_ok-take_word.ensures.fits;
      noted = c.in_ok-take_word.ensures.noted;
      sent = c.in_ok-take_word.ensures.sent ∙ c.loop-word.invariant.sent;
      received = c.in_ok-take_word.ensures.received ∙ c.loop-word.invariant.received;
    }

pub returns-in_err-take_word-clause-drafted : goal.returns-in_err-take_word-clause-drafted
returns-in_err-take_word-clause-drafted c =
    failed _ _ _ _ _ _ c.from_residual.result c.from_residual.ensures.0
    (is_lost speaks (draft_of c.args.draft.now c.args.notes.now c.args.mirror.now) c.args.words (draft_of c.loop-word.draft c.loop-word.notes c.loop-word.mirror) (into_iter_items c.loop-word.word-iterator) (into_iter_items c.next.new.self) c.in-Some.word
    (notes_of c.take_word.new.notes c.take_word.new.mirror) c.in-Some.ensures.steps.0 c.loop-word.invariant.reached c.in_err-take_word.ensures.drafted)
