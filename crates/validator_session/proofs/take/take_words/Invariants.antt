-- The words so far were taken, and the rest is left.
use Rattle.std.proofs.Common.{◌≡◌, length}
use Rattle.std.specs.Vec.Iter.{into_iter_items, into_iter_len}
use Rattle.session_rules.specs.Taking.{speaks}
use Rattle.validator_session.specs.Drafting.{draft_of}
use Rattle.validator_session.specs.Noting.{IsNoted}
use Rattle.validator_session.specs.Sizes.{Fits}
use Rattle.validator_session.proofs.Tidy.{Reached}
use Rattle.validator_session.proofs.take.take_words.Given as goal

abbrev pub invariant-loop-word : goal.invariant-loop-word
invariant-loop-word l = record {
  reached : Reached speaks (draft_of l.fn.draft l.fn.notes l.fn.mirror) l.fn.words (draft_of l.draft l.notes l.mirror) (into_iter_items l.word-iterator);
  len : into_iter_len l.word-iterator ≡ length (into_iter_items l.word-iterator);
  fits : Fits l.draft.answers;
  noted : IsNoted l.notes;
  sent : l.notes.record.sent ≡ l.fn.notes.record.sent;
  received : l.notes.record.received ≡ l.fn.notes.record.received;
}
