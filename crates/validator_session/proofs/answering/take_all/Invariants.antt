-- The messages so far were taken, and the rest is left.
use Rattle.std.proofs.Common.{◌≡◌, drop}
use Rattle.session_rules.specs.Taking.{takes_message}
use Rattle.validator_session.specs.Drafting.{draft_of, first_draft}
use Rattle.validator_session.specs.Noting.{IsNoted}
use Rattle.validator_session.specs.Sizes.{Fits}
use Rattle.validator_session.proofs.Tidy.{Reached}
use Rattle.validator_session.proofs.answering.take_all.Given as goal

abbrev pub invariant-loop-message : goal.invariant-loop-message
invariant-loop-message l = record {
  reached : Reached takes_message (first_draft l.numbered l.fn.notes l.fn.mirror) l.message-items (draft_of l.draft l.notes l.mirror) (drop l.message-index l.message-items);
  fits : Fits l.draft.answers;
  noted : IsNoted l.notes;
  sent : l.notes.record.sent ≡ l.fn.notes.record.sent;
  received : l.notes.record.received ≡ l.fn.notes.record.received;
}
