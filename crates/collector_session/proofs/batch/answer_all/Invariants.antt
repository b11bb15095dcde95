-- The messages so far were answered, by at most one message each.
use Rattle.std.proofs.Common.{◌≡◌, ◌≤◌, [], length, take}
use Rattle.session_talk.specs.Talk.{each}
use Rattle.session_rules.specs.Answering.{answers_message}
use Rattle.collector_session.specs.Sizes.{Fits}
use Rattle.collector_session.specs.Standing.{draft_of}
use Rattle.collector_session.proofs.Each.{Held}
use Rattle.collector_session.proofs.batch.answer_all.Given as goal

abbrev pub invariant-loop-message : goal.invariant-loop-message
invariant-loop-message g l = record {
  held : Held g.D.Desk.stands g.D.Desk.went l.fn.desk l.desk (each answers_message (draft_of l.fn.draft) (take l.message-index l.message-items)) (draft_of l.draft);
  fits : Fits l.draft;
  none : l.draft.attrs ≡ [];
  few : length l.draft.messages ≤ l.message-index;
}
