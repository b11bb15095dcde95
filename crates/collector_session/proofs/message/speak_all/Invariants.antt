-- The words so far were answered, by at most one attribute each.
use Rattle.std.proofs.Common.{◌≡◌, ◌≤◌, length, take}
use Rattle.session_talk.specs.Talk.{each}
use Rattle.session_rules.specs.Answering.{speaks}
use Rattle.collector_session.specs.Sizes.{Fits}
use Rattle.collector_session.specs.Standing.{draft_of}
use Rattle.collector_session.proofs.Each.{Held}
use Rattle.collector_session.proofs.message.speak_all.Given as goal

abbrev pub invariant-loop-word : goal.invariant-loop-word
invariant-loop-word g l = record {
  held : Held g.D.Desk.stands g.D.Desk.went l.fn.desk l.desk (each speaks (draft_of l.fn.draft) (take l.word-index l.word-items)) (draft_of l.draft);
  fits : Fits l.draft;
  few : length l.draft.attrs ≤ l.word-index;
  messages : l.draft.messages ≡ l.fn.draft.messages;
  room : l.draft.room ≤ l.fn.draft.room;
}
