-- The subscriptions so far were fulfilled or ended, by at most one attribute each. Those that are
-- left are as they were, from the place on.
use Rattle.std.proofs.Common.{◌≡◌, ◌≤◌, drop, length, take}
use Rattle.session_talk.specs.Talk.{each}
use Rattle.session_rules.specs.Answering.{renews_one}
use Rattle.collector_session.specs.Sizes.{Fits}
use Rattle.collector_session.specs.Standing.{draft_of}
use Rattle.collector_session.proofs.Each.{Held}
use Rattle.collector_session.proofs.renew.renew_all.Given as goal

abbrev pub invariant-loop : goal.invariant-loop
invariant-loop g l = record {
  held : Held g.D.Desk.stands g.D.Desk.went l.fn.desk l.desk (each (renews_one l.config) (draft_of l.fn.draft) (take l.counter (take l.count l.fn.draft.subs))) (draft_of l.draft);
  left : drop l.place l.draft.subs ≡ drop l.counter l.fn.draft.subs;
  fits : Fits l.draft;
  few : length l.draft.attrs ≤ l.counter;
  messages : l.draft.messages ≡ l.fn.draft.messages;
}
