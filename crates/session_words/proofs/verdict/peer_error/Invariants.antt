-- No message that was passed ends the session.
use Rattle.std.proofs.Common.{◌≡◌, drop}
use Rattle.session_rules.specs.Verdict.{peer_error}
use Rattle.session_words.proofs.verdict.peer_error.Given as goal

abbrev pub invariant-loop-message : goal.invariant-loop-message
invariant-loop-message l = peer_error l.closing l.messages ≡ peer_error l.closing (drop l.message-index l.messages)
