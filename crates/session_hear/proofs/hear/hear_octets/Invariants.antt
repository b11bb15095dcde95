-- What was heard of the piece so far was done, and the rest is left.
use Rattle.std.proofs.Common.{◌≡◌, ℕ, false, None, length}
use Rattle.wire_base.specs.Feeding.{More}
use Rattle.pb_batch.specs.Front.{front_of}
use Rattle.session_hear.proofs.Reaching.{Reached}
use Rattle.session_hear.proofs.hear.hear_octets.Given as goal

abbrev pub invariant-loop-rest : goal.invariant-loop-rest
invariant-loop-rest g l = record {
  reached : (quiet count : ℕ) → Reached l.fn.feed.from_server g.E.End.did quiet count l.fn.end l.fn.beside l.end l.beside l.fn.feed.feeding.octets l.fn.piece l.feed.feeding.octets l.rest;
  live : g.E.End.over l.end ≡ false;
  ready : g.E.End.ready l.end;
  feeding : l.feed.feeding.stopped ≡ None;
  torn : front_of l.feed.from_server l.feed.feeding.octets ≡ More;
  direction : l.feed.from_server ≡ l.fn.feed.from_server;
}

abbrev pub decreases-loop-rest : goal.decreases-loop-rest
decreases-loop-rest g l = length l.rest
