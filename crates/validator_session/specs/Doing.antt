-- What a validator did to steps, from the one state to the other.
use Rattle.std.specs.Prelude.{◌≡◌, ◌⊎◌, ℕ, Bool, true, false, List, [], Some}
use Rattle.validator_core.specs.Held.{Held}
use Rattle.session_talk.specs.Talk.{Talk}
use Rattle.session_talk.specs.Course.{Answers, Gives, Breaks}
use Rattle.session_hear.specs.Step.{Step}
use Rattle.session_hear.specs.Serving.{serve}
use Rattle.session_rules.specs.Clauses.{Spoke}
use Rattle.session_rules.specs.Following.{Notes, Stand}
use Rattle.session_rules.specs.declared.end.SessionEnd.TheVariants as end
use Rattle.session_rules.specs.FollowRules.{idles, note, react}
use Rattle.session_rules.specs.Taking.{NoQuestion, NoReply}
use Rattle.validator_session.specs.declared.end.FollowEnd.{FollowEnd}
use Rattle.validator_session.specs.Noting.{IsNoted}
use Rattle.validator_session.specs.Ready.{CanGoOn}
use Rattle.validator_session.specs.Standing.{stand_of}

-- The talk went to its end, or broke off. Before it `last` was noted.
abbrev pub Course : Bool → Answers NoQuestion NoReply → Notes → Talk NoQuestion NoReply Notes Stand → List ℕ → Stand → Type 0
Course true answers last talk out stand = Gives answers talk [] out stand
Course false answers last talk out stand = Breaks answers last talk [] out (note stand)

-- It can take the next batch.
pub record IsReady (end : FollowEnd) : Type 0 where
  pub goes_on : CanGoOn end.standing end.config.rounds
  pub noted : IsNoted end.standing.notes

-- How an end stands with a mirror.
abbrev pub standing : FollowEnd → Held → Stand
standing end mirror = stand_of end.standing mirror

pub record Did (one : FollowEnd) (first : Held) (steps : List Step) (two : FollowEnd) (second : Held) (well : Bool) : Type 0 where
  pub config : two.config ≡ one.config
  pub sent : two.standing.notes.record.sent ≡ one.standing.notes.record.sent
  pub received : two.standing.notes.record.received ≡ one.standing.notes.record.received
  pub noted : IsNoted one.standing.notes → IsNoted two.standing.notes
  pub talks : Spoke {Q = NoQuestion} {R = NoReply} one.out two.out (λ replies out.
      Course well replies (note (standing one first)) (serve (react one.config) note (standing one first) steps) out (standing two second))

-- What the rules say to an idle turn was done; or memory ran out on the way, which ended the
-- session.
abbrev pub Idled : FollowEnd → Held → ℕ → FollowEnd → Type 0
Idled one mirror turns two =
    Spoke {Q = NoQuestion} {R = NoReply} one.out two.out (λ replies out. Gives replies (idles one.config (standing one mirror) turns) [] out (standing two mirror))
    ⊎ ((two.standing.over ≡ Some end.Memory) × Spoke {Q = NoQuestion} {R = NoReply} one.out two.out (λ replies out. Breaks replies (note (standing one mirror)) (idles one.config (standing one mirror) turns) [] out (note (standing two mirror))))
