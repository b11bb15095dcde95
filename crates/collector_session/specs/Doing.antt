-- What a collector did to steps, from the one state to the other.
use Rattle.std.specs.Prelude.{◌≡◌, ◌≢◌, ◌≤◌, ℕ, Bool, true, false, List, Some}
use Rattle.pb_machine.specs.declared.machine.Role.TheVariants.{Client}
use Rattle.pb_machine.specs.declared.machine.State.TheVariants.{End}
use Rattle.collector_core.specs.declared.chronicle.Mark.{Mark}
use Rattle.collector_core.specs.Chronicle.{Chronicle}
use Rattle.session_talk.specs.Talk.{Talk}
use Rattle.session_talk.specs.Course.{Answers, Gives, Breaks}
use Rattle.session_hear.specs.Step.{Step}
use Rattle.session_hear.specs.Serving.{serve}
use Rattle.session_rules.specs.declared.end.SessionEnd.TheVariants as end
use Rattle.session_rules.specs.Clauses.{Talks}
use Rattle.session_rules.specs.Questions.{Question, Reply, at_places}
use Rattle.session_rules.specs.Serving.{Notes, Stand}
use Rattle.session_rules.specs.ServeRules.{note, react}
use Rattle.collector_session.specs.declared.end.ServeEnd.{ServeEnd}
use Rattle.collector_session.specs.Standing.{stand_of}

-- The talk went to its end, or broke off. Before it `last` was noted.
abbrev pub Course : Bool → Answers Question Reply → Notes → Talk Question Reply Notes Stand → List ℕ → List ℕ → Stand → Type 0
Course true answers last talk places out stand = Gives answers talk places out stand
Course false answers last talk places out stand = Breaks answers last talk places out (note stand)

-- It can take the next batch: the machine is that of a client and not at its end.
pub record IsReady (end : ServeEnd) : Type 0 where
  pub role : end.standing.machine.role ≡ Client
  pub live : end.standing.machine.state ≢ End
  pub max : end.config.max ≤ 16000000

-- How an end stands.
abbrev pub standing : ServeEnd → Stand
standing end = stand_of end.standing

module _ {D : Type 0} (stands : D → Chronicle → Type 0) (went : D → List Mark → D → Type 0) where
  pub record Did (one : ServeEnd) (first : D) (steps : List Step) (two : ServeEnd) (second : D) (well : Bool) : Type 0 where
    pub config : two.config ≡ one.config
    pub sent : two.standing.record.sent ≡ one.standing.record.sent
    pub received : two.standing.record.received ≡ one.standing.record.received
    pub taken : two.standing.record.taken ≡ one.standing.record.taken
    pub own : one.standing.over ≢ Some end.LinkFault → two.standing.over ≢ Some end.LinkFault
    pub talks : Talks stands went first second one.out two.out (λ chronicle places out.
        Course well (at_places chronicle) (note (standing one)) (serve (react one.config) note (standing one) steps) places out (standing two))
