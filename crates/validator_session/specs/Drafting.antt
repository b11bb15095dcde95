-- The batch that a validator is writing, and the talks of it.
use Rattle.std.specs.Prelude.{ℕ, List, [], ◌++◌, Result, Ok, Err}
use Rattle.validator_core.specs.Held.{Held}
use Rattle.pb_batch.specs.declared.batch.Message.{Message}
use Rattle.pb_batch.specs.declared.kind.BatchKind.{BatchKind}
use Rattle.pb_batch.specs.Written.{written}
use Rattle.session_talk.specs.Talk.{Done, Write, each}
use Rattle.session_talk.specs.Course.{Gives, Breaks}
use Rattle.session_rules.specs.Clauses.{Spoke, Spoken}
use Rattle.session_rules.specs.Following.{Draft, Stand}
use Rattle.session_rules.specs.FollowRules.{Follows, sends}
use Rattle.session_rules.specs.Messages.{server_batch}
use Rattle.session_rules.specs.Taking.{Drafting, NoQuestion, NoReply, takes_message}
use Rattle.validator_session.specs.declared.notes.Notes.{Notes}
use Rattle.validator_session.specs.declared.standing.Standing.{Standing}
use Rattle.validator_session.specs.declared.take.Draft.{Draft as DraftValue}
use Rattle.validator_session.specs.Standing.{notes_of, stand_of}

-- The draft, with what is noted beside it.
abbrev pub draft_of : DraftValue → Notes → Held → Draft
draft_of d notes mirror = record { answers = d.answers; numbered = d.numbered; errors = d.errors; notes = notes_of notes mirror }

-- The talk was held: from the one draft, notes and mirror to the other.
abbrev pub Drafted : {E : Type 0} → Notes → Notes → Held → Held → Drafting → Draft → Result (Unit {0}) E → Type 0
Drafted old new before after talk value result = Spoken {Q = NoQuestion} {R = NoReply} [] [] (notes_of old before) talk value (notes_of new after) result

-- The draft before the first answer.
abbrev pub first_draft : ℕ → Notes → Held → Draft
first_draft numbered notes mirror = record { answers = []; numbered = numbered; errors = []; notes = notes_of notes mirror }

-- The messages were taken, in order.
abbrev pub TookAll : {E : Type 0} → ℕ → Notes → Notes → Held → Held → List Message → Result DraftValue E → Type 0
TookAll numbered old new before after messages (Ok d) =
    Spoke {Q = NoQuestion} {R = NoReply} [] [] (λ replies out. Gives replies (each takes_message (first_draft numbered old before) messages) [] out (draft_of d new after))
TookAll numbered old new before after messages (Err e) =
    Spoke {Q = NoQuestion} {R = NoReply} [] [] (λ replies out. Breaks replies (notes_of old before) (each takes_message (first_draft numbered old before) messages) [] out (notes_of new after))

-- ---- the session

-- The talk was held: from the one standing, mirror and octets that wait to the other.
abbrev pub Goes : {E : Type 0} → Standing → Held → List ℕ → Follows → Standing → Held → List ℕ → Result (Unit {0}) E → Type 0
Goes old before waits talk new after now result = Spoken {Q = NoQuestion} {R = NoReply} waits now (notes_of old.notes before) talk (stand_of new after) (notes_of new.notes after) result

-- The standing, with further codes noted.
abbrev pub with_codes : Stand → List ℕ → Stand
with_codes s codes = record s { notes = record s.notes { errors = s.notes.errors ++ codes } }

-- A batch of the kind with these messages.
abbrev pub writes : Stand → BatchKind → List Message → Follows
writes s kind messages = Write (written (server_batch kind messages)) (Done (sends s kind))
