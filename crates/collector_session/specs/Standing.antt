-- How a collector stands, and the batch that it is writing, by what the code keeps.
use Rattle.std.specs.Prelude.{◌≡◌, ◌⊎◌, ◌++◌, ℕ, List, Result, Ok, Err, [], None, length}
use Rattle.pb_machine.specs.declared.machine.Role.TheVariants.{Client}
use Rattle.pb_machine.specs.declared.machine.State.TheVariants.{Init}
use Rattle.session_rules.specs.declared.record.SessionRecord.{SessionRecord}
use Rattle.swima_model.specs.declared.report.Point.{Point}
use Rattle.session_rules.specs.Numbers.{counted_on}
use Rattle.session_rules.specs.Serving.{Notes, Stand, Draft as DraftStand}
use Rattle.collector_session.specs.declared.draft.Draft.{Draft}
use Rattle.collector_session.specs.declared.standing.Standing.{Standing}

-- Before the session.
abbrev pub not_begun : Standing
not_begun = record { machine = record { role = Client; state = Init }; subs = []; numbered = 0; «record» = record { points = []; taken = []; errors = []; reports = 0; sent = 0; received = 0 }; over = None }

-- What is noted, without the octets that were given and taken.
abbrev pub notes_of : SessionRecord → Notes
notes_of r = record { points = r.points; errors = r.errors; reports = r.reports }

-- The standing.
abbrev pub stand_of : Standing → Stand
stand_of s = record { machine = s.machine; subs = s.subs; numbered = s.numbered; notes = notes_of s.record; over = s.over }

-- The batch that is being written.
abbrev pub draft_of : Draft → DraftStand
draft_of d = record { subs = d.subs; earlier = d.earlier; room = d.room; attrs = d.attrs; messages = d.messages; numbered = d.numbered; points = d.points; errors = d.errors }

-- The codes of Errors are noted and then the points of reports; or memory ran out before the one or
-- before the other.
abbrev pub Noted : {T E : Type 0} → SessionRecord → List ℕ → List Point → SessionRecord → Result T E → Type 0
Noted old errors points new (Ok done) = new ≡ record old { errors = old.errors ++ errors; points = old.points ++ points; reports = counted_on old.reports (length points) }
Noted old errors points new (Err error) = (new ≡ old) ⊎ (new ≡ record old { errors = old.errors ++ errors })
