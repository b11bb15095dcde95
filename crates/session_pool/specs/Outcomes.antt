-- What came of the workers of a pool.
use Rattle.std.specs.Prelude.{◌≡◌, Bool, true, false, List, map}
use Rattle.std.specs.List.{list_any}
use Rattle.session_door.specs.declared.work.Stop.{Stop}
use Rattle.session_door.specs.declared.work.Stop.TheVariants as stop
use Rattle.session_door.specs.declared.work.Work.{Work}
use Rattle.session_door.specs.Visits.{Noted, is_failed}

-- Memory ran out for what is noted of a session.
abbrev pub ran_out : Stop → Bool
ran_out stop.Memory = true
ran_out stop.Done = false
ran_out stop.Ended = false
ran_out stop.Failed = false

-- What is noted of the sessions of each door; and whether each failed.
abbrev pub ends_of : List Work → List (List Noted)
ends_of works = map (λ (work : Work). work.ends) works

abbrev pub failed_of : List Work → List Bool
failed_of works = map (λ (work : Work). is_failed work.stop) works

-- Whether memory ran out for one of them.
abbrev pub one_ran_out : List Work → Bool
one_ran_out works = list_any (λ (work : Work). ran_out work.stop) works

-- What came of all of them, for none of which memory ran out.
abbrev pub CameOf : List Work → List (List Noted) → List Bool → Type 0
CameOf works ends failed = (ends ≡ ends_of works) × (failed ≡ failed_of works) × (one_ran_out works ≡ false)
