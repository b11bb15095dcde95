-- Recovery: after a report that does not fit, each request of a validator is for the inventory,
-- until its mirror has adopted one (RFC 8412, section 3.7.6, of gaps and of other epochs).
use Rattle.std.specs.Prelude.{◌≡◌, ◌≢◌, ◌⊎◌, ℕ, true, List, ◌∷◌, ◌++◌}
use Rattle.std.specs.List.{AllByRecursion}
use Rattle.wire_base.specs.Turns.{Turn}
use Rattle.validator_core.specs.declared.mirror.Taken.TheVariants as taken
use Rattle.validator_core.specs.Held.{Held}
use Rattle.validator_core.specs.Recovery.{SetsMark}
use Rattle.session_talk.specs.Keeping.{Writes}
use Rattle.session_rules.specs.declared.config.FollowConfig.{FollowConfig}
use Rattle.session_rules.specs.Following.{Notes, Stand, TakenReport, nothing_noted}
use Rattle.session_rules.specs.FollowRules.{session}
use Rattle.session_rules.specs.Wanted.{AsksFor, AsksNot}

-- None of the reports was adopted.
abbrev pub NoneAdopted : List TakenReport → Type 0
NoneAdopted reports = AllByRecursion (λ (report : TakenReport). report.answer ≢ taken.Adopted) reports

-- The answer to one of the reports set the mark, and none after it was adopted.
pub record SetSince (reports : List TakenReport) : Type 0 where
  pub earlier : List TakenReport
  pub report : TakenReport
  pub later : List TakenReport
  pub are : reports ≡ earlier ++ report ∷ later
  pub sets : SetsMark report.answer
  pub none : NoneAdopted later

-- An inventory is due: the mark was set in the session, or in one before it, and the mirror has
-- adopted none since. The reports of the session are those that are noted.
abbrev pub IsDue : Held → Notes → Type 0
IsDue mirror notes = SetSince notes.taken_reports ⊎ ((mirror.off ≡ true) × NoneAdopted notes.taken_reports)

-- A batch with one request, which is for the inventory.
abbrev pub AsksForAll : FollowConfig → Held → List ℕ → Type 0
AsksForAll c mirror octets = (asked : AsksFor c mirror octets) × (asked.request.earliest ≡ 0)

-- Where it is due, a batch has such a request, or none.
abbrev pub AsksWhileDue : FollowConfig → Held → Notes → List ℕ → Type 0
AsksWhileDue c mirror notes octets = IsDue mirror notes → AsksForAll c notes.mirror octets ⊎ AsksNot octets

-- Where it is due at the end of the session, the mark is set then. So it is due in the next one.
abbrev pub MarkedWhileDue : Held → Notes → Stand → Type 0
MarkedWhileDue mirror notes stand = IsDue mirror notes → stand.notes.mirror.off ≡ true

-- Each batch of a session is so, and so is its end.
abbrev pub RecoversInSessions : Type 0
RecoversInSessions = (c : FollowConfig) (mirror : Held) (turns : List Turn) → Writes (AsksWhileDue c mirror) (MarkedWhileDue mirror) (nothing_noted mirror) (session c mirror turns)
