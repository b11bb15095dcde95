-- The day of an endpoint that `make` plays, and what it prints. The day is our own.
use Rattle.std.specs.Prelude.{◌≡◌, ◌≤◌, ◌==◌, ◌+◌, ◌/◌, ◌%◌, ℕ, zero, suc, Bool, true, false, List, [], ◌∷◌, ◌++◌, Option, Some, None, length, filter, codes, if◌then◌else◌}
use Rattle.std.specs.Fmt.{decimal}
use Rattle.hex.specs.Hex.{encode_lower}
use Rattle.sha2.specs.Sha256.{sha256}
use Rattle.swima_model.specs.declared.report.Kind.TheVariants.{Full}
use Rattle.swima_model.specs.declared.report.Point.{Point}
use Rattle.validator_core.specs.declared.mirror.Taken.{Taken}
use Rattle.validator_core.specs.declared.mirror.Taken.TheVariants as taken
use Rattle.validator_core.specs.Held.{Held}
use Rattle.session_world.specs.declared.telling.Telling.{Telling}
use Rattle.session_world.specs.declared.telling.Telling.TheVariants.{Took}
use Rattle.session_world.specs.Lines.{Told, and_on, cuts, opens, round, runs, ups}
use Rattle.session_world.specs.World.{World, begun, carried_up, waits_up}
use Rattle.session_script.specs.declared.line.Line.{Line}
use Rattle.session_script.specs.declared.line.Line.TheVariants as said
use Rattle.session_day.specs.Package.{package_content, packages}
use Rattle.session_script.specs.Replay.{IsEntered}
use Rattle.command_text.specs.Text.{line, mirror_text, refusal}

-- ---- the day

-- A day has that many packages. They suffice for each change to find the one that it changes.
abbrev pub IsCount : ℕ → Type 0
IsCount count = (40 ≤ count) × (count ≤ 5000)

-- In the morning all packages are there, in an inventory of epoch 1 that keeps 1,024 events, and no
-- session was held. The mirror is of the kind Full.
abbrev pub morning : ℕ → World
morning count = begun (record { max = 16000000; subscribe = false }) (record { start = record { epoch = 1; cap = 1024; contents = packages count 1 count }; entries = [] }) Full

-- The first session, until nothing waits.
abbrev pub first_session : ℕ → Told
first_session count = and_on (opens (morning count)) runs

-- A change, by its number: a package is deleted, added, or gets another tag.
abbrev pub day_change : ℕ → ℕ → Line
day_change count number =
    if number % 4 == 0 then said.Delete number
    else (if number % 4 == 3 then said.Create (package_content count (count + number) 0)
    else said.Alter number (package_content count number number))

-- One change, with the stamp of as many seconds.
abbrev pub IsChanged : ℕ → ℕ → World → Told → Type 0
IsChanged count number w told = IsEntered (day_change count number) number w told

-- That many changes, from this one on.
unfoldable pub AreChanged : ℕ → ℕ → ℕ → World → Told → Type 0
AreChanged count zero number w told = told ≡ (w, [])
AreChanged count (suc more) number w told =
    (one : Told) × IsChanged count number w one × ((others : Told) × AreChanged count more (number + 1) one.0 others × (told ≡ (others.0, one.1 ++ others.1)))

-- Half of the octets that wait are carried to the validator, rounded down.
abbrev pub half_up : World → Told
half_up w = ups (length (waits_up w) / 2) w

-- A session that is cut in the middle of its report, and then a whole one.
abbrev pub last_sessions : World → Told
last_sessions w = and_on (and_on (and_on (and_on (and_on (opens w) round) half_up) cuts) opens) runs

-- ---- the summary

-- A report was taken.
abbrev pub is_report : Telling → Bool
is_report (Took point count answer) = true
is_report other = false

abbrev pub is_adopted : Taken → Bool
is_adopted taken.Adopted = true
is_adopted other = false

-- A report was taken and adopted: all records of the mirror are new.
abbrev pub is_full : Telling → Bool
is_full (Took point count answer) = is_adopted answer
is_full other = false

-- How many of what was reported are so.
abbrev pub count_of : (Telling → Bool) → List Telling → ℕ
count_of so told = length (filter so told)

-- The point of the mirror.
abbrev pub point_line : Option Point → List ℕ
point_line None = line (codes "point" ∷ codes "none" ∷ [])
point_line (Some point) = line (codes "point" ∷ decimal point.epoch ∷ decimal point.eid ∷ [])

-- A word and the SHA-256 digest of octets (FIPS 180-4) in hexadecimal digits.
abbrev pub digest_line : List ℕ → List ℕ → List ℕ
digest_line word octets = line (word ∷ encode_lower (sha256 octets) ∷ [])

-- The reports that were taken and those of them that were adopted, the mirror at the end, and the
-- digests of the octets of the first session and of the mirror's text.
abbrev pub summary : ℕ → List Telling → List ℕ → Held → List ℕ
summary count told octets mirror =
    refusal (codes "make") count ++ (refusal (codes "reports") (count_of is_report told) ++ (refusal (codes "full") (count_of is_full told) ++ (point_line mirror.point
    ++ (refusal (codes "records") (length mirror.records) ++ (digest_line (codes "octets") octets ++ digest_line (codes "digest") (mirror_text mirror))))))

-- What is printed of the day of that many packages.
pub record MakeTells (count : ℕ) (printed : List ℕ) : Type 0 where
  pub changed : Told
  pub are : AreChanged count 40 1 (first_session count).0 changed
  pub text : printed ≡ summary count ((first_session count).1 ++ (changed.1 ++ (last_sessions changed.0).1)) (carried_up (first_session count).0) (last_sessions changed.0).0.mirror
