-- What `replay` prints, of all octets of the input.
use Rattle.std.specs.Prelude.{◌≡◌, ◌+◌, ℕ, zero, suc, Bool, true, false, List, [], ◌∷◌, ◌++◌, Option, Some, None, Ok, length, take, nat_lt, codes, if◌then◌else◌}
use Rattle.std.specs.List.{flat_map}
use Rattle.std.specs.Fmt.{decimal}
use Rattle.hex.specs.Hex.{encode_lower}
use Rattle.wire_base.specs.Stamp.{IsStampAt}
use Rattle.collector_core.specs.declared.book.edit.Edit.{Edit}
use Rattle.collector_core.specs.declared.book.edit.Edit.TheVariants as edit
use Rattle.collector_core.specs.declared.error.BookError.{BookError}
use Rattle.collector_core.specs.declared.error.BookError.TheVariants as refused
use Rattle.session_world.specs.declared.telling.Telling.{Telling}
use Rattle.session_world.specs.declared.telling.Telling.TheVariants.{Refused, Took, CollectorEnds, ValidatorEnds}
use Rattle.session_world.specs.Lines as lines
use Rattle.session_world.specs.Lines.{Told}
use Rattle.session_world.specs.World.{World, begun, is_open, waits_down, waits_up}
use Rattle.command_text.specs.declared.answer.Answer.{Answer}
use Rattle.command_text.specs.declared.ending.Ending.{Ending}
use Rattle.command_text.specs.declared.ending.Ending.TheVariants as ending
use Rattle.session_script.specs.declared.header.Header.{Header}
use Rattle.session_script.specs.declared.line.Line.{Line}
use Rattle.session_script.specs.declared.line.Line.TheVariants as line
use Rattle.command_text.specs.Answer.{limit_answer, refusal_answer}
use Rattle.command_text.specs.Ends.{end_words}
use Rattle.session_script.specs.Script.{HeaderIs, LineIs, split_once, words_of}
use Rattle.command_text.specs.Text.{line as text_line, mirror_text, refusal, took}

-- The most octets of the input, and the most lines.
abbrev pub SCRIPT_OCTETS : ℕ
SCRIPT_OCTETS = 16777216

abbrev pub SCRIPT_LINES : ℕ
SCRIPT_LINES = 100000

-- ---- texts

-- Why the inventory refused a change.
abbrev pub book_words : BookError → List (List ℕ)
book_words (refused.EidsSpent last) = codes "eids-spent" ∷ decimal last ∷ []
book_words (refused.IdsSpent next) = codes "ids-spent" ∷ decimal next ∷ []
book_words (refused.UnknownRecord id) = codes "unknown-record" ∷ decimal id ∷ []
book_words (refused.RecordsFull count) = codes "records-full" ∷ decimal count ∷ []
book_words (refused.BytesFull held given) = codes "bytes-full" ∷ decimal held ∷ decimal given ∷ []
book_words (refused.EpochNotNew latest given) = codes "epoch-not-new" ∷ decimal latest ∷ decimal given ∷ []
book_words (refused.TrimPast last given) = codes "trim-past" ∷ decimal last ∷ decimal given ∷ []
book_words refused.Memory = codes "memory" ∷ []

-- A line of what is reported.
abbrev pub telling_line : Telling → List ℕ
telling_line (Refused error) = text_line (codes "book" ∷ book_words error)
telling_line (Took point count answer) = took point count answer
telling_line (CollectorEnds by) = text_line (codes "collector" ∷ end_words by)
telling_line (ValidatorEnds by) = text_line (codes "validator" ∷ end_words by)

-- Octets as hexadecimal digits, or a dash where there are none.
abbrev pub octets_text : List ℕ → List ℕ
octets_text [] = codes "-"
octets_text (octet ∷ octets) = encode_lower (octet ∷ octets)

-- What waits for the validator, and for the collector, where a session is open.
abbrev pub waits_line : List ℕ → List ℕ → List ℕ
waits_line way octets = text_line (codes "waits" ∷ way ∷ octets_text octets ∷ [])

abbrev pub waits_text : List ℕ → List ℕ → List ℕ
waits_text up down = waits_line (codes "up") up ++ waits_line (codes "down") down

-- ---- a line

-- The world, and how many lines changed the inventory or were refused.
pub record Playing : Type 0 where
  pub world : World
  pub changes : ℕ

-- What a line makes of it, and what is printed.
abbrev pub Played : Type 0
Played = Playing × List ℕ

abbrev pub told_in : ℕ → Told → Played
told_in changes told = (record { world = told.0; changes = changes }, flat_map telling_line told.1)

-- The change of a record that a line says, with a stamp.
abbrev pub Changes : Line → List ℕ → Edit → Type 0
Changes (line.Create content) stamp (edit.Create moment given) = (moment.now ≡ stamp) × (given.now ≡ content)
Changes (line.Alter id content) stamp (edit.Alter moment other given) = (moment.now ≡ stamp) × (other ≡ id) × (given.now ≡ content)
Changes (line.Delete id) stamp (edit.Delete moment other) = (moment.now ≡ stamp) × (other ≡ id)
Changes said stamp change = ⊥

-- A world in which the change that a line says was entered, with the stamp of that second.
pub record IsEntered (said : Line) (second : ℕ) (w : World) (told : Told) : Type 0 where
  pub stamp : List ℕ
  pub stamped : IsStampAt second (Ok stamp)
  pub change : Edit
  pub changes : Changes said stamp change
  pub does : told ≡ lines.enters change w

-- A line that changes records. The stamp is that of as many seconds as there were changes.
abbrev pub Enters : Playing → Line → Played → Type 0
Enters p said after = (told : Told) × IsEntered said (p.changes + 1) p.world told × (after ≡ told_in (p.changes + 1) told)

-- What a line makes, and what is printed of it.
abbrev pub IsPlayed : Playing → Line → Played → Type 0
IsPlayed p (line.Create content) after = Enters p (line.Create content) after
IsPlayed p (line.Alter id content) after = Enters p (line.Alter id content) after
IsPlayed p (line.Delete id) after = Enters p (line.Delete id) after
IsPlayed p (line.Epoch epoch) after = after ≡ told_in (p.changes + 1) (lines.enters (edit.BeginEpoch epoch) p.world)
IsPlayed p (line.Trim first) after = after ≡ told_in (p.changes + 1) (lines.enters (edit.Trim first) p.world)
IsPlayed p line.Open after = after ≡ told_in p.changes (lines.opens p.world)
IsPlayed p (line.Up most) after = after ≡ told_in p.changes (lines.ups most p.world)
IsPlayed p (line.Down most) after = after ≡ told_in p.changes (lines.downs most p.world)
IsPlayed p line.Run after = after ≡ told_in p.changes (lines.runs p.world)
IsPlayed p line.Idle after = after ≡ told_in p.changes (lines.idles p.world)
IsPlayed p line.Cut after = after ≡ told_in p.changes (lines.cuts p.world)
IsPlayed p line.Again after = after ≡ told_in p.changes (lines.again p.world)
IsPlayed p line.Waits after = after ≡ (p, if is_open p.world then waits_text (waits_up p.world) (waits_down p.world) else [])
IsPlayed p line.Show after = after ≡ (p, mirror_text p.world.mirror)

-- ---- a script

-- The line of this number is bad.
abbrev pub bad : ℕ → Answer
bad number = refusal_answer (refusal (codes "script") number)

-- What is printed where no line feed comes any more. `goes_on` says that the input has more octets
-- than may be looked at.
abbrev pub unended : ℕ → Bool → Answer
unended number true = limit_answer SCRIPT_OCTETS
unended number false = bad number

abbrev pub whole : Answer
whole = record { text = []; ending = ending.Whole }

abbrev pub at_end : ℕ → Bool → List ℕ → Answer
at_end number true [] = limit_answer SCRIPT_OCTETS
at_end number false [] = whole
at_end number goes_on (octet ∷ octets) = unended number goes_on

-- After the last line that there may be.
abbrev pub past_lines : ℕ → Bool → List ℕ → Answer
past_lines number goes_on [] = at_end number goes_on []
past_lines number goes_on (octet ∷ octets) = bad number

-- A text before an answer.
abbrev pub after_text : List ℕ → Answer → Answer
after_text text answer = record { text = text ++ answer.text; ending = answer.ending }

-- What is printed of the line of this number, and then of the lines after it by `Next`.
abbrev pub PlaysLine : (Playing → List ℕ → Answer → Type 0) → ℕ → Playing → List ℕ → Option Line → Answer → Type 0
PlaysLine Next number p after None answer = answer ≡ bad number
PlaysLine Next number p after (Some said) answer = (made : Played) × IsPlayed p said made × ((rest : Answer) × Next made.0 after rest × (answer ≡ after_text made.1 rest))

abbrev pub PlaysFirst : (Playing → List ℕ → Answer → Type 0) → ℕ → Bool → Playing → List ℕ → Option (List ℕ × List ℕ) → Answer → Type 0
PlaysFirst Next number goes_on p octets None answer = answer ≡ at_end number goes_on octets
PlaysFirst Next number goes_on p octets (Some parts) answer = (said : Option Line) × LineIs (words_of parts.0) said × PlaysLine Next number p parts.1 said answer

-- What is printed of octets that begin with the line of this number, of which there may be that
-- many.
unfoldable pub Plays : ℕ → ℕ → Bool → Playing → List ℕ → Answer → Type 0
Plays zero number goes_on p octets answer = answer ≡ past_lines number goes_on octets
Plays (suc left) number goes_on p octets answer = PlaysFirst (Plays left (number + 1) goes_on) number goes_on p octets (split_once 10 octets) answer

-- The first line opens an empty inventory and an empty mirror.
abbrev pub opened_by : Header → Playing
opened_by h = record { world = begun (record { max = h.max; subscribe = h.subscribe }) (record { start = record { epoch = h.epoch; cap = h.cap; contents = [] }; entries = [] }) h.kind; changes = 0 }

abbrev pub Begins : Bool → List ℕ → Option Header → Answer → Type 0
Begins goes_on after None answer = answer ≡ bad 1
Begins goes_on after (Some header) answer = Plays 99999 2 goes_on (opened_by header) after answer

abbrev pub PlaysScript : Bool → Option (List ℕ × List ℕ) → Answer → Type 0
PlaysScript goes_on None answer = answer ≡ unended 1 goes_on
PlaysScript goes_on (Some parts) answer = (header : Option Header) × HeaderIs (words_of parts.0) header × Begins goes_on parts.1 header answer

-- The text that is printed of all octets of the input, and how it ends.
abbrev pub ReplayTells : List ℕ → List ℕ → Ending → Type 0
ReplayTells octets text how =
    PlaysScript (nat_lt SCRIPT_OCTETS (length octets)) (split_once 10 (take SCRIPT_OCTETS octets)) (record { text = text; ending = how })
