-- What stays true along a talk.
use Rattle.std.specs.Prelude.{◌≡◌, ◌⊎◌, ℕ, List, [], ◌∷◌, ◌++◌}
use Rattle.session_talk.specs.Talk.{Talk, Done, Ask, Write, Note}
use Rattle.session_talk.specs.Course.{Answers, Stops}

-- As long as each note is as `given` says, it is as `kept` says, and the talk comes to a value of
-- which `then_so` is true.
abbrev pub Keeps : {Q : Type 0} {R : Q → Type 0} {N A : Type 0} → (N → Type 0) → (N → Type 0) → (A → Type 0) → Talk Q R N A → Type 0
Keeps given kept then_so (Done value) = then_so value
Keeps given kept then_so (Ask question talk) = (reply : _) → Keeps given kept then_so (talk reply)
Keeps given kept then_so (Write octets talk) = Keeps given kept then_so talk
Keeps given kept then_so (Note note talk) = given note → kept note × Keeps given kept then_so talk

-- Each note that is made in asking at these places is as `given` says.
abbrev pub NotesAre : {Q : Type 0} {R : Q → Type 0} {N A : Type 0} → Answers Q R → (N → Type 0) → Talk Q R N A → List ℕ → Type 0
NotesAre answers given (Done value) places = Unit {0}
NotesAre answers given (Ask question talk) [] = Unit {0}
NotesAre answers given (Ask question talk) (place ∷ places) = NotesAre answers given (talk (answers place question)) places
NotesAre answers given (Write octets talk) places = NotesAre answers given talk places
NotesAre answers given (Note note talk) places = given note × NotesAre answers given talk places

-- The talk breaks off as `Breaks` says, and each note that it made until then is as `given` says.
abbrev pub BreaksWith : {Q : Type 0} {R : Q → Type 0} {N A : Type 0} → Answers Q R → (N → Type 0) → N → Talk Q R N A → List ℕ → List ℕ → N → Type 0
BreaksWith answers given last (Done value) places out noted = Stops last places out noted
BreaksWith answers given last (Ask question talk) [] out noted = Stops last [] out noted
BreaksWith answers given last (Ask question talk) (place ∷ places) out noted = BreaksWith answers given last (talk (answers place question)) places out noted
BreaksWith answers given last (Write octets talk) places out noted =
    Stops last places out noted ⊎ ((rest : List ℕ) × (out ≡ octets ++ rest) × BreaksWith answers given last talk places rest noted)
BreaksWith answers given last (Note note talk) places out noted = Stops last places out noted ⊎ (given note × BreaksWith answers given note talk places out noted)

-- What is written along a talk is as `so` says, by what was noted last before it, and the talk
-- comes to a value of which `then_so` is true by what was noted last then. Before it `last` was
-- noted.
abbrev pub Writes : {Q : Type 0} {R : Q → Type 0} {N A : Type 0} → (N → List ℕ → Type 0) → (N → A → Type 0) → N → Talk Q R N A → Type 0
Writes so then_so last (Done value) = then_so last value
Writes so then_so last (Ask question talk) = (reply : _) → Writes so then_so last (talk reply)
Writes so then_so last (Write octets talk) = so last octets × Writes so then_so last talk
Writes so then_so last (Note note talk) = Writes so then_so note talk
