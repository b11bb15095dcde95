-- What the words print and read, from what their command did.
use Rattle.std.proofs.Common.{◌≡◌, ◌≢◌, ◌∙◌, ap, ℕ, [], List, Option, Some, None, Result, Ok, Err, inl, inr, refl}
use Rattle.std.specs.Prelude.{IfSome}
use Rattle.std.proofs.lemmas.List.{append-nil}
use Rattle.wire_base.specs.NamedFile.{Read}
use Rattle.wire_base.specs.Passing.{AddsFront}
use Rattle.wire_base.specs.declared.outside.stopped.Stopped.{Stopped}
use Rattle.wire_base.specs.declared.outside.stopped.Stopped.TheVariants as stopped
use Rattle.swima_model.specs.declared.report.Kind.{Kind}
use Rattle.swid_cli.specs.declared.command.Command.{Command}
use Rattle.swid_cli.specs.declared.command.Command.TheVariants as command
use Rattle.command_text.specs.declared.ending.Ending.{Ending}
use Rattle.swid_cli.specs.Commands.{Says}
use Rattle.swid_cli.specs.Printing.{CommandReads, PrintsAll, PrintsPart, WordsRead, of_input, of_nothing}
use Rattle.swid_cli.specs.Run.{Prints, Ran, ending_status, status_of}
use Rattle.swid_cli.specs.Stream.{Printed, stream_text}
use Rattle.swid_cli.specs.TagReads.{TagReads}
use Rattle.swid_cli.specs.Making.{RanMaking}
use Rattle.session_day.specs.Day.{MakeTells}
use Rattle.swid_cli.specs.declared.command.Scope.{Scope}
use Rattle.swid_cli.specs.declared.command.Scope.TheVariants as scope

-- What `mirror` printed is the text of the stream.
pub mirror_prints : (kind : Kind) (told left-after before after : Option (List ℕ)) (status : ℕ)
    → IfSome told (λ octets. Prints (stream_text kind octets) left-after before after status)
    → IfSome told (λ octets. (printed : Printed) × (printed ≡ stream_text kind octets) × Prints printed left-after before after status)
mirror_prints kind None left-after before after status prints = tt
mirror_prints kind (Some octets) left-after before after status prints = (stream_text kind octets, refl, prints)

-- A prefix of the text of the stream was printed, however the command ended.
pub mirror_begins : (kind : Kind) (told left-after before after : Option (List ℕ)) (result : Result Ending Stopped)
    → IfSome told (λ octets. Ran (stream_text kind octets) left-after before after result) → PrintsPart (of_input (λ octets printed. printed ≡ stream_text kind octets)) told before after
mirror_begins kind None left-after before after result ran = tt
mirror_begins kind (Some octets) left-after before after (Ok how) ran =
    inr (stream_text kind octets, refl, ([], record { front = (stream_text kind octets).text; parts = append-nil (stream_text kind octets).text; wrote = ran.0 }))
mirror_begins kind (Some octets) left-after before after (Err stop) ran = inr (stream_text kind octets, refl, ran)

-- The reads of `tag`, with `verify` or without.
pub tag_reads : (looked_at : Scope) (told : Option (List ℕ)) (result : Result Ending Stopped) (before after : Option (List Read))
    → (looked_at ≡ scope.Files → IfSome told (λ octets. TagReads octets result before after)) → (looked_at ≡ scope.Tag → after ≡ before)
    → IfSome told (λ octets. CommandReads (command.Tag looked_at) octets result before after)
tag_reads looked_at None result before after reads none = tt
tag_reads scope.Files (Some octets) result before after reads none = reads refl
tag_reads scope.Tag (Some octets) result before after reads none = none refl

-- A command that looks at no file made no read.
pub no_reads : (told : Option (List ℕ)) (result : Result Ending Stopped) (before after : Option (List Read)) → after ≡ before → IfSome told (λ octets. after ≡ before)
no_reads None result before after same = tt
no_reads (Some octets) result before after same = same

-- The reads of a command that ended so.
pub words_read : (words : List (List ℕ)) (which : Command) → Says which words → (told : Option (List ℕ)) (result : Result Ending Stopped) (status : ℕ) → status ≡ status_of result → (before after : Option (List Read))
    → IfSome told (λ octets. CommandReads which octets result before after) → IfSome told (λ octets. WordsRead words octets status before after)
words_read words which said None result status is before after reads = tt
words_read words which said (Some octets) result status is before after reads = record { command = which; said = said; ended = result; shows = is; reads = reads }

-- ---- `make`

-- It stopped before it printed anything.
pub made_nothing : (count : ℕ) (before after : Option (List ℕ)) (result : Result Ending Stopped) (stop : Stopped) → result ≡ Err stop → after ≡ before → RanMaking count before after result
made_nothing count before after result stop ended still = rw ended (inl still)

-- It stopped where a prefix of a text was printed.
pub made_front : (count : ℕ) (before after : Option (List ℕ)) (text : List ℕ) (result : Result Ending Stopped) (stop : Stopped) → result ≡ Err stop → MakeTells count text → AddsFront before after text
    → RanMaking count before after result
made_front count before after text result stop ended tells front = rw ended (inr (text, tells, front))

-- It printed all of a text, with its status.
pub made_prints : (count : ℕ) (before after : Option (List ℕ)) (result : Result Ending Stopped) (status : ℕ) → status ≡ status_of result → status ≢ 3 → status ≢ 4
    → RanMaking count before after result → PrintsAll (of_nothing (MakeTells count)) None None before after status
made_prints count before after (Ok how) status is fault memory ran = (ran.1.0, ran.1.1, ran.1.2, is ∙ ap ending_status ran.0)
made_prints count before after (Err stopped.Fault) status is fault memory ran = absurd (fault is)
made_prints count before after (Err stopped.Memory) status is fault memory ran = absurd (memory is)

-- However it ended, it printed nothing, or a prefix of a text.
pub made_begins : (count : ℕ) (before after : Option (List ℕ)) (result : Result Ending Stopped) → RanMaking count before after result → PrintsPart (of_nothing (MakeTells count)) None before after
made_begins count before after (Ok how) ran = inr (ran.1.0, ran.1.1, ([], record { front = ran.1.0; parts = append-nil ran.1.0; wrote = ran.1.2 }))
made_begins count before after (Err stop) ran = ran
