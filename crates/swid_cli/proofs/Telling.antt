-- What was read of the input decides what a command prints that reads all of it first.
use Rattle.std.proofs.Common.{◌≡◌, ◌≢◌, ℕ, ◌+◌, ◌<◌, ◌≤◌, List, [], ◌++◌, length, take, drop, length-append, Option, Some, None, Result, Ok, Err, refl, sym, ap, subst, ◌∙◌, arith, inl, inr}
use Rattle.std.specs.Prelude.{IfSome}
use Rattle.std.proofs.lemmas.Bool.{cases_lt}
use Rattle.std.proofs.lemmas.List.{append-nil, drop_all, take-append-le}
use Rattle.wire_base.specs.Outside.{Adds}
use Rattle.wire_base.specs.Passing.{AddsFront, Fills}
use Rattle.wire_base.specs.declared.outside.stopped.Stopped.{Stopped}
use Rattle.wire_base.specs.declared.outside.stopped.Stopped.TheVariants as stopped
use Rattle.command_text.specs.declared.ending.Ending.{Ending}
use Rattle.command_text.specs.declared.ending.Ending.TheVariants as ending
use Rattle.swid_cli.specs.Run.{Prints, status_of}
use Rattle.swid_cli.specs.Stream.{Printed}
use Rattle.swid_cli.specs.Telling.{IsTold, PrintsFront, RanTelling}
use Rattle.swid_cli.proofs.Fronts.{HasRead, first_read, rest_is}
use Rattle.swid_cli.proofs.Running.{prints_of}

module _ (most : ℕ) (Tells : List ℕ → List ℕ → Ending → Type 0) where
  -- Of more octets than the input may have, what is reported is that of any that begin with as many
  -- as it may have, and are more too.
  abbrev pub IsWide : Type 0
  IsWide = (held octets text : List ℕ) (how : Ending) → most < length held → most < length octets → take most held ≡ take most octets → Tells held text how → Tells octets text how

  -- Where nothing is wrong, the input is no longer than it may be.
  abbrev pub IsSound : Type 0
  IsSound = (octets text : List ℕ) (how : Ending) → Tells octets text how → how ≡ ending.Whole → length octets ≤ most

  abbrev printed_of : List ℕ → List ℕ → Ending → Printed
  printed_of octets text how = record { text = text; ending = how; left = drop (most + 1) octets }

  -- What was read is a prefix of all.
  same_front : (octets held rest : List ℕ) → octets ≡ held ++ rest → length held ≡ most + 1 → take most held ≡ take most octets
  same_front octets held rest parts count = sym (take-append-le most held rest (omega (arith, count))) ∙ ap (λ (o : List ℕ). take most o) (sym parts)

  -- What was read reports what is printed of all, and what is left.
  pub told_of : IsWide → (octets : List ℕ) (left : Option (List ℕ)) (held text : List ℕ) (how : Ending) (read : HasRead (most + 1) octets left held) → Tells held text how
      → Tells octets text how × (left ≡ Some (drop (most + 1) octets))
  told_of wide octets left held text how read tells =
      let size : length octets ≡ length held + length read.rest = ap (λ (o : List ℕ). length o) read.parts ∙ length-append held read.rest in
      elim (cases_lt (length held) (most + 1)) [
        | inl short ↦
            let all : octets ≡ held = read.parts ∙ ap (λ (o : List ℕ). held ++ o) (read.ended short) ∙ append-nil held in
            let within : length octets ≤ most + 1 = omega (arith, short, ap (λ (o : List ℕ). length o) all) in (
              subst (λ (o : List ℕ). Tells o text how) (sym all) tells,
              read.still ∙ ap (λ (o : List ℕ). Some o) (read.ended short ∙ sym (drop_all (most + 1) octets within)),
            )
        | inr long ↦
            let count : length held ≡ most + 1 = omega (arith, long, read.within) in (
              wide held octets text how (omega (arith, count)) (omega (arith, count, size)) (same_front octets held read.rest read.parts count) tells,
              read.still ∙ ap (λ (o : List ℕ). Some o) (rest_is octets held read.rest read.parts ∙ ap (λ (n : ℕ). drop n octets) count),
            )
      ]

  -- The octets that were left, of which nothing was held before.
  pub read_of : (want : ℕ) (octets none held : List ℕ) (left : Option (List ℕ)) → want ≡ most + 1 → none ≡ [] → Fills want (Some octets) left none held → HasRead (most + 1) octets left held
  read_of want octets none held left is empty fills = first_read (most + 1) want octets none held (Some octets) left is empty refl fills

  -- A text that was printed whole.
  pub ran_whole : IsWide → (told left before after : Option (List ℕ)) (want : ℕ) (none held text : List ℕ) (how : Ending) → want ≡ most + 1 → none ≡ [] → Fills want told left none held
      → Tells held text how → Adds before after text → IfSome told (λ octets. RanTelling most Tells octets left before after (Ok how))
  ran_whole wide None left before after want none held text how is empty fills tells adds = tt
  ran_whole wide (Some octets) left before after want none held text how is empty fills tells adds =
      let all = told_of wide octets left held text how (read_of want octets none held left is empty fills) tells in
      (printed_of octets text how, record { told = all.0; left = refl }, (adds, refl, all.1))

  -- A text of which a prefix was printed.
  pub ran_front : IsWide → (told left before after : Option (List ℕ)) (want : ℕ) (none held text : List ℕ) (how : Ending) (result : Result Ending Stopped) (stop : Stopped) → result ≡ Err stop
      → want ≡ most + 1 → none ≡ [] → Fills want told left none held → Tells held text how → AddsFront before after text
      → IfSome told (λ octets. RanTelling most Tells octets left before after result)
  ran_front wide None left before after want none held text how result stop ended is empty fills tells front = tt
  ran_front wide (Some octets) left before after want none held text how result stop ended is empty fills tells front =
      let all = told_of wide octets left held text how (read_of want octets none held left is empty fills) tells in
      rw ended (inr (printed_of octets text how, record { told = all.0; left = refl }, front))

  -- Nothing was printed.
  pub ran_nothing : (told left before after : Option (List ℕ)) (result : Result Ending Stopped) (stop : Stopped) → result ≡ Err stop → after ≡ before
      → IfSome told (λ octets. RanTelling most Tells octets left before after result)
  ran_nothing None left before after result stop ended still = tt
  ran_nothing (Some octets) left before after result stop ended still = rw ended (inl still)

  -- However the command ended, nothing was printed, or a prefix of a text that fits.
  pub ran_prints_front : (told left before after : Option (List ℕ)) (result : Result Ending Stopped) → IfSome told (λ octets. RanTelling most Tells octets left before after result)
      → IfSome told (λ octets. PrintsFront most Tells octets before after)
  ran_prints_front None left before after result ran = tt
  ran_prints_front (Some octets) left before after (Ok how) ran = inr (ran.0, ran.1, ([], record { front = ran.0.text; parts = append-nil ran.0.text; wrote = ran.2.0 }))
  ran_prints_front (Some octets) left before after (Err stop) ran = ran

  -- Where nothing is wrong, nothing of the input is left.
  nothing_left : IsSound → (octets : List ℕ) (printed : Printed) → IsTold most Tells octets printed → printed.ending ≡ ending.Whole → printed.left ≡ []
  nothing_left sound octets printed told whole = told.left ∙ drop_all (most + 1) octets (omega (arith, sound octets printed.text printed.ending told.told whole))

  -- A command that ended printed all, with its status.
  pub ran_prints : IsSound → (told left before after : Option (List ℕ)) (result : Result Ending Stopped) (status : ℕ) → status ≡ status_of result → status ≢ 3 → status ≢ 4
      → IfSome told (λ octets. RanTelling most Tells octets left before after result)
      → IfSome told (λ octets. (printed : Printed) × IsTold most Tells octets printed × Prints printed left before after status)
  ran_prints sound None left before after result status is fault memory ran = tt
  ran_prints sound (Some octets) left before after (Ok how) status is fault memory ran =
      (ran.0, ran.1, prints_of ran.0 left before after (Ok how) status is fault memory (nothing_left sound octets ran.0 ran.1) ran.2)
  ran_prints sound (Some octets) left before after (Err stopped.Fault) status is fault memory ran = absurd (fault is)
  ran_prints sound (Some octets) left before after (Err stopped.Memory) status is fault memory ran = absurd (memory is)
