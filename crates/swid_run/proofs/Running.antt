-- What is so of a command line, by what its words ask for.
use Rattle.std.proofs.Common.{◌≡◌, ◌≢◌, ◌≤◌, ◌⊎◌, inl, inr, ℕ, List, ◌∷◌, Option, Result, Ok, Err, refl, sym, ap, ap₂, subst, le_refl, arith}
use Rattle.clap.specs.Words.{Text}
use Rattle.wire_base.specs.Clocks.{Moments}
use Rattle.wire_base.specs.Doors.{LastCame}
use Rattle.wire_base.specs.NamedFile.{Read}
use Rattle.wire_base.specs.Turns.{Turn}
use Rattle.wire_base.specs.declared.outside.files.NamedFile.{NamedFile}
use Rattle.wire_base.specs.declared.outside.stopped.Stopped.{Stopped}
use Rattle.wire_base.specs.declared.outside.stopped.Stopped.TheVariants as stopped
use Rattle.source_set.specs.Sweeping.{SetView}
use Rattle.source_set.specs.declared.told.Told.{Told}
use Rattle.session_door.specs.Visits.{door_state}
use Rattle.session_pool.specs.declared.stand.Stand.{Stand}
use Rattle.command_options.specs.declared.collect.CollectOptions.{CollectOptions}
use Rattle.command_options.specs.declared.follow.FollowOptions.{FollowOptions}
use Rattle.command_text.specs.declared.ending.Ending.{Ending}
use Rattle.command_text.specs.declared.ending.Ending.TheVariants as ending
use Rattle.swid_cli.specs.Run.{status_of}
use Rattle.swid_cli.proofs.Statuses.{status_within}
use Rattle.swid_run.specs.Collecting.{RunsCollect, collect_state}
use Rattle.swid_run.specs.Counts.{HasCauses, NoneFell, OneRose, door_counts}
use Rattle.swid_run.specs.Ends.{EndsWith, output_state}
use Rattle.swid_run.specs.Following.{RunsFollow}
use Rattle.swid_run.specs.Plain.{RunsPlain}
use Rattle.swid_run.specs.Words.{IsLine, SaysCollect, SaysFollow, SaysNeither, Waits}
use Rattle.swid_run.proofs.Counting.{none_fell_still}
use Rattle.swid_run.proofs.Saying.{collect_or_follow, neither_line, one_says_collect, one_says_follow, plain_waits_not, verify_is_line}

-- ---- the status

-- Status 3 is that of a fault.
failed_rose : (before after : List ℕ) (result : Result Ending Stopped) (status : ℕ) → status ≡ status_of result → HasCauses before after result → status ≡ 3 → OneRose before after
failed_rose before after (Ok ending.Whole) status is causes fault = absurd (omega (arith, is, fault))
failed_rose before after (Ok ending.Refused) status is causes fault = absurd (omega (arith, is, fault))
failed_rose before after (Ok ending.Findings) status is causes fault = absurd (omega (arith, is, fault))
failed_rose before after (Err stopped.Fault) status is causes fault = causes.cause
failed_rose before after (Err stopped.Memory) status is causes fault = absurd (omega (arith, is, fault))

-- Below 3 no count rose.
good_still : (before after : List ℕ) (result : Result Ending Stopped) (status : ℕ) → status ≡ status_of result → HasCauses before after result → status ≢ 3 → status ≢ 4 → after ≡ before
good_still before after (Ok how) status is causes fault memory = causes.cause
good_still before after (Err stopped.Fault) status is causes fault memory = absurd (fault is)
good_still before after (Err stopped.Memory) status is causes fault memory = absurd (memory is)

-- ---- counts

same_le : (before after : ℕ) → after ≡ before → before ≤ after
same_le before after same = omega (arith, same)

-- The counts of `follow`, and one that stands between them.
abbrev between : ℕ → List ℕ → List ℕ
between count (first ∷ others) = first ∷ count ∷ others
between count counts = counts

abbrev one_more : ℕ → List ℕ → List ℕ
one_more count counts = count ∷ counts

-- ---- what is lent

-- The objects of the outside that a command is lent, at one moment.
pub record Lent (S K F D C B : Type 0) : Type 0 where
  pub input : S
  pub output : K
  pub files : F
  pub doors : List (Stand D)
  pub clock : C
  pub sources : SetView B

abbrev pub lent : {S K F D C B : Type 0} → S → K → F → List (Stand D) → C → SetView B → Lent S K F D C B
lent input output files doors clock sources = record { input = input; output = output; files = files; doors = doors; clock = clock; sources = sources }

-- ---- what is so of a command line

module _ {S K F D L C B : Type 0} (left : S → Option (List ℕ)) (input_faults : S → ℕ) (written : K → Option (List ℕ)) (output_faults : K → ℕ)
    (exposed : F → Option (List NamedFile)) (made : F → Option (List Read)) (file_faults : F → ℕ)
    (taken : L → Option (List Turn)) (given : L → Option (List ℕ)) (link_faults : L → ℕ)
    (to_come returned : D → Option (List L)) (last : D → Option LastCame) (door_faults : D → ℕ)
    (moments : C → Option Moments) (reports : B → List Told → Type 0) (source_faults : B → ℕ) where
  abbrev Plainly : List Text → Lent S K F D C B → Lent S K F D C B → ℕ → Type 0
  Plainly words before after status = RunsPlain left input_faults written output_faults exposed made file_faults words before.input before.output before.files after.input after.output after.files status

  abbrev Collects : CollectOptions → Lent S K F D C B → Lent S K F D C B → Result Ending Stopped → Type 0
  Collects options before after ended =
      RunsCollect taken given link_faults (door_state to_come returned last door_faults) reports source_faults options
      (collect_state before.sources (moments before.clock) before.doors (output_state written output_faults before.output))
      (collect_state after.sources (moments after.clock) after.doors (output_state written output_faults after.output)) ended

  abbrev Follows : FollowOptions → Lent S K F D C B → Lent S K F D C B → Result Ending Stopped → Type 0
  Follows options before after ended =
      RunsFollow taken given link_faults (door_state to_come returned last door_faults) options before.doors after.doors
      (output_state written output_faults before.output) (output_state written output_faults after.output) ended

  -- The counts of faults of what each of the two commands works with, and of all.
  abbrev follow_counts : Lent S K F D C B → List ℕ
  follow_counts l = output_faults l.output ∷ door_counts door_faults l.doors

  abbrev collect_counts : Lent S K F D C B → List ℕ
  collect_counts l = output_faults l.output ∷ l.sources.faults ∷ door_counts door_faults l.doors

  abbrev counts : Lent S K F D C B → List ℕ
  counts l = input_faults l.input ∷ file_faults l.files ∷ collect_counts l

  -- A field for each clause of `run`.
  pub record Runs (words : List Text) (before after : Lent S K F D C B) (status : ℕ) : Type 0 where
    pub usage : status ≡ 2 → ¬ IsLine words
    pub no_line : ¬ IsLine words → (status ≡ 2) ⊎ ((status ≡ 4) × Waits words)
    pub plain : SaysNeither words → Plainly words before after status
        ⊎ (Waits words × (status ≡ 4) × (after.input ≡ before.input) × (after.output ≡ before.output) × (after.files ≡ before.files))
    pub others_unused : SaysNeither words → (after.doors ≡ before.doors) × (after.clock ≡ before.clock) × (after.sources ≡ before.sources)
    pub collect : (options : CollectOptions) → SaysCollect words options → EndsWith status (Collects options before after)
    pub follow : (options : FollowOptions) → SaysFollow words options → EndsWith status (Follows options before after)
    pub follow_sweeps_nothing : (options : FollowOptions) → SaysFollow words options → (after.clock ≡ before.clock) × (after.sources ≡ before.sources)
    pub unread : Waits words → (after.input ≡ before.input) × (after.files ≡ before.files)
    pub fault : status ≡ 3 → OneRose (counts before) (counts after)
    pub no_fault : status ≢ 2 → status ≢ 3 → status ≢ 4 → counts after ≡ counts before
    pub counts_never_fall : NoneFell (counts before) (counts after)
    pub within : status ≤ 4

  module _ (words : List Text) (before : Lent S K F D C B) (after : Lent S K F D C B) (status : ℕ) where
    -- They ask for neither command.
    pub runs_other : SaysNeither words → Plainly words before after status → status ≤ 4
        → after.doors ≡ before.doors → after.clock ≡ before.clock → after.sources ≡ before.sources → Runs words before after status
    runs_other neither plain within doors clock sources =
        record {
          usage = λ two line. plain.usage.0 two (neither_line words neither line);
          no_line = λ none. inl (plain.usage.1 (λ line. none (inl line)));
          plain = λ _. inl plain;
          others_unused = λ _. (doors, clock, sources);
          collect = λ options said. absurd (neither.collect options said);
          follow = λ options said. absurd (neither.follow options said);
          follow_sweeps_nothing = λ options said. absurd (neither.follow options said);
          unread = λ waits. (
            plain.usage_input (plain.usage.1 (λ line. plain_waits_not words line waits)),
            plain.files (λ verify. plain_waits_not words (verify_is_line words verify) waits),
          );
          fault = λ three. elim (plain.fault three) [
            | inl input ↦ inl input
            | inr others ↦ elim others [
              | inl output ↦ inr (inr (inl output))
              | inr files ↦ inr (inl files.1)
            ]
          ];
          no_fault = λ usage fault memory.
              ap₂ one_more (plain.no_input_fault fault) (ap₂ one_more (plain.no_files_fault fault) (ap₂ one_more (plain.no_output_fault usage fault)
              (ap₂ one_more (ap (λ (set : SetView B). set.faults) sources) (ap (λ (stands : List (Stand D)). door_counts door_faults stands) doors))));
          counts_never_fall = (
            plain.input_count,
            (
              plain.files_count,
              (
                plain.output_count,
                (
                  same_le _ _ (ap (λ (set : SetView B). set.faults) sources),
                  subst (λ (stands : List (Stand D)). NoneFell (door_counts door_faults before.doors) (door_counts door_faults stands)) (sym doors) (none_fell_still _),
                ),
              ),
            ),
          );
          within = within;
        }

    -- They ask for `collect`.
    pub runs_collect : (options : CollectOptions) (ended : Result Ending Stopped) → SaysCollect words options → status ≡ status_of ended → Collects options before after ended
        → HasCauses (collect_counts before) (collect_counts after) ended → after.input ≡ before.input → after.files ≡ before.files → Runs words before after status
    runs_collect options ended said is collects causes input files =
        record {
          usage = λ two line. (status_within ended status is).1 two;
          no_line = λ none. absurd (none (inr (inl (options, said))));
          plain = λ neither. absurd (neither.collect options said);
          others_unused = λ neither. absurd (neither.collect options said);
          collect = λ other so. (ended, is, subst (λ (o : CollectOptions). Collects o before after ended) (one_says_collect words options other said so) collects);
          follow = λ other so. absurd (collect_or_follow words options other said so);
          follow_sweeps_nothing = λ other so. absurd (collect_or_follow words options other said so);
          unread = λ _. (input, files);
          fault = λ three. inr (inr (failed_rose _ _ ended status is causes three));
          no_fault = λ usage fault memory.
              ap₂ one_more (ap input_faults input) (ap₂ one_more (ap file_faults files) (good_still _ _ ended status is causes fault memory));
          counts_never_fall = (same_le _ _ (ap input_faults input), (same_le _ _ (ap file_faults files), causes.later));
          within = (status_within ended status is).0;
        }

    -- They ask for `follow`.
    pub runs_follow : (options : FollowOptions) (ended : Result Ending Stopped) → SaysFollow words options → status ≡ status_of ended → Follows options before after ended
        → HasCauses (follow_counts before) (follow_counts after) ended
        → after.input ≡ before.input → after.files ≡ before.files → after.clock ≡ before.clock → after.sources ≡ before.sources → Runs words before after status
    runs_follow options ended said is follows causes input files clock set =
        let sources = ap (λ (s : SetView B). s.faults) set in
        record {
          usage = λ two line. (status_within ended status is).1 two;
          no_line = λ none. absurd (none (inr (inr (options, said))));
          plain = λ neither. absurd (neither.follow options said);
          others_unused = λ neither. absurd (neither.follow options said);
          collect = λ other so. absurd (collect_or_follow words other options so said);
          follow = λ other so. (ended, is, subst (λ (o : FollowOptions). Follows o before after ended) (one_says_follow words options other said so) follows);
          follow_sweeps_nothing = λ _ _. (clock, set);
          unread = λ _. (input, files);
          fault = λ three. elim (failed_rose _ _ ended status is causes three) [
            | inl output ↦ inr (inr (inl output))
            | inr doors ↦ inr (inr (inr (inr doors)))
          ];
          no_fault = λ usage fault memory.
              ap₂ one_more (ap input_faults input) (ap₂ one_more (ap file_faults files) (ap₂ between sources (good_still _ _ ended status is causes fault memory)));
          counts_never_fall = (same_le _ _ (ap input_faults input), (same_le _ _ (ap file_faults files), (causes.later.0, (same_le _ _ sources, causes.later.1))));
          within = (status_within ended status is).0;
        }

  -- Memory ran out before anything was done.
  pub runs_out : (words : List Text) (still : Lent S K F D C B) → Waits words → Runs words still still 4
  runs_out words still waits = record {
    usage = λ two. absurd (omega (arith, two));
    no_line = λ none. inr (refl, waits);
    plain = λ neither. inr (waits, refl, refl, refl, refl);
    others_unused = λ neither. (refl, refl, refl);
    collect = λ options said. (Err stopped.Memory, refl, inr (refl, refl));
    follow = λ options said. (Err stopped.Memory, refl, inr (refl, refl, refl));
    follow_sweeps_nothing = λ options said. (refl, refl);
    unread = λ _. (refl, refl);
    fault = λ three. absurd (omega (arith, three));
    no_fault = λ usage fault memory. absurd (memory refl);
    counts_never_fall = none_fell_still (counts still);
    within = le_refl 4;
  }
