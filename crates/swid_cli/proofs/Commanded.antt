-- What the words of a command line come to, from what their command did.
use Rattle.std.proofs.Common.{◌≡◌, ◌≢◌, ◌≤◌, ◌⊎◌, ◌∙◌, inl, inr, ℕ, List, [], ◌∷◌, Option, Result, Ok, Err, refl, sym, ap, subst, arith}
use Rattle.std.specs.Prelude.{◌↔◌, IfSome}
use Rattle.wire_base.specs.NamedFile.{Read}
use Rattle.wire_base.specs.Outside.{Adds, HasCause, Rose}
use Rattle.wire_base.specs.Passing.{AddsFront, is_fault}
use Rattle.wire_base.specs.declared.outside.files.NamedFile.{NamedFile}
use Rattle.wire_base.specs.declared.outside.stopped.Stopped.{Stopped}
use Rattle.wire_base.specs.declared.outside.stopped.Stopped.TheVariants as stopped
use Rattle.swima_model.specs.History.{History, IsHonest}
use Rattle.swima_model.specs.declared.report.Kind.{Kind}
use Rattle.command_text.specs.declared.ending.Ending.{Ending}
use Rattle.command_text.specs.declared.ending.Ending.TheVariants as ending
use Rattle.session_script.specs.Replay.{SCRIPT_OCTETS, ReplayTells}
use Rattle.swid_cli.specs.declared.command.Command.{Command}
use Rattle.swid_cli.specs.declared.command.Command.TheVariants.{Mirror, Tag, Links, Replay, Make}
use Rattle.swid_cli.specs.declared.command.Scope.{Scope}
use Rattle.swid_cli.specs.declared.command.Scope.TheVariants as scope
use Rattle.swid_cli.specs.Answering.{AllAnswer, PrintsRight}
use Rattle.swid_cli.specs.Causes.{HasCauses, HasFilesCauses}
use Rattle.swid_cli.specs.Commands.{Says}
use Rattle.swid_cli.specs.Links.{LIST_OCTETS, LinksTells}
use Rattle.swid_cli.specs.Printing.{CommandPrints, CommandReads, PrintsAll, PrintsPart, WordsBegin, WordsPrint, WordsRead}
use Rattle.swid_cli.specs.Run.{status_of, usage as usage_line}
use Rattle.swid_cli.specs.Running.{IsFit, RunsCommand}
use Rattle.swid_cli.specs.Tagging.{TAG_OCTETS}
use Rattle.swid_cli.specs.Words.{IsCommandLine, IsMake, IsMirror, IsTagVerify}
use Rattle.swid_cli.proofs.Answered.{prints_right}
use Rattle.swid_cli.proofs.LinksTelling.{links_sound}
use Rattle.swid_cli.proofs.Statuses.{status_within}
use Rattle.swid_cli.proofs.Printing.{made_begins, made_prints, mirror_begins, mirror_prints, no_reads, tag_reads, words_read}
use Rattle.swid_cli.proofs.ReplayTelling.{replay_sound}
use Rattle.swid_cli.proofs.Running.{one_kind, prints}
use Rattle.swid_cli.proofs.TagTelling.{tag_sound}
use Rattle.swid_cli.proofs.Telling.{ran_prints, ran_prints_front}
use Rattle.swid_cli.proofs.Wording.{said_line}

-- ---- what the words say

pub said_fit : (which : Command) (words : List (List ℕ)) → Says which words → IsFit which
said_fit (Mirror kind) words said = tt
said_fit (Tag looked_at) words said = tt
said_fit Links words said = tt
said_fit Replay words said = tt
said_fit (Make count) words said = said.1.0

-- What it looks at: files only for `tag verify`.
abbrev scope_of : Command → Scope
scope_of (Tag looked_at) = looked_at
scope_of other = scope.Tag

no_files : scope.Tag ≡ scope.Files → ⊥
no_files e = absurd cc

files_said : (which : Command) (words : List (List ℕ)) → Says which words → scope_of which ≡ scope.Files → IsTagVerify words
files_said (Tag scope.Files) words said is = said
files_said (Tag scope.Tag) words said is = absurd (no_files is)
files_said (Mirror kind) words said is = absurd (no_files is)
files_said Links words said is = absurd (no_files is)
files_said Replay words said is = absurd (no_files is)
files_said (Make count) words said is = absurd (no_files is)

none_said : (which : Command) (words : List (List ℕ)) → Says which words → (IsTagVerify words → ⊥) → scope_of which ≡ scope.Tag
none_said (Tag scope.Files) words said none = absurd (none said)
none_said (Tag scope.Tag) words said none = refl
none_said (Mirror kind) words said none = refl
none_said Links words said none = refl
none_said Replay words said none = refl
none_said (Make count) words said none = refl

-- Two words are not one, and the first words of two commands differ.
one_not_two : (one : List ℕ) (first second : List ℕ) (words : List (List ℕ)) → words ≡ one ∷ [] → words ≡ first ∷ second ∷ [] → ⊥
one_not_two one first second words single both = never (sym single ∙ both)
  where
    never : {A : Type 0} {x y z : A} → x ∷ [] ≡ y ∷ z ∷ [] → ⊥
    never e = absurd cc

abbrev first_octet : List (List ℕ) → ℕ
first_octet ((octet ∷ octets) ∷ words) = octet
first_octet words = 0

abbrev second_octet : List (List ℕ) → ℕ
second_octet ((first ∷ octet ∷ octets) ∷ words) = octet
second_octet words = 0

-- Words that are those of `mirror` say no other command.
mirror_said : (which : Command) (kind : Kind) (words : List (List ℕ)) → Says which words → IsMirror kind words → which ≡ Mirror kind
mirror_said (Mirror one) kind words said is = ap (λ (k : Kind). Mirror k) (one_kind one kind words said is)
mirror_said (Tag scope.Tag) kind words said is = absurd (one_not_two _ _ _ words said is)
mirror_said (Tag scope.Files) kind words said is = let octets : 116 ≡ 109 = ap first_octet (sym said ∙ is) in absurd (omega (arith, octets))
mirror_said Links kind words said is = absurd (one_not_two _ _ _ words said is)
mirror_said Replay kind words said is = absurd (one_not_two _ _ _ words said is)
mirror_said (Make count) kind words said is = let octets : 97 ≡ 105 = ap second_octet (sym said.2 ∙ is) in absurd (omega (arith, octets))

-- Nor do those of `make`.
make_said : (which : Command) (count : ℕ) (words : List (List ℕ)) → Says which words → IsMake count words → (made : ℕ) × (which ≡ Make made)
make_said (Make made) count words said is = (made, refl)
make_said (Mirror kind) count words said is = let octets : 105 ≡ 97 = ap second_octet (sym said ∙ is.2) in absurd (omega (arith, octets))
make_said (Tag scope.Tag) count words said is = absurd (one_not_two _ _ _ words said is.2)
make_said (Tag scope.Files) count words said is = let octets : 116 ≡ 109 = ap first_octet (sym said ∙ is.2) in absurd (omega (arith, octets))
make_said Links count words said is = absurd (one_not_two _ _ _ words said is.2)
make_said Replay count words said is = absurd (one_not_two _ _ _ words said is.2)

-- ---- causes

-- Commands that look at no files have their causes too.
no_files_causes : (ib ia ob oa fb fa : ℕ) (ended : Result Ending Stopped) → HasCauses ib ia ob oa ended → fa ≡ fb → HasFilesCauses scope.Tag ib ia ob oa fb fa ended
no_files_causes ib ia ob oa fb fa (Ok how) causes same = record { input = causes.input; output = causes.output; files = omega (arith, same); cause = (causes.cause.0, causes.cause.1, same) }
no_files_causes ib ia ob oa fb fa (Err stopped.Fault) causes same = record {
  input = causes.input;
  output = causes.output;
  files = omega (arith, same);
  cause = elim causes.cause [
    | inl input ↦ inl input
    | inr output ↦ inr (inl output)
  ];
}
no_files_causes ib ia ob oa fb fa (Err stopped.Memory) causes same = record { input = causes.input; output = causes.output; files = omega (arith, same); cause = (causes.cause.0, causes.cause.1, same) }

output_causes : (ib ia ob oa fb fa : ℕ) (ended : Result Ending Stopped) → ia ≡ ib → HasCause ob oa (is_fault ended) → fa ≡ fb → HasFilesCauses scope.Tag ib ia ob oa fb fa ended
output_causes ib ia ob oa fb fa (Ok how) input cause same = record { input = omega (arith, input); output = cause.later; files = omega (arith, same); cause = (input, cause.cause, same) }
output_causes ib ia ob oa fb fa (Err stopped.Fault) input cause same = record { input = omega (arith, input); output = cause.later; files = omega (arith, same); cause = inr (inl cause.cause) }
output_causes ib ia ob oa fb fa (Err stopped.Memory) input cause same = record { input = omega (arith, input); output = cause.later; files = omega (arith, same); cause = (input, cause.cause, same) }

-- What the counts of faults say of the status.
record Counted (which : Command) (words : List (List ℕ)) (ib ia ob oa fb fa status : ℕ) : Type 0 where
  fault : status ≡ 3 → Rose ib ia ⊎ Rose ob oa ⊎ (IsTagVerify words × Rose fb fa)
  no_input_fault : status ≢ 3 → ia ≡ ib
  no_output_fault : status ≢ 3 → oa ≡ ob
  no_files_fault : status ≢ 3 → fa ≡ fb

counted : (which : Command) (words : List (List ℕ)) (ib ia ob oa fb fa status : ℕ) (ended : Result Ending Stopped) → Says which words → status ≡ status_of ended
    → HasFilesCauses (scope_of which) ib ia ob oa fb fa ended → Counted which words ib ia ob oa fb fa status
counted which words ib ia ob oa fb fa status (Ok how) said is causes = record {
  fault = λ three. absurd (not_three how status is three);
  no_input_fault = λ _. causes.cause.0;
  no_output_fault = λ _. causes.cause.1;
  no_files_fault = λ _. causes.cause.2;
}
  where
    not_three : (how : Ending) (status : ℕ) → status ≡ status_of (Ok how) → status ≡ 3 → ⊥
    not_three ending.Whole status is three = omega (arith, is, three)
    not_three ending.Refused status is three = omega (arith, is, three)
    not_three ending.Findings status is three = omega (arith, is, three)
counted which words ib ia ob oa fb fa status (Err stopped.Fault) said is causes = record {
  fault = λ three. elim causes.cause [
    | inl input ↦ inl input
    | inr others ↦ elim others [
      | inl output ↦ inr (inl output)
      | inr files ↦ inr (inr (files_said which words said files.0, files.1))
    ]
  ];
  no_input_fault = λ none. absurd (none is);
  no_output_fault = λ none. absurd (none is);
  no_files_fault = λ none. absurd (none is);
}
counted which words ib ia ob oa fb fa status (Err stopped.Memory) said is causes = record {
  fault = λ three. absurd (omega (arith, is, three));
  no_input_fault = λ _. causes.cause.0;
  no_output_fault = λ _. causes.cause.1;
  no_files_fault = λ _. causes.cause.2;
}

-- ---- all that is so of a command line

module _ {S K F : Type 0} (left : S → Option (List ℕ)) (input_faults : S → ℕ) (written : K → Option (List ℕ)) (output_faults : K → ℕ)
    (exposed : F → Option (List NamedFile)) (made : F → Option (List Read)) (file_faults : F → ℕ) where
  -- A field for each clause of `run_plain`.
  pub record Runs (words : List (List ℕ)) (input : S) (output : K) (folder : F) (input-after : S) (output-after : K) (folder-after : F) (status : ℕ) : Type 0 where
    pub usage : (status ≡ 2) ↔ ¬ IsCommandLine words
    pub usage_front : status ≡ 2 → AddsFront (written output) (written output-after) usage_line
    pub usage_text : status ≡ 2 → Adds (written output) (written output-after) usage_line ⊎ Rose (output_faults output) (output_faults output-after)
    pub usage_input : status ≡ 2 → input-after ≡ input
    pub printed : status ≢ 2 → status ≢ 3 → status ≢ 4
        → WordsPrint words (exposed folder) (left input) (left input-after) (written output) (written output-after) status
    pub front : status ≢ 2 → WordsBegin words (exposed folder) (left input) (written output) (written output-after)
    pub unread : (count : ℕ) → IsMake count words → input-after ≡ input
    pub reads : status ≢ 2 → IfSome (left input) (λ octets. WordsRead words octets status (made folder) (made folder-after))
    pub right : status ≡ 0 → (kind : Kind) → IsMirror kind words → IfSome (left input) (λ octets.
        (history : History) → IsHonest history → AllAnswer history kind octets → PrintsRight history kind (written output) (written output-after))
    pub fault : status ≡ 3 → Rose (input_faults input) (input_faults input-after) ⊎ Rose (output_faults output) (output_faults output-after)
        ⊎ (IsTagVerify words × Rose (file_faults folder) (file_faults folder-after))
    pub no_input_fault : status ≢ 3 → input_faults input-after ≡ input_faults input
    pub no_output_fault : status ≢ 2 → status ≢ 3 → output_faults output-after ≡ output_faults output
    pub no_files_fault : status ≢ 3 → file_faults folder-after ≡ file_faults folder
    pub input_count : input_faults input ≤ input_faults input-after
    pub output_count : output_faults output ≤ output_faults output-after
    pub files_count : file_faults folder ≤ file_faults folder-after
    pub within : status ≤ 4
    pub contents : exposed folder-after ≡ exposed folder
    pub files : ¬ IsTagVerify words → folder-after ≡ folder

  module _ (input : S) (output : K) (folder : F) (input-after : S) (output-after : K) (folder-after : F) (ended : Result Ending Stopped) where
    abbrev Ran : Command → Type 0
    Ran which = RunsCommand left input_faults written output_faults exposed made file_faults which input output folder input-after output-after folder-after ended

    -- What is so of a command is so of one that is equal to it.
    pub ran_same : (which one : Command) → which ≡ one → Ran one → Ran which
    ran_same which one is ran = subst (λ (k : Command). Ran k) (sym is) ran

    causes_of : (which : Command) → Ran which
        → HasFilesCauses (scope_of which) (input_faults input) (input_faults input-after) (output_faults output) (output_faults output-after) (file_faults folder) (file_faults folder-after) ended
    causes_of (Mirror kind) ran = no_files_causes _ _ _ _ _ _ ended ran.1 (ap file_faults ran.2)
    causes_of (Tag looked_at) ran = ran.1
    causes_of Links ran = no_files_causes _ _ _ _ _ _ ended ran.1 (ap file_faults ran.2)
    causes_of Replay ran = no_files_causes _ _ _ _ _ _ ended ran.1 (ap file_faults ran.2)
    causes_of (Make count) ran = output_causes _ _ _ _ _ _ ended (ap input_faults ran.2) ran.1 (ap file_faults ran.3)

    contents_of : (which : Command) → Ran which → exposed folder-after ≡ exposed folder
    contents_of (Mirror kind) ran = ap exposed ran.2
    contents_of (Tag looked_at) ran = ran.2
    contents_of Links ran = ap exposed ran.2
    contents_of Replay ran = ap exposed ran.2
    contents_of (Make count) ran = ap exposed ran.3

    untouched_of : (which : Command) → Ran which → scope_of which ≡ scope.Tag → folder-after ≡ folder
    untouched_of (Mirror kind) ran none = ran.2
    untouched_of (Tag looked_at) ran none = ran.3 none
    untouched_of Links ran none = ran.2
    untouched_of Replay ran none = ran.2
    untouched_of (Make count) ran none = ran.3

    reads_of : (which : Command) → Ran which → IfSome (left input) (λ octets. CommandReads which octets ended (made folder) (made folder-after))
    reads_of (Mirror kind) ran = no_reads (left input) ended _ _ (ap made ran.2)
    reads_of (Tag looked_at) ran = tag_reads looked_at (left input) ended _ _ ran.4 (λ none. ap made (ran.3 none))
    reads_of Links ran = no_reads (left input) ended _ _ (ap made ran.2)
    reads_of Replay ran = no_reads (left input) ended _ _ (ap made ran.2)
    reads_of (Make count) ran = no_reads (left input) ended _ _ (ap made ran.3)

    prints_of_command : (which : Command) (status : ℕ) → status ≡ status_of ended → status ≢ 3 → status ≢ 4 → Ran which
        → PrintsAll (CommandPrints which (exposed folder)) (left input) (left input-after) (written output) (written output-after) status
    prints_of_command (Mirror kind) status is fault memory ran = mirror_prints kind _ _ _ _ status (prints kind _ _ _ _ ended status is fault memory ran.0)
    prints_of_command (Tag looked_at) status is fault memory ran = ran_prints TAG_OCTETS _ (tag_sound looked_at (exposed folder)) _ _ _ _ ended status is fault memory ran.0
    prints_of_command Links status is fault memory ran = ran_prints LIST_OCTETS LinksTells links_sound _ _ _ _ ended status is fault memory ran.0
    prints_of_command Replay status is fault memory ran = ran_prints SCRIPT_OCTETS ReplayTells replay_sound _ _ _ _ ended status is fault memory ran.0
    prints_of_command (Make count) status is fault memory ran = made_prints count _ _ ended status is fault memory ran.0

    begins_of_command : (which : Command) → Ran which → PrintsPart (CommandPrints which (exposed folder)) (left input) (written output) (written output-after)
    begins_of_command (Mirror kind) ran = mirror_begins kind _ _ _ _ ended ran.0
    begins_of_command (Tag looked_at) ran = ran_prints_front TAG_OCTETS _ _ _ _ _ ended ran.0
    begins_of_command Links ran = ran_prints_front LIST_OCTETS LinksTells _ _ _ _ ended ran.0
    begins_of_command Replay ran = ran_prints_front SCRIPT_OCTETS ReplayTells _ _ _ _ ended ran.0
    begins_of_command (Make count) ran = made_begins count _ _ ended ran.0

    made_unread : (which : Command) (count : ℕ) → Ran which → which ≡ Make count → input-after ≡ input
    made_unread which count ran is = (subst (λ (one : Command). Ran one) is ran).2

    mirror_right : (which : Command) (kind : Kind) (status : ℕ) → status ≡ status_of ended → status ≡ 0 → Ran which → which ≡ Mirror kind
        → IfSome (left input) (λ octets. (history : History) → IsHonest history → AllAnswer history kind octets → PrintsRight history kind (written output) (written output-after))
    mirror_right which kind status is good ran mirror =
        prints_right kind _ _ _ _ status good
        (prints kind _ _ _ _ ended status is (λ fault. absurd (omega (arith, good, fault))) (λ memory. absurd (omega (arith, good, memory))) (subst (λ (one : Command). Ran one) mirror ran).0)

    pub runs_words : (words : List (List ℕ)) (which : Command) (status : ℕ) → status ≡ status_of ended → Says which words → Ran which → Runs words input output folder input-after output-after folder-after status
    runs_words words which status is said ran =
        let causes = causes_of which ran in
        let counts = counted which words _ _ _ _ _ _ status ended said is causes in
        let not_two = (status_within ended status is).1 in
        record {
          usage = (λ two. absurd (not_two two), λ none. absurd (none (said_line which words said)));
          usage_front = λ two. absurd (not_two two);
          usage_text = λ two. absurd (not_two two);
          usage_input = λ two. absurd (not_two two);
          printed = λ usage fault memory. record { command = which; said = said; prints = prints_of_command which status is fault memory ran };
          front = λ usage. record { command = which; said = said; begins = begins_of_command which ran };
          unread = λ count words_make. let made = make_said which count words said words_make in made_unread which made.0 ran made.1;
          reads = λ usage. words_read words which said _ ended status is _ _ (reads_of which ran);
          right = λ good kind words_mirror. mirror_right which kind status is good ran (mirror_said which kind words said words_mirror);
          fault = counts.fault;
          no_input_fault = counts.no_input_fault;
          no_output_fault = λ usage. counts.no_output_fault;
          no_files_fault = counts.no_files_fault;
          input_count = causes.input;
          output_count = causes.output;
          files_count = causes.files;
          within = (status_within ended status is).0;
          contents = contents_of which ran;
          files = λ none. untouched_of which ran (none_said which words said none);
        }
