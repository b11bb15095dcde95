-- What `run_plain` says of words, of any input, output and files: a field for each of its clauses.
use Rattle.std.specs.Prelude.{◌≡◌, ◌≢◌, ◌≤◌, ◌⊎◌, ◌↔◌, ℕ, List, Option, IfSome}
use Rattle.clap.specs.Words.{Text}
use Rattle.swima_model.specs.History.{History, IsHonest}
use Rattle.swima_model.specs.declared.report.Kind.{Kind}
use Rattle.wire_base.specs.NamedFile.{Read}
use Rattle.wire_base.specs.Outside.{Adds, Rose}
use Rattle.wire_base.specs.Passing.{AddsFront}
use Rattle.wire_base.specs.declared.outside.files.NamedFile.{NamedFile}
use Rattle.swid_cli.specs.Answering.{AllAnswer, PrintsRight}
use Rattle.swid_cli.specs.Printing.{WordsBegin, WordsPrint, WordsRead}
use Rattle.swid_cli.specs.Run.{usage as usage_line}
use Rattle.swid_cli.specs.Words.{IsCommandLine, IsMake, IsMirror, IsTagVerify}

module _ {S K F : Type 0} (left : S → Option (List ℕ)) (input_faults : S → ℕ) (written : K → Option (List ℕ)) (output_faults : K → ℕ)
    (exposed : F → Option (List NamedFile)) (made : F → Option (List Read)) (file_faults : F → ℕ) where
  pub record RunsPlain (words : List Text) (input : S) (output : K) (folder : F) (input-after : S) (output-after : K) (folder-after : F) (status : ℕ) : Type 0 where
    -- words that are no command line
    pub usage : (status ≡ 2) ↔ ¬ IsCommandLine words
    pub usage_front : status ≡ 2 → AddsFront (written output) (written output-after) usage_line
    pub usage_text : status ≡ 2 → Adds (written output) (written output-after) usage_line ⊎ Rose (output_faults output) (output_faults output-after)
    pub usage_input : status ≡ 2 → input-after ≡ input
    -- words that are one
    pub printed : status ≢ 2 → status ≢ 3 → status ≢ 4
        → WordsPrint words (exposed folder) (left input) (left input-after) (written output) (written output-after) status
    pub front : status ≢ 2 → WordsBegin words (exposed folder) (left input) (written output) (written output-after)
    pub unread : (count : ℕ) → IsMake count words → input-after ≡ input
    pub reads : status ≢ 2 → IfSome (left input) (λ octets. WordsRead words octets status (made folder) (made folder-after))
    pub right : status ≡ 0 → (kind : Kind) → IsMirror kind words → IfSome (left input) (λ octets.
        (history : History) → IsHonest history → AllAnswer history kind octets → PrintsRight history kind (written output) (written output-after))
    -- counts of faults
    pub fault : status ≡ 3 → Rose (input_faults input) (input_faults input-after) ⊎ Rose (output_faults output) (output_faults output-after)
        ⊎ (IsTagVerify words × Rose (file_faults folder) (file_faults folder-after))
    pub no_input_fault : status ≢ 3 → input_faults input-after ≡ input_faults input
    pub no_output_fault : status ≢ 2 → status ≢ 3 → output_faults output-after ≡ output_faults output
    pub no_files_fault : status ≢ 3 → file_faults folder-after ≡ file_faults folder
    pub input_count : input_faults input ≤ input_faults input-after
    pub output_count : output_faults output ≤ output_faults output-after
    pub files_count : file_faults folder ≤ file_faults folder-after
    -- files
    pub contents : exposed folder-after ≡ exposed folder
    pub files : ¬ IsTagVerify words → folder-after ≡ folder
