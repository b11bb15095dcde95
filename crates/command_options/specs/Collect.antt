-- What the words after `collect` say.
use Rattle.std.specs.Prelude.{◌≡◌, ◌≤◌, IsSome, List, [], ◌∷◌, Some, codes, length}
use Rattle.clap.specs.Words.{App, Row, Text, first_of, matches_of}
use Rattle.command_options.specs.Arguments.{MOST_NUMBER, command, number_rule, default_rule, required_rule, text_rule, words_rule}
use Rattle.command_options.specs.Given.{IsNumber, Takes, number_of, texts_of}
use Rattle.command_options.specs.declared.collect.CollectOptions.{CollectOptions}

-- `--listen ADDR --epoch N`, both required, `--cap N`, `--workers N`, `--sessions N`, `--sweeps N`,
-- and up to 255 names of files.
abbrev pub collect_app : App
collect_app = command (codes "collect") (required_rule (text_rule (codes "listen"))
    ∷ required_rule (number_rule (codes "epoch") MOST_NUMBER)
    ∷ default_rule (number_rule (codes "cap") 4096) (codes "1024")
    ∷ default_rule (number_rule (codes "workers") 64) (codes "2")
    ∷ default_rule (number_rule (codes "sessions") MOST_NUMBER) (codes "1")
    ∷ default_rule (number_rule (codes "sweeps") MOST_NUMBER) (codes "1")
    ∷ words_rule (codes "names") 0 255 ∷ [])

-- What `clap` found of each argument is there for the options.
pub record CollectThere (rows : List Row) : Type 0 where
  pub listen : IsSome (first_of (codes "listen") rows)
  pub epoch : IsNumber (codes "epoch") rows
  pub cap : IsNumber (codes "cap") rows
  pub workers : IsNumber (codes "workers") rows
  pub sessions : IsNumber (codes "sessions") rows
  pub sweeps : IsNumber (codes "sweeps") rows

-- The options are what `clap` found.
pub record CollectMeans (rows : List Row) (options : CollectOptions) : Type 0 where
  pub listen : first_of (codes "listen") rows ≡ Some options.listen
  pub epoch : number_of (codes "epoch") rows ≡ Some options.epoch
  pub cap : number_of (codes "cap") rows ≡ Some options.cap
  pub workers : number_of (codes "workers") rows ≡ Some options.workers
  pub sessions : number_of (codes "sessions") rows ≡ Some options.sessions
  pub sweeps : number_of (codes "sweeps") rows ≡ Some options.sweeps
  pub names : texts_of (codes "names") rows ≡ options.names

-- `clap` takes the words, and the options are what it finds in them.
abbrev pub IsCollect : List Text → CollectOptions → Type 0
IsCollect words options = Takes collect_app words × CollectMeans (matches_of collect_app words) options

-- Each number is in its range.
pub record CollectWithin (options : CollectOptions) : Type 0 where
  pub epoch : 1 ≤ options.epoch
  pub cap : 1 ≤ options.cap
  pub most_cap : options.cap ≤ 4096
  pub workers : 1 ≤ options.workers
  pub most_workers : options.workers ≤ 64
  pub sessions : 1 ≤ options.sessions
  pub sweeps : 1 ≤ options.sweeps
  pub names : length options.names ≤ 255

-- Words that `clap` takes say options.
abbrev pub TakenIsCollect : Type 0
TakenIsCollect = (words : List Text) → Takes collect_app words → (options : CollectOptions) × IsCollect words options

-- Words say one value of options at most.
abbrev pub OneCollect : Type 0
OneCollect = (words : List Text) (one other : CollectOptions) → IsCollect words one → IsCollect words other → one ≡ other
