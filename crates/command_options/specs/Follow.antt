-- What the words after `follow` say.
use Rattle.std.specs.Prelude.{◌≡◌, ◌≤◌, Bool, IsSome, true, false, List, [], ◌∷◌, Some, codes, length}
use Rattle.clap.specs.Words.{App, Row, Text, first_of, matches_of}
use Rattle.swima_model.specs.declared.report.Kind.{Kind}
use Rattle.swima_model.specs.declared.report.Kind.TheVariants.{Ids, Full}
use Rattle.command_options.specs.Arguments.{MOST_NUMBER, command, number_rule, default_rule, required_rule, text_rule, words_rule}
use Rattle.command_options.specs.Given.{IsNumber, Takes, number_of, texts_of}
use Rattle.command_options.specs.declared.follow.FollowOptions.{FollowOptions}

-- `--kind TEXT`, `--subscribe TEXT`, `--rounds N`, `--sessions N`, and 1 to 64 addresses.
abbrev pub follow_app : App
follow_app = command (codes "follow") (default_rule (text_rule (codes "kind")) (codes "ids")
    ∷ default_rule (text_rule (codes "subscribe")) (codes "no")
    ∷ default_rule (number_rule (codes "rounds") MOST_NUMBER) (codes "1")
    ∷ default_rule (number_rule (codes "sessions") MOST_NUMBER) (codes "1")
    ∷ required_rule (words_rule (codes "addresses") 1 64) ∷ [])

-- The word for a kind of reports.
abbrev pub kind_word : Kind → Text
kind_word Ids = codes "ids"
kind_word Full = codes "full"

-- The word for whether there is a subscription.
abbrev pub yes_word : Bool → Text
yes_word true = codes "yes"
yes_word false = codes "no"

-- What `clap` found of each argument is there for the options.
pub record FollowThere (rows : List Row) : Type 0 where
  pub kind : IsSome (first_of (codes "kind") rows)
  pub subscribe : IsSome (first_of (codes "subscribe") rows)
  pub rounds : IsNumber (codes "rounds") rows
  pub sessions : IsNumber (codes "sessions") rows

-- The options are what `clap` found.
pub record FollowMeans (rows : List Row) (options : FollowOptions) : Type 0 where
  pub kind : first_of (codes "kind") rows ≡ Some (kind_word options.kind)
  pub subscribe : first_of (codes "subscribe") rows ≡ Some (yes_word options.subscribe)
  pub rounds : number_of (codes "rounds") rows ≡ Some options.rounds
  pub sessions : number_of (codes "sessions") rows ≡ Some options.sessions
  pub addresses : texts_of (codes "addresses") rows ≡ options.addresses

-- `clap` takes the words, and the options are what it finds in them.
abbrev pub IsFollow : List Text → FollowOptions → Type 0
IsFollow words options = Takes follow_app words × FollowMeans (matches_of follow_app words) options

-- Each number is in its range.
pub record FollowWithin (options : FollowOptions) : Type 0 where
  pub rounds : 1 ≤ options.rounds
  pub sessions : 1 ≤ options.sessions
  pub some : 1 ≤ length options.addresses
  pub most : length options.addresses ≤ 64

-- Words that `clap` takes, with one of the words of `--kind` and of `--subscribe`, say options.
abbrev pub TakenIsFollow : Type 0
TakenIsFollow = (words : List Text) (kind : Kind) (subscribe : Bool) → Takes follow_app words
    → first_of (codes "kind") (matches_of follow_app words) ≡ Some (kind_word kind)
    → first_of (codes "subscribe") (matches_of follow_app words) ≡ Some (yes_word subscribe)
    → (options : FollowOptions) × IsFollow words options

-- Words say one value of options at most.
abbrev pub OneFollow : Type 0
OneFollow = (words : List Text) (one other : FollowOptions) → IsFollow words one → IsFollow words other → one ≡ other
