-- What `clap` states that the words of a command give.
use Rattle.std.specs.Prelude.{◌≡◌, ◌≢◌, ℕ, List, [], Option, Some, None, Result, Ok, Err, option_map, unwrap_or}
use Rattle.std.specs.Str.Parse.{digits_value, without_leading_plus}
use Rattle.clap.specs.Words.{App, Row, Text, all_of, fault_of, first_of, found_of, matches_of, one_of, rows_of, IsUnsignedIn}
use Rattle.clap.specs.declared.parser.matches.ArgMatches.{ArgMatches}
use Rattle.command_options.specs.Arguments.{MOST_NUMBER}
use Rattle.command_options.specs.declared.refused.OptionsRefused.{OptionsRefused}
use Rattle.command_options.specs.declared.refused.OptionsRefused.TheVariants as refused

-- `clap` takes the words for the command: it reports no mistake.
abbrev pub Takes : App → List Text → Type 0
Takes app words = fault_of app words ≡ []

-- The number of decimal digits, which a plus sign may precede.
abbrev pub number : Text → ℕ
number text = digits_value 10 (without_leading_plus text)

-- The number of an argument.
abbrev pub number_of : Text → List Row → Option ℕ
number_of id rows = option_map number (first_of id rows)

-- The text of the argument spells a number from 1 to the largest of 32 bits, and is read as it is.
pub record IsNumber (id : Text) (rows : List Row) : Type 0 where
  pub text : Text
  pub first : first_of id rows ≡ Some text
  pub read : one_of id rows ≡ Some text
  pub number : IsUnsignedIn 1 MOST_NUMBER text

-- The words of an argument; none where it is not there.
abbrev pub texts_of : Text → List Row → List Text
texts_of id rows = unwrap_or (all_of id rows) []

-- The options that words say, or that they say none. Nothing is said where memory ran out.
abbrev pub Reads : {A : Type 0} → (A → Type 0) → Result A OptionsRefused → Type 0
Reads Says (Ok options) = Says options
Reads Says (Err refused.Usage) = (options : _) → Says options → ⊥
Reads Says (Err refused.Memory) = Unit {0}

-- The value that a word names, or that it names none.
abbrev pub Names : {A : Type 0} → (A → Text) → Text → Option A → Type 0
Names word-of word (Some value) = word-of value ≡ word
Names word-of word None = (value : _) → word-of value ≢ word

-- What `clap` found for the command in words that it takes, or that it does not take them. Nothing
-- is said where memory ran out.
abbrev pub Finds : App → List Text → Result ArgMatches OptionsRefused → Type 0
Finds app words (Ok matches) = Takes app words × (rows_of (found_of matches) ≡ matches_of app words)
Finds app words (Err refused.Usage) = fault_of app words ≢ []
Finds app words (Err refused.Memory) = Unit {0}
