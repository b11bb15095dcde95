-- The arguments of commands, as `clap` states what it reads of one.
use Rattle.std.specs.Prelude.{ℕ, List, [], ◌∷◌, Some, true}
use Rattle.clap.specs.Words.{App, Rule, Text, new_app, new_rule}
use Rattle.clap.specs.declared.builder.action.ArgAction.TheVariants.{Set}
use Rattle.clap.specs.declared.builder.value_parser.ValueParser.TheVariants as parser

-- `--ID TEXT`, at most once.
abbrev pub text_rule : Text → Rule
text_rule id = record (new_rule id) { long = Some id; action = Some Set }

-- `--ID N`, at most once, for a number from 1 to `most`.
abbrev pub number_rule : Text → ℕ → Rule
number_rule id most = record (text_rule id) { parser = Some (parser.Unsigned 1 most) }

-- From `least` to `most` words in a row that belong to no option.
abbrev pub words_rule : Text → ℕ → ℕ → Rule
words_rule id least most = record (new_rule id) {
  action = Some Set;
  range = Some (record { start_inclusive = least; end_inclusive = most });
}

-- The argument has to be there.
abbrev pub required_rule : Rule → Rule
required_rule rule = record rule { required = true }

-- The value that stands for the argument where it is not there.
abbrev pub default_rule : Rule → Text → Rule
default_rule rule text = record rule { defaults = text ∷ [] }

-- A simple command without help or version, over the words after its name.
abbrev pub command : Text → List Rule → App
command name rules = record (new_app name) {
  top = record (new_app name).top {
    rules = rules;
    no_binary_name = true;
    disable_help_flag = true;
    disable_version_flag = true;
  };
}

-- The largest number of 32 bits.
abbrev pub MOST_NUMBER : ℕ
MOST_NUMBER = 4294967295
