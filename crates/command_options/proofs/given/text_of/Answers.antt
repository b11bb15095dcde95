use Rattle.std.proofs.Common.{◌∙◌, ap, sym}
use Rattle.std.specs.Prelude.{option_map}
use Rattle.clap.specs.Words.{found_of}
use Rattle.clap.proofs.CallerLemmas.{some_of_text}
use Rattle.clap.proofs.WalkLemmas.{first_value-rows}
use Rattle.command_options.proofs.given.text_of.Goals as goal

pub unwrap-requires : goal.unwrap-requires
unwrap-requires c = some_of_text _ c.get_str.result _ (c.get_str.ensures ∙ first_value-rows (found_of c.args.matches.now) c.args.id.now) c.requires.there

pub returns : goal.returns
returns c = record { text = sym (first_value-rows (found_of c.args.matches.now) c.args.id.now) ∙ sym c.get_str.ensures ∙ ap (option_map (λ s. s.now)) c.unwrap.ensures }
